use Rattle.law_base.proofs.SchemeLaws.{moment-zero}
use Rattle.meaning.specs.Values.{value_at, value_scheme, known_at}
use Rattle.meaning.proofs.CountLaws.{count_silence, count_recursion}
use Rattle.meaning.proofs.ValueLaws.{value_suc}
use Rattle.meaning.proofs.recursion_law.Goals as goal

pub returns : goal.returns
unfolding value_at
returns c q tape f j h = (moment-zero (value_scheme q) (known_at q tape) f, value_suc q tape f h, count_silence q tape j, count_recursion q tape j h)
