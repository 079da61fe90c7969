use Rattle.std.proofs.Common.{None, arith}
use Rattle.std.proofs.lemmas.Str.Pattern.{strip_prefix_char}
use Rattle.script_fields.proofs.Programs.{minus_none}
use Rattle.script_fields.proofs.instructions.without_minus.Goals as goal

pub returns-in-None : goal.returns-in-None
returns-in-None c = minus_none c.args.text.now (strip_prefix_char 45 c.args.text.now None c.in-None.ensures.cases (omega arith))
