use Rattle.std.proofs.Common.{◌∷◌}
use Rattle.wa_base.specs.GraphNames.{param_word}
use Rattle.explain.specs.LineReading.{words_left}
use Rattle.explain.proofs.KeyReading.{no_par}
use Rattle.explain.proofs.reading.keys.take_par.Goals as goal

pub returns-in_err-number : goal.returns-in_err-number
returns-in_err-number c =
    rw c.from_residual-in_err-number.ensures
    (no_par (words_left c.args.words.now) (λ f n name more a same. c.in_err-number.ensures n (param_word name ∷ more) a (cc c.in_ok-frame.ensures.1)))
