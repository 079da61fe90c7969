use Rattle.std.proofs.Common.{◌∷◌, decimal}
use Rattle.explain.specs.LineReading.{words_left}
use Rattle.explain.proofs.KeyReading.{no_out}
use Rattle.explain.proofs.reading.keys.take_out.Goals as goal

pub returns-in_err-output : goal.returns-in_err-output
returns-in_err-output c =
    rw c.from_residual-in_err-output.ensures
    (no_out (words_left c.args.words.now) (λ f e o ch more a b same. c.in_err-output.ensures o (decimal ch ∷ more) a (cc (c.in_ok-frame.ensures.1, c.in_ok-end.ensures.1))))

pub returns-in_err-channel : goal.returns-in_err-channel
returns-in_err-channel c =
    rw c.from_residual-in_err-channel.ensures
    (no_out (words_left c.args.words.now) (λ f e o ch more a b same. c.in_err-channel.ensures ch more b (cc (c.in_ok-frame.ensures.1, c.in_ok-end.ensures.1, c.in_ok-output.ensures.1))))
