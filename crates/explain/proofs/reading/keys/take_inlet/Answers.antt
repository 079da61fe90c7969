use Rattle.std.proofs.Common.{◌∷◌, decimal}
use Rattle.explain.specs.LineReading.{words_left}
use Rattle.explain.proofs.KeyReading.{no_inlet}
use Rattle.explain.proofs.reading.keys.take_inlet.Goals as goal

pub returns-in_err-input : goal.returns-in_err-input
returns-in_err-input c =
    rw c.from_residual-in_err-input.ensures
    (no_inlet (words_left c.args.words.now) (λ f e i ch more a b same. c.in_err-input.ensures i (decimal ch ∷ more) a (cc (c.in_ok-frame.ensures.1, c.in_ok-end.ensures.1))))

pub returns-in_err-channel : goal.returns-in_err-channel
returns-in_err-channel c =
    rw c.from_residual-in_err-channel.ensures
    (no_inlet (words_left c.args.words.now) (λ f e i ch more a b same. c.in_err-channel.ensures ch more b (cc (c.in_ok-frame.ensures.1, c.in_ok-end.ensures.1, c.in_ok-input.ensures.1))))
