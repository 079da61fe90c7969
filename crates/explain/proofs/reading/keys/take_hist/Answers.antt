use Rattle.explain.specs.LineReading.{words_left}
use Rattle.explain.proofs.KeyReading.{no_hist}
use Rattle.explain.proofs.reading.keys.take_hist.Goals as goal

pub returns-in_err-channel : goal.returns-in_err-channel
returns-in_err-channel c =
    rw c.from_residual-in_err-channel.ensures
    (no_hist (words_left c.args.words.now) (λ f n ch more a b same. c.in_err-channel.ensures ch more b (cc (c.in_ok-frame.ensures.1, c.in_ok-number.ensures.1))))
