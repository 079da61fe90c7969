use Rattle.std.proofs.Common.{◌+◌, ◌-◌, ◌*◌, ◌/◌, length, ap, ◌∙◌, arith}
use Rattle.std.specs.Prelude.{min}
use Rattle.wav_io.proofs.Widths.{block_high, block_low}
use Rattle.wav_io.proofs.reading.frames_in.Goals as goal

pub overflow_mul-block : goal.overflow_mul-block
overflow_mul-block c = omega (arith, block_high c.args.format.now.channels c.args.format.now.bits c.requires.channels_high c.requires.width)

pub nonzero_div-result : goal.nonzero_div-result
nonzero_div-result c = block_low c.args.format.now.channels c.args.format.now.bits c.requires.channels_low c.requires.width

pub returns-clause-value : goal.returns-clause-value
returns-clause-value c =
    let format = c.args.format.now in
    let chunk = c.args.chunk.now in
    ap (λ end. (end - (chunk.place + 8)) / (format.channels * (format.bits / 8))) (c.min.ensures ∙ ap (min (length c.args.bytes.now)) c.body_end.ensures)
