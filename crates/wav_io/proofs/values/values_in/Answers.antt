use Rattle.std.proofs.Common.{◌/◌, ◌++◌, sym, ap, ◌∙◌, arith}
use Rattle.wav_io.specs.WavGrammar.{channel_values}
use Rattle.wav_io.proofs.Ranges.{flat_map-range_more}
use Rattle.wav_io.proofs.Widths.{width_low, values_within}
use Rattle.wav_io.proofs.values.values_in.Goals as goal

pub overflow_mul-frames : goal.overflow_mul-frames
overflow_mul-frames c =
    let format = c.args.format.now in
    omega (arith, values_within c.args.frames format.channels (format.bits / 8) (width_low format.bits c.requires.width))

pub channels-preserved : goal.channels-preserved
channels-preserved c =
    let values = channel_values c.args.bytes.now c.args.format.now c.args.start c.args.frames in
    c.in_ok-push_channel.ensures
    ∙ ap (λ xs. xs ++ values c.channels.channel) c.channels.invariant
    ∙ sym (flat_map-range_more values 0 c.channels.channel c.channels.channel (omega arith))
