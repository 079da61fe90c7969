use Rattle.std.proofs.Common.{◌≡◌}
use Rattle.std.specs.List.{flat_map, range_with_len}
use Rattle.wav_io.specs.WavGrammar as grammar
use Rattle.wav_io.proofs.values.values_in.Given as goal

abbrev pub invariant-channels : goal.invariant-channels
invariant-channels l = l.values.items ≡ flat_map (grammar.channel_values l.bytes l.format l.start l.frames) (range_with_len 0 l.channel)
