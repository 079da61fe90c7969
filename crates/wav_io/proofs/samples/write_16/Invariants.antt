use Rattle.std.proofs.Common.{◌≡◌, ◌*◌, take}
use Rattle.wav_io.specs.WavText.{samples_bytes}
use Rattle.wav_io.proofs.samples.write_16.Given as goal

abbrev pub invariant-samples : goal.invariant-samples
invariant-samples l = take (2 * l.i) l.out ≡ samples_bytes 16 (take l.i l.rows)
