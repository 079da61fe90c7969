use Rattle.std.proofs.Common.{◌≡◌, ◌*◌, take}
use Rattle.wav_io.specs.WavText.{samples_bytes}
use Rattle.wav_io.proofs.samples.write_24.Given as goal

abbrev pub invariant-samples : goal.invariant-samples
invariant-samples l = take (3 * l.i) l.out ≡ samples_bytes 24 (take l.i l.rows)
