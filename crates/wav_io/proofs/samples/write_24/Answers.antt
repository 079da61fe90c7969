use Rattle.std.proofs.Common.{rules, arith, refl, ◌+◌, ◌-◌, ◌*◌, ◌++◌, ℤ, pos, FitsSigned, take, drop, get_or, ap, ◌∙◌}
use Rattle.std.specs.Int.{w32, w64}
use Rattle.std.proofs.lemmas.Int.{to_z-of_z}
use Rattle.byteorder.specs.Endian.{little_bytes, low_bytes}
use Rattle.wav_io.specs.WavText.{sample_of}
use Rattle.wav_io.proofs.Steps.{one_more}
use Rattle.wav_io.proofs.samples.write_24.Goals as goal

pub samples-preserved : goal.samples-preserved
samples-preserved c =
    let value : FitsSigned w32 (get_or c.args.rows.now c.samples.i (pos 0)) = search rules in
    let sample : FitsSigned w32 c.sample_24.result = search rules in
    let sample_is = to_z-of_z _ _ sample ∙ c.sample_24.ensures ∙ ap (sample_of 24) (to_z-of_z _ _ value) in
    let rest = drop 3 (take (3 * c.samples.i + 3 - 3 * c.samples.i) (drop (3 * c.samples.i) c.samples.out)) in
    let written = c.write_i24.ensures ∙ ap (λ (z : ℤ). little_bytes 3 (low_bytes w64 3 z) ++ rest) sample_is in
    one_more 24 3 _ _ _ _ _ rest refl (omega arith) (omega arith) (omega arith) written c.samples.invariant
