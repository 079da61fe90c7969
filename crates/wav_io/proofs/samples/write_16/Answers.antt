use Rattle.std.proofs.Common.{rules, arith, refl, ◌+◌, ◌-◌, ◌*◌, ◌++◌, ℕ, pos, FitsSigned, take, drop, get_or, sym, ap, ◌∙◌}
use Rattle.std.specs.Int.{w16, w32, w64, cast_unsigned}
use Rattle.std.proofs.lemmas.Int.{to_z-of_z}
use Rattle.byteorder.specs.Endian.{little_bytes, low_bytes}
use Rattle.wav_io.specs.WavText.{sample_of}
use Rattle.wav_io.proofs.Steps.{low_bytes_16, one_more}
use Rattle.wav_io.proofs.samples.write_16.Goals as goal

pub samples-preserved : goal.samples-preserved
samples-preserved c =
    let value : FitsSigned w32 (get_or c.args.rows.now c.samples.i (pos 0)) = search rules in
    let sample : FitsSigned w16 c.sample_16.result = search rules in
    let sample_is = c.sample_16.ensures ∙ ap (sample_of 16) (to_z-of_z _ _ value) in
    let bytes_are = ap (cast_unsigned w16) (to_z-of_z _ _ sample) ∙ sym (low_bytes_16 _ sample) ∙ ap (low_bytes w64 2) sample_is in
    let rest = drop 2 (take (2 * c.samples.i + 2 - 2 * c.samples.i) (drop (2 * c.samples.i) c.samples.out)) in
    let written = c.write_i16.ensures ∙ ap (λ (x : ℕ). little_bytes 2 x ++ rest) bytes_are in
    one_more 16 2 _ _ _ _ _ rest refl (omega arith) (omega arith) (omega arith) written c.samples.invariant
