use Rattle.std.proofs.Common.{rules, refl, sym, ap, ◌∙◌, FitsSigned, arith}
use Rattle.std.specs.Int.{w32}
use Rattle.std.proofs.lemmas.Int.{to_z-of_z}
use Rattle.wav_io.specs.WavGrammar.{fix_of}
use Rattle.wav_io.proofs.Widths.{complement_32, value_of-32}
use Rattle.wav_io.proofs.values.value_of_32.Goals as goal

pub returns : goal.returns
returns c =
    let result : FitsSigned w32 c.value_32.result = search rules in
    let sample : FitsSigned w32 c.read_i32.result = search rules in
    let read =
    c.read_i32.ensures ∙ complement_32 _ (omega (arith, c.type_inv.sample 0, c.type_inv.sample 1, c.type_inv.sample 2, c.type_inv.sample 3)) in
    to_z-of_z _ _ result ∙ c.value_32.ensures ∙ ap (fix_of 32) (to_z-of_z _ _ sample ∙ read) ∙ sym (value_of-32 32 c.args.sample.now refl)
