use Rattle.std.proofs.Common.{rules, refl, sym, ap, ◌∙◌, FitsSigned, arith}
use Rattle.std.specs.Int.{w16, w32}
use Rattle.std.proofs.lemmas.Int.{to_z-of_z}
use Rattle.wav_io.specs.WavGrammar.{fix_of}
use Rattle.wav_io.proofs.Widths.{complement_16, value_of-16}
use Rattle.wav_io.proofs.values.value_of_16.Goals as goal

pub returns : goal.returns
returns c =
    let result : FitsSigned w32 c.value_16.result = search rules in
    let sample : FitsSigned w16 c.read_i16.result = search rules in
    let read = c.read_i16.ensures ∙ complement_16 _ (omega (arith, c.type_inv.sample 0, c.type_inv.sample 1)) in
    to_z-of_z _ _ result ∙ c.value_16.ensures ∙ ap (fix_of 16) (to_z-of_z _ _ sample ∙ read) ∙ sym (value_of-16 16 c.args.sample.now refl)
