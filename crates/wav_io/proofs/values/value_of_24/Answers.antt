use Rattle.std.proofs.Common.{rules, refl, sym, ap, ◌∙◌, FitsSigned}
use Rattle.std.specs.Int.{w32}
use Rattle.std.proofs.lemmas.Int.{to_z-of_z}
use Rattle.wav_io.specs.WavGrammar.{fix_of}
use Rattle.wav_io.proofs.Widths.{value_of-24}
use Rattle.wav_io.proofs.values.value_of_24.Goals as goal

pub returns : goal.returns
returns c =
    let result : FitsSigned w32 c.value_24.result = search rules in
    let sample : FitsSigned w32 c.signed_24.result = search rules in
    to_z-of_z _ _ result ∙ c.value_24.ensures ∙ ap (fix_of 24) (to_z-of_z _ _ sample ∙ c.signed_24.ensures.value) ∙ sym (value_of-24 24 c.args.sample.now refl)
