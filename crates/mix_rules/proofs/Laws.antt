-- What mixing leaves as it is.
use Rattle.std.proofs.Common.{◌≡◌, ◌<◌, ℕ, ℤ, refl, ap, ◌∙◌, Option, None, List}
use Rattle.std.specs.Option.{option_map_or}
use Rattle.std.specs.Prelude.{slice_index_or}
use Rattle.std.proofs.lemmas.Bool.{lt-ltb}
use Rattle.wa_base.specs.declared.graph_names.Interp.{Interp}
use Rattle.wa_base.specs.declared.graph_names.Interp.TheVariants.{Speakers, Discrete}
use Rattle.mix_rules.specs.Mixing.{Form, Layout, layout, table, kept, channel, only, silence, form, applied, mix}
use Rattle.mix_rules.proofs.Forms.{applied_channel}

no_row : (l : Layout) → table l l ≡ None
no_row Layout.Mono = refl
no_row Layout.Stereo = refl
no_row Layout.Quad = refl
no_row Layout.FivePointOne = refl
no_row Layout.NoLayout = refl

form_of_equal : (interp : Interp) (n c : ℕ) → form interp n n c ≡ kept n n c
unfolding form
form_of_equal Speakers n c =
    ap (λ (row : Option (List Form)). option_map_or (λ outputs. slice_index_or outputs c silence) row (kept n n c)) (no_row (layout n))
form_of_equal Discrete n c = refl

kept_of_equal : (n c : ℕ) → c < n → kept n n c ≡ only (channel n c)
kept_of_equal n c h = rw (lt-ltb c n h) refl

-- equal counts pass through
pub mix_same : (interp : Interp) (n : ℕ) (frame : ℕ → ℤ) (c : ℕ) → c < n → mix interp n n frame c ≡ frame c
unfolding mix
mix_same interp n frame c h = ap (λ (f : Form). applied f frame) (form_of_equal interp n c ∙ kept_of_equal n c h) ∙ applied_channel n c frame h
