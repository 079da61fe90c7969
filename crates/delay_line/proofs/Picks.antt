-- What a channel that is mixed up holds.
use Rattle.std.proofs.Common.{ℕ, ℤ, ◌≡◌, ◌≤◌, refl, ap, sym, ◌∙◌, Option, Some, None, arith}
use Rattle.wa_base.specs.declared.graph_names.Interp.{Interp}
use Rattle.mix_rules.specs.Mixing.{Form, form, applied, mix}
use Rattle.mix_rules.proofs.Forms.{applied_channel}
use Rattle.delay_line.specs.Sources.{repeated, picked, needed}

applied_repeated : (from : ℕ) (source : Option ℕ) (frame : ℕ → ℤ) → needed source ≤ from → applied (repeated from source) frame ≡ picked frame source
applied_repeated from None frame there = refl
applied_repeated from (Some i) frame there = applied_channel from i frame (omega arith)

pub mix_repeats : (interp : Interp) (from to channel : ℕ) (source : Option ℕ) (frame : ℕ → ℤ) → repeated from source ≡ form interp from to channel → needed source ≤ from
    → mix interp from to frame channel ≡ picked frame source
unfolding mix
mix_repeats interp from to channel source frame same there = ap (λ (f : Form). applied f frame) (sym same) ∙ applied_repeated from source frame there
