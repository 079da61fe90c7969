-- A block that is mixed, by the place of each sample.
use Rattle.std.proofs.Common.{◌≡◌, ◌<◌, ◌+◌, ◌*◌, ◌/◌, ◌%◌, ℕ, ℤ, List, ap₂}
use Rattle.std.proofs.lemmas.Nat.{div-mul-add, mod-mul-add}
use Rattle.wa_base.specs.declared.graph_names.Interp.{Interp}
use Rattle.mix_rules.specs.Blocks.{frame_at}
use Rattle.mix_rules.specs.Mixing.{mix}

-- the sample that stands at place i: that of channel i / frames at frame i % frames
abbrev pub mixed_at : Interp → ℕ → ℕ → ℕ → List ℤ → ℕ → ℤ
mixed_at interp from to frames src i = mix interp from to (frame_at frames src (i % frames)) (i / frames)

pub mixed_at_sample : (interp : Interp) (from to frames : ℕ) (src : List ℤ) (c k : ℕ) → k < frames
    → mixed_at interp from to frames src (c * frames + k) ≡ mix interp from to (frame_at frames src k) c
mixed_at_sample interp from to frames src c k h =
    ap₂ (λ (j i : ℕ). mix interp from to (frame_at frames src j) i) (mod-mul-add c frames k h) (div-mul-add c frames k h)
