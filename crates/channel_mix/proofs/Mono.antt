-- Mono as a number of channels: each is what the input is, or silent.
use Rattle.std.proofs.Common.{◌≡◌, ◌≤◌, ℕ, zero, suc, ℤ, pos, ◌+ℤ◌, Bool, true, false, ◌⊎◌, inl, inr, refl, sym, ap, ◌∙◌, arith, subst}
use Rattle.std.specs.Prelude.{nat_lt, ◌&&◌, if◌then◌else◌, slice_index_or}
use Rattle.std.specs.Option.{option_map_or}
use Rattle.std.proofs.lemmas.Bool.Decides.{nat_tests}
use Rattle.std.proofs.lemmas.Int.{ints}
use Rattle.wa_base.specs.declared.graph_names.Interp.{Interp}
use Rattle.wa_base.specs.declared.graph_names.Interp.TheVariants.{Speakers, Discrete}
use Rattle.lane_kern.specs.Blocks.{IsWithin}
use Rattle.mix_rules.specs.Mixing.{Form, Layout, layout, from_mono, kept, channel, only, silence, form, applied, mix}
use Rattle.mix_rules.proofs.Forms.{applied_channel}

-- the form of the input, or that of silence
abbrev pub IsMono : Form → Type 0
IsMono f = (f ≡ only (channel 1 0)) ⊎ (f ≡ silence)

-- channels that stay in order
kept_is : (to c : ℕ) → IsMono (kept 1 to c)
kept_is to zero = by_test (nat_lt 0 1 && nat_lt 0 to)
  where
    by_test : (b : Bool) → IsMono (if b then only (channel 1 0) else silence)
    by_test true = inl refl
    by_test false = inr refl
kept_is to (suc c) = by_test (nat_lt (suc c) 1 && nat_lt (suc c) to) refl
  where
    by_test : (b : Bool) → nat_lt (suc c) 1 && nat_lt (suc c) to ≡ b → IsMono (if b then only (channel 1 (suc c)) else silence)
    by_test true t = absurd (grind (arith, nat_tests))
    by_test false t = inr refl

-- the rows of the table that begin with mono
row_is : (l : Layout) (c : ℕ) (other : Form) → IsMono other → IsMono (option_map_or (λ outputs. slice_index_or outputs c silence) (from_mono (channel 1 0) l) other)
row_is Layout.Mono c other is = is
row_is Layout.Stereo zero other is = inl refl
row_is Layout.Stereo (suc zero) other is = inl refl
row_is Layout.Stereo (suc (suc c)) other is = inr refl
row_is Layout.Quad zero other is = inl refl
row_is Layout.Quad (suc zero) other is = inl refl
row_is Layout.Quad (suc (suc zero)) other is = inr refl
row_is Layout.Quad (suc (suc (suc zero))) other is = inr refl
row_is Layout.Quad (suc (suc (suc (suc c)))) other is = inr refl
row_is Layout.FivePointOne zero other is = inr refl
row_is Layout.FivePointOne (suc zero) other is = inr refl
row_is Layout.FivePointOne (suc (suc zero)) other is = inl refl
row_is Layout.FivePointOne (suc (suc (suc zero))) other is = inr refl
row_is Layout.FivePointOne (suc (suc (suc (suc zero)))) other is = inr refl
row_is Layout.FivePointOne (suc (suc (suc (suc (suc zero))))) other is = inr refl
row_is Layout.FivePointOne (suc (suc (suc (suc (suc (suc c)))))) other is = inr refl
row_is Layout.NoLayout c other is = is

pub mono_form : (interp : Interp) (to c : ℕ) → IsMono (form interp 1 to c)
unfolding form
mono_form Speakers to c = row_is (layout to) c (kept 1 to c) (kept_is to c)
mono_form Discrete to c = kept_is to c

pub mono_is : (interp : Interp) (to c : ℕ) → ((frame : ℕ → ℤ) → mix interp 1 to frame c ≡ frame 0) ⊎ ((frame : ℕ → ℤ) → mix interp 1 to frame c ≡ pos 0)
unfolding mix
mono_is interp to c = elim (mono_form interp to c) [
  | inl same ↦ inl (λ frame. ap (λ (f : Form). applied f frame) same ∙ applied_channel 1 0 frame (omega arith))
  | inr none ↦ inr (λ frame. ap (λ (f : Form). applied f frame) none)
]

-- only the input's one channel matters
pub mono_first : (interp : Interp) (to c : ℕ) (frame : ℕ → ℤ) → mix interp 1 to frame c ≡ mix interp 1 to (λ i. frame 0) c
mono_first interp to c frame = elim (mono_is interp to c) [
  | inl same ↦ same frame ∙ sym (same (λ i. frame 0))
  | inr none ↦ none frame ∙ sym (none (λ i. frame 0))
]

pub mono_none : (interp : Interp) (to c : ℕ) → mix interp 1 to (λ i. pos 0) c ≡ pos 0
mono_none interp to c = elim (mono_is interp to c) [
  | inl same ↦ same (λ i. pos 0)
  | inr none ↦ none (λ i. pos 0)
]

-- a sum is mixed as its parts are
pub mono_sum : (interp : Interp) (to c : ℕ) (x y : ℤ) → mix interp 1 to (λ i. x +ℤ y) c ≡ mix interp 1 to (λ i. x) c +ℤ mix interp 1 to (λ i. y) c
mono_sum interp to c x y = elim (mono_is interp to c) [
  | inl same ↦ let whole = same (λ i. x +ℤ y) in let left = same (λ i. x) in let right = same (λ i. y) in omega (arith, ints, whole, left, right)
  | inr none ↦ let whole = none (λ i. x +ℤ y) in let left = none (λ i. x) in let right = none (λ i. y) in omega (arith, ints, whole, left, right)
]

pub mono_within : (bound : ℕ) (interp : Interp) (to c : ℕ) (x : ℤ) → IsWithin bound x → IsWithin bound (mix interp 1 to (λ i. x) c)
mono_within bound interp to c x small = elim (mono_is interp to c) [
  | inl same ↦ subst (IsWithin bound) (sym (same (λ i. x))) small
  | inr none ↦ subst (IsWithin bound) (sym (none (λ i. x))) (let low : 0 ≤ bound = omega arith in low)
]
