-- Mixing to no fewer channels repeats channels, or is silent: what is mixed so stays in the range of a Fix.
use Rattle.std.proofs.Common.{ℕ, zero, suc, ℤ, ◌≡◌, ◌<◌, ◌≤◌, ◌==◌, ◌⊎◌, inl, inr, List, [], ◌∷◌, Bool, true, false, Option, Some, None, map, refl, sym, subst, arith}
use Rattle.std.specs.Prelude.{if◌then◌else◌, nat_lt, slice_index_or, ◌&&◌}
use Rattle.std.specs.Option.{option_map_or}
use Rattle.std.proofs.lemmas.Bool.Decides.{nat_tests}
use Rattle.wa_base.specs.Numbers.{IsFix}
use Rattle.wa_base.specs.declared.graph_names.Interp.{Interp}
use Rattle.wa_base.specs.declared.graph_names.Interp.TheVariants.{Speakers, Discrete}
use Rattle.mix_rules.specs.Mixing.{Form, Layout, layout, channel, only, silence, table, kept, form, applied, mix}
use Rattle.mix_rules.proofs.Forms.{applied_channel}

-- the number of channels of a layout, and 0 where it has no name
speakers : Layout → ℕ
speakers Layout.Mono = 1
speakers Layout.Stereo = 2
speakers Layout.Quad = 4
speakers Layout.FivePointOne = 6
speakers Layout.NoLayout = 0

-- it has no name, or so many channels
abbrev Has : ℕ → Layout → Type 0
Has n a = (speakers a ≡ 0) ⊎ (n ≡ speakers a)

layout_has : (n : ℕ) → Has n (layout n)
unfolding speakers
layout_has n = first (n == 1) refl
  where
    fourth : (d : Bool) → (n == 6) ≡ d → Has n (if d then Layout.FivePointOne else Layout.NoLayout)
    fourth true is = inr (grind (arith, nat_tests))
    fourth false is = inl refl

    third : (c : Bool) → (n == 4) ≡ c → Has n (if c then Layout.Quad else if n == 6 then Layout.FivePointOne else Layout.NoLayout)
    third true is = inr (grind (arith, nat_tests))
    third false is = fourth (n == 6) refl

    second : (b : Bool) → (n == 2) ≡ b → Has n (if b then Layout.Stereo else if n == 4 then Layout.Quad else if n == 6 then Layout.FivePointOne else Layout.NoLayout)
    second true is = inr (grind (arith, nat_tests))
    second false is = third (n == 4) refl

    first : (a : Bool) → (n == 1) ≡ a → Has n (if a then Layout.Mono else if n == 2 then Layout.Stereo else if n == 4 then Layout.Quad else if n == 6 then Layout.FivePointOne else Layout.NoLayout)
    first true is = inr (grind (arith, nat_tests))
    first false is = second (n == 2) refl

-- the form of a channel that repeats the channel with this index, or is silent
abbrev repeated : ℕ → Option ℕ → Form
repeated from None = silence
repeated from (Some i) = only (channel from i)

abbrev AreThere : ℕ → List (Option ℕ) → Type 0
AreThere from [] = Unit {0}
AreThere from (None ∷ picks) = AreThere from picks
AreThere from (Some i ∷ picks) = (i < from) × AreThere from picks

module _ (frame : ℕ → ℤ) (fixes : (i : ℕ) → IsFix (frame i)) where
  abbrev IsFixed : Form → Type 0
  IsFixed f = IsFix (applied f frame)

  silent : IsFixed silence
  silent = omega arith

  repeats : (from i : ℕ) → i < from → IsFixed (only (channel from i))
  repeats from i l = subst IsFix (sym (applied_channel from i frame l)) (fixes i)

  -- a row of the table that repeats channels
  row : (from : ℕ) (picks : List (Option ℕ)) → AreThere from picks → (c : ℕ) → IsFixed (slice_index_or (map (repeated from) picks) c silence)
  row from [] there c = silent
  row from (None ∷ picks) there zero = silent
  row from (None ∷ picks) there (suc c) = row from picks there c
  row from (Some i ∷ picks) there zero = repeats from i there.0
  row from (Some i ∷ picks) there (suc c) = row from picks there.1 c

  kept_fixed : (from to c : ℕ) → IsFixed (kept from to c)
  kept_fixed from to c = by_test (nat_lt c from) (nat_lt c to) refl
    where
      by_test : (a b : Bool) → nat_lt c from ≡ a → IsFixed (if a && b then only (channel from c) else silence)
      by_test true true l = repeats from c (grind (arith, nat_tests))
      by_test true false l = silent
      by_test false b l = silent

  fewer : {from to : ℕ} (m n : ℕ) → (m ≡ 0) ⊎ (from ≡ m) → (n ≡ 0) ⊎ (to ≡ n) → n < m → 0 < n → from ≤ to → ⊥
  fewer m n (inl none) right less some up = omega arith
  fewer m n (inr is) (inl none) less some up = omega arith
  fewer m n (inr is) (inr that) less some up = omega arith

  by_layouts : (from to c : ℕ) (a b : Layout) → Has from a → Has to b → from ≤ to
      → IsFixed (option_map_or (λ outputs. slice_index_or outputs c silence) (table a b) (kept from to c))
  unfolding speakers
  by_layouts from to c Layout.Mono Layout.Mono left right up = kept_fixed from to c
  by_layouts from to c Layout.Mono Layout.Stereo left right up = row 1 (Some 0 ∷ Some 0 ∷ []) (omega arith, (omega arith, tt)) c
  by_layouts from to c Layout.Mono Layout.Quad left right up = row 1 (Some 0 ∷ Some 0 ∷ None ∷ None ∷ []) (omega arith, (omega arith, tt)) c
  by_layouts from to c Layout.Mono Layout.FivePointOne left right up = row 1 (None ∷ None ∷ Some 0 ∷ None ∷ None ∷ None ∷ []) (omega arith, tt) c
  by_layouts from to c Layout.Mono Layout.NoLayout left right up = kept_fixed from to c
  by_layouts from to c Layout.Stereo Layout.Mono left right up = absurd (fewer 2 1 left right (omega arith) (omega arith) up)
  by_layouts from to c Layout.Stereo Layout.Stereo left right up = kept_fixed from to c
  by_layouts from to c Layout.Stereo Layout.Quad left right up = row 2 (Some 0 ∷ Some 1 ∷ None ∷ None ∷ []) (omega arith, (omega arith, tt)) c
  by_layouts from to c Layout.Stereo Layout.FivePointOne left right up = row 2 (Some 0 ∷ Some 1 ∷ None ∷ None ∷ None ∷ None ∷ []) (omega arith, (omega arith, tt)) c
  by_layouts from to c Layout.Stereo Layout.NoLayout left right up = kept_fixed from to c
  by_layouts from to c Layout.Quad Layout.Mono left right up = absurd (fewer 4 1 left right (omega arith) (omega arith) up)
  by_layouts from to c Layout.Quad Layout.Stereo left right up = absurd (fewer 4 2 left right (omega arith) (omega arith) up)
  by_layouts from to c Layout.Quad Layout.Quad left right up = kept_fixed from to c
  by_layouts from to c Layout.Quad Layout.FivePointOne left right up = row 4 (Some 0 ∷ Some 1 ∷ None ∷ None ∷ Some 2 ∷ Some 3 ∷ []) (omega arith, (omega arith, (omega arith, (omega arith, tt)))) c
  by_layouts from to c Layout.Quad Layout.NoLayout left right up = kept_fixed from to c
  by_layouts from to c Layout.FivePointOne Layout.Mono left right up = absurd (fewer 6 1 left right (omega arith) (omega arith) up)
  by_layouts from to c Layout.FivePointOne Layout.Stereo left right up = absurd (fewer 6 2 left right (omega arith) (omega arith) up)
  by_layouts from to c Layout.FivePointOne Layout.Quad left right up = absurd (fewer 6 4 left right (omega arith) (omega arith) up)
  by_layouts from to c Layout.FivePointOne Layout.FivePointOne left right up = kept_fixed from to c
  by_layouts from to c Layout.FivePointOne Layout.NoLayout left right up = kept_fixed from to c
  by_layouts from to c Layout.NoLayout b left right up = kept_fixed from to c

  pub mix_fix : (interp : Interp) (from to c : ℕ) → from ≤ to → IsFix (mix interp from to frame c)
  unfolding mix form
  mix_fix Speakers from to c up = by_layouts from to c (layout from) (layout to) (layout_has from) (layout_has to) up
  mix_fix Discrete from to c up = kept_fixed from to c
