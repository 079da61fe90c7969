-- The names of the voices may be given to nodes.
use Rattle.std.proofs.Common.{◌≡◌, ◌<◌, ℕ, suc, zero, refl, ap, ◌∙◌, arith, Bool, true, ◌&&◌, inl, inr, ◌⊎◌}
use Rattle.std.specs.Fmt.{digits}
use Rattle.std.proofs.Math.Nat.{eq-or-lt_of_le}
use Rattle.std.proofs.lemmas.Bool.{and_parts}
use Rattle.script_ast.specs.Ranges.{is_new_name, IsNewName}
use Rattle.load_gen.specs.Voices.{source, gain, delay, feedback}

abbrev all_below : (ℕ → Bool) → ℕ → Bool
all_below test zero = true
all_below test (suc n) = test n && all_below test n

last_or_before : (i n : ℕ) → i < suc n → (i ≡ n) ⊎ (i < n)
last_or_before i n less = eq-or-lt_of_le (omega (arith, less))

below : (test : ℕ → Bool) (n i : ℕ) → all_below test n ≡ true → i < n → test i ≡ true
below test zero i all less = absurd (omega (arith, less))
below test (suc n) i all less =
    let parts = and_parts (test n) (all_below test n) all in
    elim (last_or_before i n less) [
      | inl same ↦ ap test same ∙ parts.0
      | inr before ↦ below test n i parts.1 before
    ]

abbrev are_new : ℕ → Bool
are_new place = (is_new_name (source place) && is_new_name (gain place)) && (is_new_name (delay place) && is_new_name (feedback place))

all_new : all_below are_new 200 ≡ true
unfolding is_new_name digits
all_new = refl

-- the four names at a place
pub record AreNew (place : ℕ) : Type 0 where
  pub source : IsNewName (source place)
  pub gain : IsNewName (gain place)
  pub delay : IsNewName (delay place)
  pub feedback : IsNewName (feedback place)

pub names_are_new : (place : ℕ) → place < 200 → AreNew place
names_are_new place less =
    let both = and_parts (is_new_name (source place) && is_new_name (gain place)) (is_new_name (delay place) && is_new_name (feedback place)) (below are_new 200 place all_new less) in
    let first = and_parts (is_new_name (source place)) (is_new_name (gain place)) both.0 in
    let second = and_parts (is_new_name (delay place)) (is_new_name (feedback place)) both.1 in
    record { source = cc first.0; gain = cc first.1; delay = cc second.0; feedback = cc second.1 }
