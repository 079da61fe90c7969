-- How sums hold their values.
use Rattle.std.proofs.Common.{ℕ, ℤ, pos, ◌≡◌, ◌*◌, ◌<◌, ◌≤◌, ◌+ℤ◌, length, List, take, slice_index_or, Bool, true, false, refl, sym, ◌∙◌, ap, arith, subst}
use Rattle.std.specs.Prelude.{All}
use Rattle.std.proofs.lemmas.List.{get_or_default}
use Rattle.std.proofs.lemmas.Int.{ints}
use Rattle.lane_kern.specs.Blocks.{IsWithin}
use Rattle.channel_mix.specs.Sums.{moving_sums}

-- sums that begin to move are zeros
pub cleared : (q : ℕ) (moves : Bool) (n : ℕ) (items old new : List ℤ) → old ≡ take (n * q) items → length old ≡ n * q → (moves ≡ true → new ≡ old)
    → (moves ≡ false → (k : ℕ) → k < length old → slice_index_or new k (pos 0) ≡ pos 0) → (k : ℕ) → k < n * q → slice_index_or new k (pos 0) ≡ slice_index_or (moving_sums q moves n items) k (pos 0)
cleared q true n items old new is long stay clear k l = ap (λ xs. slice_index_or xs k (pos 0)) (stay refl ∙ is)
cleared q false n items old new is long stay clear k l = clear refl k (omega arith)

pub cleared_small : (q : ℕ) (moves : Bool) (bound n : ℕ) (items old new : List ℤ) → old ≡ take (n * q) items → length new ≡ length old → (moves ≡ true → new ≡ old)
    → (moves ≡ false → (k : ℕ) → k < length old → slice_index_or new k (pos 0) ≡ pos 0) → All (IsWithin bound) (moving_sums q moves n items) → All (IsWithin bound) new
cleared_small q true bound n items old new is long stay clear small = subst (All (IsWithin bound)) (sym (stay refl ∙ is)) small
cleared_small q false bound n items old new is long stay clear small = λ i d l. subst (IsWithin bound) (sym (get_or_default new i d (pos 0) l ∙ clear refl i (omega arith))) (let low : 0 ≤ bound = omega arith in low)

pub all_more : (a b : ℕ) (xs : List ℤ) → a ≤ b → All (IsWithin a) xs → All (IsWithin b) xs
all_more a b xs l small i d k = let within = small i d k in omega arith

pub held_grows : (x a b y : ℤ) → x ≡ a +ℤ y → x +ℤ b ≡ (a +ℤ b) +ℤ y
held_grows x a b y e = omega (arith, ints)

pub moving_grows : (x a b y : ℤ) → x ≡ b +ℤ y → a +ℤ x ≡ (a +ℤ b) +ℤ y
moving_grows x a b y e = omega (arith, ints)
