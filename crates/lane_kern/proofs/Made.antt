-- Blocks that are written sample by sample.
use Rattle.std.proofs.Common.{◌≡◌, ◌≢◌, ◌<◌, ◌≤◌, ◌+◌, ◌^◌, ℕ, ℤ, pos, ◌+ℤ◌, List, length, set, get_or, to_z, of_z, sym, ◌∙◌, rules, arith, below_more, get_or-set_same, get_or-set_other}
use Rattle.std.specs.Int.{w64}
use Rattle.std.specs.Prelude.{All}
use Rattle.std.proofs.lemmas.Int.{ints}
use Rattle.std.proofs.lemmas.List.{places}
use Rattle.std.proofs.lemmas.List.Elements.{All-get_or}
use Rattle.lane_kern.specs.Blocks.{IsWithin}

-- the samples below i are those of f, and the others are as they were
pub record MadeBelow (f : ℕ → ℤ) (i : ℕ) (old new : List ℤ) : Type 0 where
  pub length : length new ≡ length old
  pub made : (k : ℕ) → k < i → get_or new k (pos 0) ≡ f k
  pub rest : (k : ℕ) → i ≤ k → get_or new k (pos 0) ≡ get_or old k (pos 0)

pub made_more : (f : ℕ → ℤ) (i : ℕ) (old new : List ℤ) (v : ℤ) → i < length old
    → MadeBelow f i old new → v ≡ f i → MadeBelow f (i + 1) old (set new i v)
made_more f i old new v lt so_far is =
    let same = so_far.length in
    let kept : length (set new i v) ≡ length new = search (rules, places) in
    let there : i < length new = omega (arith, same) in
    record {
      length = kept ∙ same;
      made = below_more _ _ (λ k h. let ne : k ≢ i = omega arith in get_or-set_other new i k v (pos 0) ne ∙ so_far.made k h) (get_or-set_same new i v (pos 0) there ∙ is);
      rest = λ k h. let ne : k ≢ i = omega arith in get_or-set_other new i k v (pos 0) ne ∙ so_far.rest k (omega arith);
    }

-- the code's sum of two values of 64 bits
abbrev pub added : ℤ → ℤ → ℤ
added x y = to_z w64 (of_z w64 (to_z w64 (of_z w64 x) +ℤ to_z w64 (of_z w64 y)))

pub added_is : (s v near : ℤ) → s ≡ near → IsWithin (2 ^ 62) near → IsWithin (2 ^ 56) v → added s v ≡ near +ℤ v
added_is s v near same room small = omega (arith, ints)

-- a value is added to the sum at place i
pub adds_more : (f : ℕ → ℤ) (i : ℕ) (old new : List ℤ) (v : ℤ) → i < length old
    → All (IsWithin (2 ^ 62)) old → MadeBelow f i old new → get_or old i (pos 0) +ℤ v ≡ f i → IsWithin (2 ^ 56) v
    → MadeBelow f (i + 1) old (set new i (added (get_or new i (pos 0)) v))
adds_more f i old new v lt room so_far is small =
    made_more f i old new _ lt so_far
    (added_is (get_or new i (pos 0)) v (get_or old i (pos 0)) (so_far.rest i (omega arith)) (All-get_or (IsWithin (2 ^ 62)) old i (pos 0) lt room) small ∙ is)
