-- Loops that add a value to each sum.
use Rattle.std.proofs.Common.{◌≡◌, ◌≢◌, ◌<◌, ◌≤◌, ◌+◌, ◌^◌, ℕ, ℤ, pos, ◌+ℤ◌, List, length, set, get_or, to_z, of_z, ap₂, subst, inl, inr, sym, ◌-◌, ◌∙◌, rules, arith, below_more, get_or-set_same, get_or-set_other}
use Rattle.std.specs.Prelude.{All, take, drop}
use borrow.Rule.Slice.PartMut.{put_mid}
use Rattle.std.specs.Int.{w64}
use Rattle.std.proofs.lemmas.Bool.{cases_lt}
use Rattle.std.proofs.lemmas.Int.{ints}
use Rattle.std.proofs.lemmas.List.{places, get_or_past}
use Rattle.std.proofs.lemmas.List.Elements.{All-get_or, All-from_get_or}
use Rattle.lane_kern.specs.Blocks.{IsWithin}
use Rattle.lane_kern.proofs.Written.{written_before, written_here, written_after}
use Rattle.channel_mix.specs.Adding.{Adds}

-- the sums below i have grown, and the others are as they were
pub record AddsBelow (values : ℕ → ℤ) (i : ℕ) (old new : List ℤ) : Type 0 where
  pub sums : (k : ℕ) → k < i → get_or new k (pos 0) ≡ get_or old k (pos 0) +ℤ values k
  pub small : (k : ℕ) → k < i → IsWithin (2 ^ 34) (values k)
  pub rest : (k : ℕ) → i ≤ k → get_or new k (pos 0) ≡ get_or old k (pos 0)

-- the code's sum of two values of 64 bits
abbrev pub added : ℤ → ℤ → ℤ
added x y = to_z w64 (of_z w64 (to_z w64 (of_z w64 x) +ℤ to_z w64 (of_z w64 y)))

added_is : (s v near : ℤ) → s ≡ near → IsWithin (2 ^ 47) near → IsWithin (2 ^ 34) v → added s v ≡ near +ℤ v
added_is s v near same room small = omega (arith, ints)

pub adds_more : (values : ℕ → ℤ) (i : ℕ) (old new : List ℤ) (v : ℤ) → length new ≡ length old → i < length old → All (IsWithin (2 ^ 47)) old
    → AddsBelow values i old new → v ≡ values i → IsWithin (2 ^ 34) v → AddsBelow values (i + 1) old (set new i (added (get_or new i (pos 0)) v))
adds_more values i old new v long lt room so_far is small =
    let there : i < length new = omega arith in
    let sum = added (get_or new i (pos 0)) v in
    let sum_is : sum ≡ get_or old i (pos 0) +ℤ v = added_is (get_or new i (pos 0)) v (get_or old i (pos 0)) (so_far.rest i (omega arith)) (All-get_or (IsWithin (2 ^ 47)) old i (pos 0) lt room) small in
    record {
      sums = below_more _ _ (λ k h. let ne : k ≢ i = omega arith in get_or-set_other new i k sum (pos 0) ne ∙ so_far.sums k h) (get_or-set_same new i sum (pos 0) there ∙ rw (← is) sum_is);
      small = below_more _ _ so_far.small (rw (← is) small);
      rest = λ k h. let ne : k ≢ i = omega arith in get_or-set_other new i k sum (pos 0) ne ∙ so_far.rest k (omega arith);
    }

-- ---- n sums at once, from i on

pub part_at : (i m : ℕ) (xs : List ℤ) (k : ℕ) → k < m → get_or (take m (drop i xs)) k (pos 0) ≡ get_or xs (i + k) (pos 0)
part_at i m xs k h = search (rules, places)

-- what holds below i and at the n from i on holds below i + n
below_by : (P : ℕ → Type 0) (i n : ℕ) → ((k : ℕ) → k < i → P k) → ((k : ℕ) → k < n → P (i + k)) → (k : ℕ) → k < i + n → P k
below_by P i n below here k h = elim (cases_lt k i) [
  | inl before ↦ below k before
  | inr after ↦ let e : i + (k - i) ≡ k = omega arith in subst P e (here (k - i) (omega arith))
]

pub adds_part : (values more : ℕ → ℤ) (i n m : ℕ) (old now ys : List ℤ) → length now ≡ length old → i + n ≤ length old → m ≡ n → length ys ≡ n
    → AddsBelow values i old now → Adds more (take m (drop i now)) ys → ((k : ℕ) → k < n → more k ≡ values (i + k))
    → AddsBelow values (i + n) old (put_mid i m now ys)
adds_part values more i n m old now ys long room same there so_far part are =
    let all : length (take m (drop i now)) ≡ n = search (rules, places) in
    let sums : (k : ℕ) → k < n → get_or (put_mid i m now ys) (i + k) (pos 0) ≡ get_or old (i + k) (pos 0) +ℤ values (i + k) =
    λ k h. written_here i m now ys k (omega arith) (omega arith) ∙ part.sums k (omega arith)
    ∙ ap₂ (λ (x y : ℤ). x +ℤ y) (part_at i m now k (omega arith) ∙ so_far.rest (i + k) (omega arith)) (are k h) in
    let small : (k : ℕ) → k < n → IsWithin (2 ^ 34) (values (i + k)) = λ k h. rw (are k h) at (part.small k (omega arith)) in
    record {
      sums = below_by _ i n (λ k h. written_before i m now ys k h (omega arith) ∙ so_far.sums k h) sums;
      small = below_by _ i n so_far.small small;
      rest = λ k h. written_after i m now ys k (omega arith) (omega arith) (omega arith) ∙ so_far.rest k (omega arith);
    }

-- ---- once all is added

-- all sums at once
pub adds_whole : (values : ℕ → ℤ) (old new : List ℤ) → length new ≡ length old → Adds values old new → AddsBelow values (length old) old new
adds_whole values old new long adds = record {
  sums = adds.sums;
  small = adds.small;
  rest = λ k h. get_or_past new k (pos 0) (omega arith) ∙ sym (get_or_past old k (pos 0) h);
}

pub adds_room : (values : ℕ → ℤ) (n bound : ℕ) (old new : List ℤ) → length new ≡ length old → length old ≤ n → AddsBelow values n old new
    → All (IsWithin bound) old → All (IsWithin (bound + 2 ^ 34)) new
adds_room values n bound old new long end added_all within = All-from_get_or (IsWithin (bound + 2 ^ 34)) new (pos 0) (λ i h.
    let sum = added_all.sums i (omega arith) in
    let small = added_all.small i (omega arith) in
    let near = All-get_or (IsWithin bound) old i (pos 0) (omega arith) within in
    omega (arith, ints, sum, small, near))
