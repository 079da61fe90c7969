-- Rows of a list, and rows that are written one after another.
use Rattle.std.proofs.Common.{ℕ, ℤ, pos, ◌≡◌, ◌+◌, ◌-◌, ◌*◌, ◌<◌, ◌≤◌, length, List, rules, take, drop, slice_index_or, inl, inr, sym, ◌∙◌, ap, arith}
use borrow.Rule.Slice.PartMut.{put_mid}
use Rattle.std.proofs.lemmas.Bool.{cases_lt}
use Rattle.std.proofs.lemmas.List.{places, length-drop, length-take-le, get_or-take}
use Rattle.mix_rules.specs.Blocks.{sample}
use Rattle.law_base.proofs.Rows.{row_in, place_in}
use Rattle.lane_kern.proofs.Written.{written_before, written_here}
use Rattle.std.proofs.lemmas.List.{get_or-drop}

pub written_length : (i m : ℕ) (xs ys : List ℤ) → length ys ≡ m → i + m ≤ length xs → length (put_mid i m xs ys) ≡ length xs
written_length i m xs ys same there = search (rules, places)

-- a lane of a list that has them all is q values long
pub lane_length : (q lanes lane : ℕ) (xs : List ℤ) → length xs ≡ lanes * q → lane < lanes → length (take (lane * q + q - lane * q) (drop (lane * q) xs)) ≡ q
lane_length q lanes lane xs room low =
    let wide : lane * q + q - lane * q ≡ q = omega arith in
    let row = row_in q lane lanes low in
    ap (λ n. length (take n (drop (lane * q) xs))) wide ∙ length-take-le q (drop (lane * q) xs) (let rest = length-drop (lane * q) xs in omega (arith, rest, row, room))

-- part of a list
pub part_steady : (first n : ℕ) (items : List ℤ) (c : ℕ) → c < n → slice_index_or (take (first + n - first) (drop first items)) c (pos 0) ≡ slice_index_or items (first + c) (pos 0)
part_steady first n items c l = get_or-take (first + n - first) (drop first items) c (pos 0) (omega arith) ∙ get_or-drop first items c (pos 0)

-- a row of the front of a list
pub row_at : (q n c m : ℕ) (items : List ℤ) → c < n → m < q → slice_index_or (take (c * q + q - c * q) (drop (c * q) items)) m (pos 0) ≡ sample q (take (n * q) items) c m
row_at q n c m items low now = part_steady (c * q) q items m now ∙ sym (get_or-take (n * q) items (c * q + m) (pos 0) (place_in q c n m low now))

-- where the rows before one are those of f and this one is written, those up to it are
pub rows_more : (q n c : ℕ) (f : ℕ → ℕ → ℤ) (old ys : List ℤ) → length old ≡ n * q → c < n → length ys ≡ q → ((k m : ℕ) → k < c → m < q → sample q old k m ≡ f k m) → ((m : ℕ) → m < q → slice_index_or ys m (pos 0) ≡ f c m)
    → (k m : ℕ) → k < c + 1 → m < q → sample q (put_mid (c * q) (c * q + q - c * q) old ys) k m ≡ f k m
rows_more q n c f old ys room low long so_far own k m here now =
    let row = row_in q c n low in
    let begins : c * q ≤ length old = omega (arith, row, room) in
    elim (cases_lt k c) [
      | inl before ↦ written_before (c * q) (c * q + q - c * q) old ys (k * q + m) (place_in q k c m before now) begins ∙ so_far k m before now
      | inr not_before ↦
          let same : k ≡ c = omega (arith, here, not_before) in
          ap (λ j. sample q (put_mid (c * q) (c * q + q - c * q) old ys) j m) same
          ∙ written_here (c * q) (c * q + q - c * q) old ys m (omega (arith, long, now)) begins
          ∙ own m now
          ∙ ap (λ j. f j m) (sym same)
    ]

-- and all have their length
pub rows_length : (q n c : ℕ) (old ys : List ℤ) → length old ≡ n * q → c < n → length ys ≡ q → length (put_mid (c * q) (c * q + q - c * q) old ys) ≡ length old
rows_length q n c old ys room low long =
    let row = row_in q c n low in
    written_length (c * q) (c * q + q - c * q) old ys (omega (arith, long)) (omega (arith, row, room))
