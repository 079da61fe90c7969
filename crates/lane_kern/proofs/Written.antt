-- A list of which a part was written over.
use Rattle.std.proofs.Common.{rules, ◌≡◌, ◌<◌, ◌≤◌, ◌+◌, ℕ, ℤ, pos, List, length, get_or}
use borrow.Rule.Slice.PartMut.{put_mid}
use Rattle.std.proofs.lemmas.List.{places}

pub written_before : (i m : ℕ) (xs ys : List ℤ) (k : ℕ) → k < i → i ≤ length xs → get_or (put_mid i m xs ys) k (pos 0) ≡ get_or xs k (pos 0)
written_before i m xs ys k h there = search (rules, places)

pub written_here : (i m : ℕ) (xs ys : List ℤ) (k : ℕ) → k < length ys → i ≤ length xs → get_or (put_mid i m xs ys) (i + k) (pos 0) ≡ get_or ys k (pos 0)
written_here i m xs ys k h there = search (rules, places)

pub written_after : (i m : ℕ) (xs ys : List ℤ) (k : ℕ) → length ys ≡ m → i + m ≤ k → i ≤ length xs → get_or (put_mid i m xs ys) k (pos 0) ≡ get_or xs k (pos 0)
written_after i m xs ys k same h there = search (rules, places)
