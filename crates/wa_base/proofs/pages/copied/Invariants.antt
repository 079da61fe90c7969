use Rattle.std.proofs.Common.{ℕ, ◌≡◌, ◌≤◌, ◌<◌, ◌+◌, ◌*◌, pos, length, slice_index_or, vec_capacity}
use Rattle.wa_base.proofs.pages.copied.Given as goal

abbrev pub invariant-loop-k : goal.invariant-loop-k
invariant-loop-k l =
    (length l.page.items ≡ l.k) × ((128 ≤ vec_capacity l.page) × ((k : ℕ) → k < l.k → slice_index_or l.page.items k (pos 0) ≡ slice_index_or l.list (l.place * 128 + k) (pos 0)))
