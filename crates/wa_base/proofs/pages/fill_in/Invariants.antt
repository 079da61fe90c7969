use Rattle.std.proofs.Common.{ℕ, ◌≡◌, ◌≤◌, ◌<◌, [], length, slice_index_or}
use Rattle.wa_base.specs.Paging.{value_at, ArePages}
use Rattle.wa_base.proofs.pages.fill_in.Given as goal

abbrev pub invariant-loop-place : goal.invariant-loop-place
invariant-loop-place l =
    ((i : ℕ) → value_at l.below l.pages.items i ≡ value_at l.below l.fn.pages.items i)
    × (((i : ℕ) → l.from ≤ i → i < l.place → length (slice_index_or l.pages.items i []) ≡ 128)
    × ((length l.pages.items ≡ length l.fn.pages.items) × ArePages l.pages.items))
