use Rattle.std.proofs.Common.{ℕ, ℤ, List, ◌≡◌, ◌≤◌, ◌<◌, ◌+◌, ◌-◌, ◌/◌, [], length, take, slice_index_or}
use Rattle.std.specs.Int.{div_ceil}
use Rattle.wa_base.specs.Paging.{ArePages, IsWrittenOver}
use Rattle.wa_base.proofs.pages.write_over.Given as goal

abbrev pub decreases-loop-done : goal.decreases-loop-done
decreases-loop-done l = length l.samples - l.done

abbrev pub invariant-loop-done : goal.invariant-loop-done
invariant-loop-done l =
    ((list : List ℤ) → IsWrittenOver list l.fn.pages.items l.pages.items l.start (take l.done l.samples))
    × ((l.done ≤ length l.samples)
    × (((i : ℕ) → l.start / 128 ≤ i → i < div_ceil (l.start + length l.samples) 128 → length (slice_index_or l.pages.items i []) ≡ 128)
    × ((length l.pages.items ≡ length l.fn.pages.items) × ArePages l.pages.items)))
