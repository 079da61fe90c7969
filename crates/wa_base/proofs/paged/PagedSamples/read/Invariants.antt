use Rattle.std.proofs.Common.{ℕ, ◌≡◌, ◌≤◌, ◌<◌, ◌+◌, ◌-◌, pos, length, slice_index_or}
use Rattle.wa_base.proofs.paged.PagedSamples.read.Given as goal

abbrev pub decreases-loop-done : goal.decreases-loop-done
decreases-loop-done l = length l.out - l.done

abbrev pub invariant-loop-done : goal.invariant-loop-done
invariant-loop-done l =
    (length l.out ≡ length l.fn.out)
    × ((l.done ≤ length l.out)
    × ((k : ℕ) → k < l.done → slice_index_or l.out k (pos 0) ≡ slice_index_or l.self (l.at + k) (pos 0)))
