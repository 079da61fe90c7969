use Rattle.std.proofs.Common.{ℕ, ◌<◌, ◌≡◌, false, slice_index_or}
use Rattle.meaning.specs.declared.scheds.Play.{Play}
use Rattle.control_msgs.specs.Messages.{ends_by}
use Rattle.control_side.proofs.ends.open_until.Given as goal

-- those so far
abbrev pub invariant-loop-play : goal.invariant-loop-play
invariant-loop-play l = (next i : ℕ) (d : Play) → next < l.until → i < l.play-index → ends_by next (slice_index_or l.plays i d).sched ≡ false
