use Rattle.std.proofs.Common.{◌≡◌, ◌<◌, ◌≤◌, length, false}
use Rattle.std.specs.Prelude.{slice_index_or}
use Rattle.param_events.specs.declared.events.Event.{Event}
use Rattle.param_events.specs.Edits.{stays}
use Rattle.param_events.proofs.edits.staying.Given as goal

abbrev pub invariant-loop-count : goal.invariant-loop-count
invariant-loop-count l = record {
  within : l.count ≤ length l.events;
  next : (d : Event) → l.count < length l.events → stays l.time (slice_index_or l.events l.count d) ≡ false;
}

abbrev pub decreases-loop-count : goal.decreases-loop-count
decreases-loop-count l = l.count
