use Rattle.std.proofs.Common.{◌-◌, ◌<◌, ◌≤◌, length}
use Rattle.std.specs.Prelude.{slice_index_or}
use Rattle.param_events.specs.declared.events.Event.{Event}
use Rattle.param_events.specs.Events.{time_of}
use Rattle.param_events.proofs.edits.place.Given as goal

abbrev pub invariant-loop-low : goal.invariant-loop-low
invariant-loop-low l = record {
  order : l.low ≤ l.high;
  within : l.high ≤ length l.events;
  before : (d : Event) → 0 < l.low → time_of (slice_index_or l.events (l.low - 1) d) ≤ l.time;
  behind : (d : Event) → l.high < length l.events → l.time < time_of (slice_index_or l.events l.high d);
}

abbrev pub decreases-loop-low : goal.decreases-loop-low
decreases-loop-low l = l.high - l.low
