use Rattle.std.proofs.Common.{◌≡◌, None, rules}
use Rattle.param_events.specs.Edits.{event_refusal}
use Rattle.param_events.proofs.timeline.Timeline.ramp.Goals as goal

pub returns-clause-refused : goal.returns-clause-refused
returns-clause-refused c = let none : event_refusal c.args.now c.args.time c.args.self.now.events ≡ None = search rules in rw none c.put_ramp.ensures.err
