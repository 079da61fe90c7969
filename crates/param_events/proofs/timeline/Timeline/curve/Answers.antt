use Rattle.std.proofs.Common.{◌≡◌, None, rules}
use Rattle.param_events.specs.Edits.{curve_refusal}
use Rattle.param_events.proofs.timeline.Timeline.curve.Goals as goal

pub returns-clause-refused : goal.returns-clause-refused
returns-clause-refused c = let none : curve_refusal c.args.now c.args.points.now c.args.time c.args.duration c.args.self.now.events ≡ None = search rules in rw none c.put_curve.ensures.err
