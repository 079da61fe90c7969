use Rattle.std.proofs.Common.{◌≡◌, sym, subst, rules}
use Rattle.param_events.specs.Edits.{held}
use Rattle.param_events.specs.Timeline.{IsTimeline}
use Rattle.param_events.specs.Events.{until, after}
use Rattle.param_events.proofs.Holds.{held_kept}
use Rattle.param_events.proofs.edits.hold_from.Goals as goal

pub returns-clause-kept : goal.returns-clause-kept
returns-clause-kept c =
    let e : c.end_at.new.items ≡ held (until c.args.time c.args.items.now) (after c.args.time c.args.items.now) c.args.time c.args.value = search rules in
    subst IsTimeline (sym e) (held_kept c.args.items.now c.args.time c.args.value c.requires)
