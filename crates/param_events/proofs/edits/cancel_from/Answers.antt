use Rattle.std.proofs.Common.{sym, subst}
use Rattle.param_events.specs.Timeline.{IsTimeline}
use Rattle.param_events.proofs.Cancels.{take_ordered, take_begun}
use Rattle.param_events.proofs.edits.cancel_from.Goals as goal

pub returns-clause-kept : goal.returns-clause-kept
returns-clause-kept c = subst IsTimeline (sym c.truncate.ensures) (record { begun = take_begun _ _ c.requires.begun; ordered = take_ordered 0 _ _ c.requires.ordered })
