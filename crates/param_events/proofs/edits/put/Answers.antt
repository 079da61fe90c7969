use Rattle.std.proofs.Common.{◌≡◌, sym, subst, rules}
use Rattle.param_events.specs.Events.{put}
use Rattle.param_events.specs.Timeline.{IsTimeline}
use Rattle.param_events.proofs.Puts.{put_kept}
use Rattle.param_events.proofs.edits.put.Goals as goal

pub returns-clause-kept : goal.returns-clause-kept
returns-clause-kept c = let e : c.insert.new.self ≡ put c.args.items.now c.args.event = search rules in subst IsTimeline (sym e) (put_kept _ _ c.requires.kept c.requires.may)
