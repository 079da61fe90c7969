use Rattle.std.proofs.Common.{◌≡◌, true, sym, ◌∙◌, ap}
use Rattle.session.specs.Rendering.{completes}
use Rattle.session.specs.Session.{session_of}
use Rattle.prune_top.proofs.Parting.{pruned_of}
use Rattle.prune_top.proofs.pruning.prune.Goals as goal

pub returns-in-Completed-clause-pruned : goal.returns-in-Completed-clause-pruned
returns-in-Completed-clause-pruned g c =
    let told = c.in-Ok.ensures.outcome in
    let ended : completes (session_of told.0 c.args.script).end ≡ true = ap completes (sym told.2.end ∙ c.in-Completed.is) in (
      told.0,
      told.1,
      pruned_of told.0 c.args.script c.in-Ok.outcome.lines.items _ c.requires ended told.2.lines c.in_ok-script-in-Completed.ensures.script c.len-kept.ensures c.len-of.ensures,
    )
