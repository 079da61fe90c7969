use Rattle.std.proofs.Common.{ap, subst, ◌∙◌, take}
use Rattle.param_events.specs.Pieces.{IsIn, all}
use Rattle.param_events.proofs.Pieced.{pieced_take}
use Rattle.param_events.proofs.pieces.Events.truncate.Goals as goal

pub returns-then-n-self : goal.returns-then-n-self
returns-then-n-self c =
    let is = subst (λ ps. IsIn ps c.args.n c.find-k.result.0 c.find-k.result.1) c.as_slice.ensures.value c.find-k.ensures in
    ap all c.truncate-then-n-self.ensures.items ∙ pieced_take c.self.inside.pieces.items c.args.n c.find-k.result.0 c.find-k.result.1 c.index_mut.result.now c.truncate.new.self is c.index_mut.ensures.value c.truncate.ensures.items
    ∙ ap (take c.args.n) c.self.view_is
