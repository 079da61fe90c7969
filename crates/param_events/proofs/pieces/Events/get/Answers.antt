use Rattle.std.proofs.Common.{ap, sym, subst, ◌∙◌}
use Rattle.std.specs.Prelude.{slice_get}
use Rattle.param_events.specs.Pieces.{IsIn}
use Rattle.param_events.proofs.Pieced.{pieced_get}
use Rattle.param_events.proofs.pieces.Events.get.Goals as goal

pub returns : goal.returns
returns c =
    let is = subst (λ ps. IsIn ps c.args.i c.find-k.result.0 c.find-k.result.1) c.as_slice.ensures.value c.find-k.ensures in
    ap (λ es. slice_get es c.args.i) (sym c.self.view_is) ∙ pieced_get c.self.inside.pieces.items c.args.i c.find-k.result.0 c.find-k.result.1 c.index.result.now c.index-2.result.now is c.index.ensures c.index-2.ensures
