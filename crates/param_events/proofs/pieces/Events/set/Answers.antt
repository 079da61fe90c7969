use Rattle.std.proofs.Common.{ap, sym, subst, ◌∙◌, set, length, refl}
use Rattle.std.proofs.lemmas.List.{length-set}
use Rattle.param_events.specs.Pieces.{IsIn}
use Rattle.param_events.proofs.Pieced.{pieced_set}
use Rattle.param_events.proofs.pieces.Events.set.Goals as goal

pub invariant_of-self : goal.invariant_of-self
invariant_of-self c =
    let is = subst (λ ps. IsIn ps c.args.i c.find-k.result.0 c.find-k.result.1) c.as_slice.ensures.value c.find-k.ensures in
    let new = pieced_set c.self.inside.pieces.items c.args.i c.find-k.result.0 c.find-k.result.1 c.index_mut.result.now _ c.args.event is c.index_mut.ensures.value refl in
    c.self.invariant ∙ sym (ap length new ∙ length-set _ _ _)

pub returns : goal.returns
returns c =
    let is = subst (λ ps. IsIn ps c.args.i c.find-k.result.0 c.find-k.result.1) c.as_slice.ensures.value c.find-k.ensures in
    pieced_set c.self.inside.pieces.items c.args.i c.find-k.result.0 c.find-k.result.1 c.index_mut.result.now _ c.args.event is c.index_mut.ensures.value refl ∙ ap (λ es. set es c.args.i c.args.event) c.self.view_is
