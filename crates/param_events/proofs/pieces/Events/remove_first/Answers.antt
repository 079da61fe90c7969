use Rattle.std.proofs.Common.{ap, subst, ◌∙◌, length, drop, arith}
use Rattle.std.proofs.lemmas.List.{length-drop}
use Rattle.param_events.specs.Pieces.{IsIn, all}
use Rattle.param_events.proofs.Pieced.{pieced_remove}
use Rattle.param_events.proofs.pieces.Events.remove_first.Goals as goal

pub invariant_of-self : goal.invariant_of-self
invariant_of-self c =
    let is = subst (λ ps. IsIn ps 0 c.find-k.result.0 c.find-k.result.1) c.as_slice.ensures.value c.find-k.ensures in
    let less = pieced_remove c.self.inside.pieces.items c.find-k.result.0 c.find-k.result.1 c.index_mut.result.now c.remove-first.new.self is c.index_mut.ensures.value c.remove-first.ensures.by_index.2 in
    let long = ap length less ∙ length-drop 1 (all c.self.inside.pieces.items) in
    omega (arith, long, c.self.invariant)

pub returns : goal.returns
returns c =
    let is = subst (λ ps. IsIn ps 0 c.find-k.result.0 c.find-k.result.1) c.as_slice.ensures.value c.find-k.ensures in
    pieced_remove c.self.inside.pieces.items c.find-k.result.0 c.find-k.result.1 c.index_mut.result.now c.remove-first.new.self is c.index_mut.ensures.value c.remove-first.ensures.by_index.2 ∙ ap (drop 1) c.self.view_is
