use Rattle.std.proofs.Common.{ap, sym, subst, ◌∙◌, set, get_or, length, refl, ◌≡◌}
use Rattle.std.proofs.lemmas.List.{length-set}
use Rattle.std.proofs.lemmas.Option.{get_or_from_slice_get}
use Rattle.param_events.specs.Edits.{cut_at}
use Rattle.param_events.specs.Pieces.{IsIn, all}
use Rattle.param_events.proofs.Pieced.{pieced_set, pieced_get}
use Rattle.param_events.proofs.pieces.Events.cut_at.Goals as goal

pub invariant_of-self : goal.invariant_of-self
invariant_of-self c =
    let is = subst (λ ps. IsIn ps c.args.i c.find-k.result.0 c.find-k.result.1) c.as_slice.ensures.value c.find-k.ensures in
    let new = pieced_set c.self.inside.pieces.items c.args.i c.find-k.result.0 c.find-k.result.1 c.index_mut.result.now _ c.cut_at.new.self is c.index_mut.ensures.value refl in
    c.self.invariant ∙ sym (ap length new ∙ length-set _ _ _)

pub returns : goal.returns
returns c other =
    let is = subst (λ ps. IsIn ps c.args.i c.find-k.result.0 c.find-k.result.1) c.as_slice.ensures.value c.find-k.ensures in
    let ps = c.self.inside.pieces.items in
    let old = c.index_mut-2.result.now in
    let there = pieced_get ps c.args.i c.find-k.result.0 c.find-k.result.1 c.index_mut.result.now old is c.index_mut.ensures.value c.index_mut-2.ensures.value in
    let here : get_or c.args.self.now c.args.i other ≡ old = ap (λ es. get_or es c.args.i other) (sym c.self.view_is) ∙ get_or_from_slice_get (all ps) c.args.i old other there in
    pieced_set ps c.args.i c.find-k.result.0 c.find-k.result.1 c.index_mut.result.now _ c.cut_at.new.self is c.index_mut.ensures.value refl
    ∙ ap (λ es. set es c.args.i c.cut_at.new.self) c.self.view_is ∙ ap (set c.args.self.now c.args.i) (c.cut_at.ensures ∙ ap (cut_at c.args.at) (sym here))
