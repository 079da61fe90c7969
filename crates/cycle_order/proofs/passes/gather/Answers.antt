use Rattle.std.proofs.Common.{rules, ◌<◌, ◌++◌, ◌∷◌, [], length, get_or, set, true, subst, sym, ◌∙◌, ap, arith}
use Rattle.std.proofs.lemmas.List.{get_or_read}
use Rattle.cycle_order.specs.Reach.{IsMarking}
use Rattle.cycle_order.proofs.Searching.{leads_to}
use Rattle.cycle_order.proofs.Leading.{IsGathering, gathering_starts, first_within, gathering_goes_on, gathering_ends}
use Rattle.cycle_order.proofs.passes.gather.Goals as goal

pub mark_fresh-requires-clause-to : goal.mark_fresh-requires-clause-to
mark_fresh-requires-clause-to c =
    let tree = c.loop-first.tree.items in
    let test : c.loop-first.first < length tree = search rules in
    let here = get_or_read tree c.loop-first.first c.index.result.now test c.index.ensures 0 in
    subst (λ v. v < length c.args.back.now) (sym here) (first_within c.args.back.now c.args.root c.args.marks.now c.loop-first.marks tree c.loop-first.first c.loop-first.invariant test)

pub mark_fresh-requires-clause-within : goal.mark_fresh-requires-clause-within
mark_fresh-requires-clause-within c v h =
    let back = c.args.back.now in
    let tree = c.loop-first.tree.items in
    let u = c.index.result.now in
    let test : c.loop-first.first < length tree = search rules in
    let here = get_or_read tree c.loop-first.first u test c.index.ensures 0 in
    let l : u < length back = subst (λ v. v < length back) (sym here) (first_within back c.args.root c.args.marks.now c.loop-first.marks tree c.loop-first.first c.loop-first.invariant test) in
    subst (λ n. v < n) (sym c.loop-first.invariant.number) (c.requires.within u v (leads_to back u v h))

pub loop-first-preserved : goal.loop-first-preserved
loop-first-preserved c =
    let back = c.args.back.now in
    let tree = c.loop-first.tree.items in
    let u = c.index.result.now in
    let marks' = c.mark_fresh.new.marks in
    let tree' = c.mark_fresh.new.found.items in
    let test : c.loop-first.first < length tree = search rules in
    let here = get_or_read tree c.loop-first.first u test c.index.ensures 0 in
    let l : u < length back = subst (λ v. v < length back) (sym here) (first_within back c.args.root c.args.marks.now c.loop-first.marks tree c.loop-first.first c.loop-first.invariant test) in
    let marked = subst (λ ts. IsMarking ts c.loop-first.marks tree marks' tree') (ap (λ v. get_or back v []) here) c.in_ok-mark_fresh.ensures in
    gathering_goes_on back c.args.root c.args.marks.now c.loop-first.marks tree c.loop-first.first c.loop-first.invariant test marks' tree' c.mark_fresh.auto.marks marked

pub loop-first-init : goal.loop-first-init
loop-first-init c =
    subst (λ xs. IsGathering c.args.back.now c.args.root c.args.marks.now (set c.args.marks.now c.args.root true) xs 0) (sym (c.in_ok-push.ensures.items ∙ ap (λ xs. xs ++ c.args.root ∷ []) c.clear.ensures.items))
    (gathering_starts c.args.back.now c.args.root c.args.marks.now c.requires.number c.requires.root c.requires.fresh)

pub returns : goal.returns
returns c = let past = c.loop-first-test.false in gathering_ends c.args.back.now c.args.root c.args.marks.now c.loop-first.marks c.loop-first.tree.items c.loop-first.first c.loop-first.invariant (omega arith)
