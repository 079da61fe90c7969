use Rattle.std.proofs.Common.{ℕ, ◌≡◌, ◌<◌, ◌+◌, length, drop, [], get_or, sym, ◌∙◌, ap, arith, subst}
use Rattle.std.proofs.lemmas.List.{drop_all, drop_more, take_at}
use Rattle.law_base.specs.Members.{IsIn}
use Rattle.cycle_order.specs.Counts.{times, entering}
use Rattle.cycle_order.proofs.Lists.{IsIn-drop, IsIn-drop_more}
use Rattle.cycle_order.proofs.Searching.{leads_to}
use Rattle.cycle_order.proofs.Counts.{entering_le, bias_le}
use Rattle.cycle_order.proofs.places.counts_of.Goals as goal

pub raise-requires-clause-within : goal.raise-requires-clause-within
raise-requires-clause-within c v h =
    let arrows = c.args.arrows.now in
    let u = c.vertex_of.result in
    let below = c.loop-end.invariant.within _ (IsIn-drop c.args.ends.now c.loop-end.end-index _ c.loop-end-test.true) in
    let l : u < length arrows = subst (λ w. w < length arrows) (sym c.vertex_of.ensures) below in
    let targets = c.part.ensures in
    let v_below = c.requires.within u v (leads_to arrows u v (subst (λ xs. IsIn v xs) targets h)) in
    subst (λ n. v < n) (sym (ap length c.as_mut_slice.ensures.value ∙ c.loop-end.invariant.number)) v_below

pub raise-requires-clause-fits : goal.raise-requires-clause-fits
raise-requires-clause-fits c v h =
    let arrows = c.args.arrows.now in
    let ends = c.args.ends.now in
    let i : ℕ = c.loop-end.end-index in
    let u = c.vertex_of.result in
    let below = c.loop-end.invariant.within _ (IsIn-drop ends i _ c.loop-end-test.true) in
    let l : u < length arrows = subst (λ w. w < length arrows) (sym c.vertex_of.ensures) below in
    let targets = c.part.ensures in
    let inside : v < length arrows = subst (λ n. v < n) (ap length c.as_mut_slice.ensures.value ∙ c.loop-end.invariant.number) h in
    let sum = c.loop-end.invariant.counted v inside in
    let first : entering arrows (drop i ends) v ≡ times v (get_or arrows u []) + entering arrows (drop (i + 1) ends) v =
    ap (λ es. entering arrows es v) (drop_more ends i _ c.loop-end-test.true) ∙ ap (λ w. times v (get_or arrows w []) + entering arrows (drop (i + 1) ends) v) (sym c.vertex_of.ensures) in
    let all = entering_le arrows v 0 ends c.requires.rising c.requires.ends in
    let few = c.requires.few in
    let own = bias_le ends v in
    let value : get_or c.as_mut_slice.result.now v 0 ≡ get_or c.loop-end.counts.items v 0 = ap (λ xs. get_or xs v 0) c.as_mut_slice.ensures.value in
    let read : times v c.part.result.now ≡ times v (get_or arrows u []) = ap (times v) targets in
    omega arith

pub loop-end-preserved : goal.loop-end-preserved
loop-end-preserved c =
    let arrows = c.args.arrows.now in
    let ends = c.args.ends.now in
    let i : ℕ = c.loop-end.end-index in
    let u = c.vertex_of.result in
    let counts' = c.raise.new.counts in
    let below = c.loop-end.invariant.within _ (IsIn-drop ends i _ c.loop-end-test.true) in
    let l : u < length arrows = subst (λ w. w < length arrows) (sym c.vertex_of.ensures) below in
    let targets = c.part.ensures in
    let kept = take_at counts' (drop (length counts') c.loop-end.counts.items) c.loop-end.counts.len (c.raise.auto.counts ∙ c.as_mut_slice.ensures.len) in
    let number = ap length c.as_mut_slice.ensures.value ∙ c.loop-end.invariant.number in
    record {
      number = ap length kept ∙ c.raise.auto.counts ∙ number;
      within = λ e h. c.loop-end.invariant.within e (IsIn-drop_more ends i e c.loop-end-test.true h);
      counted = λ v inside.
          let sum = c.loop-end.invariant.counted v inside in
          let first : entering arrows (drop i ends) v ≡ times v (get_or arrows u []) + entering arrows (drop (i + 1) ends) v =
          ap (λ es. entering arrows es v) (drop_more ends i _ c.loop-end-test.true) ∙ ap (λ w. times v (get_or arrows w []) + entering arrows (drop (i + 1) ends) v) (sym c.vertex_of.ensures) in
          let raised = c.raise.ensures v (subst (λ n. v < n) (sym number) inside) in
          let value : get_or c.as_mut_slice.result.now v 0 ≡ get_or c.loop-end.counts.items v 0 = ap (λ xs. get_or xs v 0) c.as_mut_slice.ensures.value in
          let read : times v c.part.result.now ≡ times v (get_or arrows u []) = ap (times v) targets in
          ap (λ xs. get_or xs v 0 + entering arrows (drop (i + 1) ends) v) kept ∙ omega arith;
    }

pub returns-clause-counts : goal.returns-clause-counts
returns-clause-counts c v l =
    let sum = c.loop-end.invariant.counted v l in
    let none = ap (λ es. entering c.args.arrows.now es v) (drop_all c.loop-end.end-index c.args.ends.now c.loop-end-test.false) in
    omega arith
