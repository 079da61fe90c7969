use Rattle.std.proofs.Common.{rules, ◌<◌, Fits, w64, length, get_or, ◌∙◌, sym, ap, subst, arith}
use Rattle.std.proofs.lemmas.List.{get_or-replicate, length-replicate}
use Rattle.law_base.specs.Members.{IsIn}
use Rattle.cycle_order.proofs.Counts.{times_le}
use Rattle.cycle_order.proofs.Sorted.{targets_within}
use Rattle.cycle_order.proofs.sorting.arrow_counts.Goals as goal

pub raise-requires-clause-within : goal.raise-requires-clause-within
raise-requires-clause-within c v h =
    let arrows = c.args.arrows.now in
    let blank = c.as_mut_slice.ensures.value ∙ c.in_ok-counts.ensures.items_if_clones_equal (λ y e. e) in
    let below = targets_within arrows c.requires v (subst (λ xs. IsIn v xs) c.items.ensures h) in
    subst (λ n. v < n) (sym (ap length blank ∙ length-replicate c.len.result 0 ∙ c.len.ensures)) below

pub raise-requires-clause-fits : goal.raise-requires-clause-fits
raise-requires-clause-fits c v h =
    let blank = c.as_mut_slice.ensures.value ∙ c.in_ok-counts.ensures.items_if_clones_equal (λ y e. e) in
    let below = subst (λ n. v < n) (ap length blank ∙ length-replicate c.len.result 0) h in
    let value = ap (λ xs. get_or xs v 0) blank ∙ get_or-replicate c.len.result v 0 0 below in
    let few = times_le v c.items.result.now in
    let long : Fits w64 (length c.items.result.now) = search rules in
    omega arith
