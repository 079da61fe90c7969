use Rattle.std.proofs.Common.{rules, ◌<◌, ◌∙◌, ap, arith, length, subst, sym, get_or}
use Rattle.std.proofs.lemmas.List.{length-set, drop_all}
use Rattle.cycle_order.specs.Counts.{times}
use Rattle.cycle_order.proofs.Lists.{IsIn-drop, IsIn-drop_more}
use Rattle.cycle_order.proofs.Tallies.{first_here, raised}
use Rattle.cycle_order.proofs.places.raise.Goals as goal

pub bounds-counts-target : goal.bounds-counts-target
bounds-counts-target c = c.loop-target.invariant.within _ (IsIn-drop c.args.targets.now c.loop-target.target-index 0 c.loop-target-test.true)

pub bounds-counts-target-in-loop-target : goal.bounds-counts-target-in-loop-target
bounds-counts-target-in-loop-target c = c.loop-target.invariant.within _ (IsIn-drop c.args.targets.now c.loop-target.target-index 0 c.loop-target-test.true)

pub offset_bounds-counts-target : goal.offset_bounds-counts-target
offset_bounds-counts-target c = let l = c.loop-target.invariant.within _ (IsIn-drop c.args.targets.now c.loop-target.target-index 0 c.loop-target-test.true) in search rules

pub overflow_add-counts : goal.overflow_add-counts
overflow_add-counts c =
    let t = get_or c.args.targets.now c.loop-target.target-index 0 in
    let l = c.loop-target.invariant.within _ (IsIn-drop c.args.targets.now c.loop-target.target-index 0 c.loop-target-test.true) in
    let below : t < length c.args.counts.now = subst (λ n. t < n) c.loop-target.invariant.number l in
    let sum = c.loop-target.invariant.counted t below in
    let here = first_here c.args.targets.now c.loop-target.target-index c.loop-target-test.true in
    let fits = c.requires.fits t below in
    omega arith

pub loop-target-preserved : goal.loop-target-preserved
loop-target-preserved c =
    let ts = c.args.targets.now in
    let i = c.loop-target.target-index in
    let l = c.loop-target.invariant.within _ (IsIn-drop ts i 0 c.loop-target-test.true) in
    record {
      number = length-set c.loop-target.counts _ _ ∙ c.loop-target.invariant.number;
      within = λ v h. subst (λ n. v < n) (sym (length-set c.loop-target.counts _ _)) (c.loop-target.invariant.within v (IsIn-drop_more ts i v c.loop-target-test.true h));
      counted = λ v m. raised ts i c.loop-target-test.true c.loop-target.counts v l ∙ c.loop-target.invariant.counted v m;
    }

pub returns : goal.returns
returns c v l =
    let sum = c.loop-target.invariant.counted v l in
    let none = ap (times v) (drop_all c.loop-target.target-index c.args.targets.now c.loop-target-test.false) in
    omega arith
