use Rattle.std.proofs.Common.{rules, ℕ, ◌<◌, ◌-◌, ◌∙◌, ap, arith, length, subst, sym, get_or}
use Rattle.std.specs.Cmp.{unsigned_tied}
use Rattle.std.proofs.lemmas.Bool.{ne_eqb}
use Rattle.std.proofs.lemmas.List.{length-set, get_or-set_same, drop_all}
use Rattle.cycle_order.specs.Counts.{times, holds}
use Rattle.cycle_order.proofs.Lists.{IsIn-drop, IsIn-drop_more}
use Rattle.cycle_order.proofs.Tallies.{first_here, lowered, ready_so_far, ready_added, ready_kept}
use Rattle.cycle_order.proofs.places.release.Goals as goal
use Rattle.cycle_order.proofs.places.release.Goals.{then-counts-target-eq0+in_ok-insert, else-counts-target-eq0}

pub bounds-counts-target : goal.bounds-counts-target
bounds-counts-target c = c.loop-target.invariant.within _ (IsIn-drop c.args.targets.now c.loop-target.target-index 0 c.loop-target-test.true)

pub bounds-counts-target-in-loop-target : goal.bounds-counts-target-in-loop-target
bounds-counts-target-in-loop-target c = c.loop-target.invariant.within _ (IsIn-drop c.args.targets.now c.loop-target.target-index 0 c.loop-target-test.true)

pub bounds-counts-target-in-loop-target-2 : goal.bounds-counts-target-in-loop-target-2
bounds-counts-target-in-loop-target-2 c =
    subst (λ n. get_or c.args.targets.now c.loop-target.target-index 0 < n) (sym (length-set c.loop-target.counts _ _))
    (c.loop-target.invariant.within _ (IsIn-drop c.args.targets.now c.loop-target.target-index 0 c.loop-target-test.true))

pub offset_bounds-counts-target : goal.offset_bounds-counts-target
offset_bounds-counts-target c = let l = c.loop-target.invariant.within _ (IsIn-drop c.args.targets.now c.loop-target.target-index 0 c.loop-target-test.true) in search rules

pub offset_bounds-counts-target-in-loop-target : goal.offset_bounds-counts-target-in-loop-target
offset_bounds-counts-target-in-loop-target c = let l = c.loop-target.invariant.within _ (IsIn-drop c.args.targets.now c.loop-target.target-index 0 c.loop-target-test.true) in search rules

pub overflow_sub-counts : goal.overflow_sub-counts
overflow_sub-counts c =
    let t = get_or c.args.targets.now c.loop-target.target-index 0 in
    let l = c.loop-target.invariant.within _ (IsIn-drop c.args.targets.now c.loop-target.target-index 0 c.loop-target-test.true) in
    let below : t < length c.args.counts.now = subst (λ n. t < n) c.loop-target.invariant.number l in
    let sum = c.loop-target.invariant.counted t below in
    let here = first_here c.args.targets.now c.loop-target.target-index c.loop-target-test.true in
    let enough = c.requires.enough t below in
    omega arith

pub loop-target-preserved : goal.loop-target-preserved
loop-target-preserved c =
    let ts = c.args.targets.now in
    let i : ℕ = c.loop-target.target-index in
    let t = get_or ts i 0 in
    let counts = c.loop-target.counts in
    let l = c.loop-target.invariant.within _ (IsIn-drop ts i 0 c.loop-target-test.true) in
    let below : t < length c.args.counts.now = subst (λ n. t < n) c.loop-target.invariant.number l in
    let here = first_here ts i c.loop-target-test.true in
    let some : 0 < get_or counts t 0 =
    let sum = c.loop-target.invariant.counted t below in
    let enough = c.requires.enough t below in
    omega arith in
    record {
      number = length-set counts _ _ ∙ c.loop-target.invariant.number;
      within = λ v h. subst (λ n. v < n) (sym (length-set counts _ _)) (c.loop-target.invariant.within v (IsIn-drop_more ts i v c.loop-target-test.true h));
      counted = λ v m. let sum = c.loop-target.invariant.counted v m in let low = lowered ts i c.loop-target-test.true counts v l some in omega arith;
      ready = elim c.if-counts-target-eq0.branch [
        | then-counts-target-eq0+in_ok-insert w ↦
            ready_added (λ v. holds c.args.ready.now v) ts i c.loop-target-test.true counts l (get_or counts t 0 - 1) (λ v. holds c.loop-target.ready v) (λ v. holds c.if-counts-target-eq0.ready v) c.loop-target.invariant.ready
            (ap (λ s. holds s t) w.ready-is ∙ w.in_ok-insert.ensures.updates.1)
            (λ v ne. ap (λ s. holds s v) w.ready-is ∙ w.in_ok-insert.ensures.updates.2 v (unsigned_tied t v ∙ ne_eqb t v (λ e. ne (sym e))))
            (sym (get_or-set_same counts t (get_or counts t 0 - 1) 0 l) ∙ w.if-counts-target-eq0.true)
        | else-counts-target-eq0 w ↦
            λ v. ap (λ s. holds s v) w.ready-is
            ∙ ready_kept (λ v. holds c.args.ready.now v) ts i c.loop-target-test.true counts l (get_or counts t 0 - 1) (λ v. holds c.loop-target.ready v) c.loop-target.invariant.ready some
            (λ z. w.if-counts-target-eq0.false (get_or-set_same counts t (get_or counts t 0 - 1) 0 l ∙ z)) v
      ];
    }

pub returns-clause-counts : goal.returns-clause-counts
returns-clause-counts c v l =
    let sum = c.loop-target.invariant.counted v l in
    let none = ap (times v) (drop_all c.loop-target.target-index c.args.targets.now c.loop-target-test.false) in
    omega arith

pub returns-clause-ready : goal.returns-clause-ready
returns-clause-ready c v =
    c.loop-target.invariant.ready v
    ∙ ap (λ rest. ready_so_far (λ u. holds c.args.ready.now u) c.args.targets.now rest c.loop-target.counts v) (drop_all c.loop-target.target-index c.args.targets.now c.loop-target-test.false)
