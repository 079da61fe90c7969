use Rattle.std.proofs.Common.{ℕ, ◌≡◌, ◌<◌, ◌+◌, suc, inl, inr, take, get_or, sym, subst, arith}
use Rattle.std.proofs.lemmas.List.{take_all}
use Rattle.law_base.specs.Members.{IsIn}
use Rattle.cycle_order.proofs.Lists.{IsIn-drop, IsIn-drop_more}
use Rattle.cycle_order.proofs.Sorted.{IsIn-take_more, in_front, front_further}
use Rattle.cycle_order.proofs.sorting.take_away.Goals as goal

pub take_one-requires-clause-vertex : goal.take_one-requires-clause-vertex
take_one-requires-clause-vertex c = c.loop-target.invariant.within _ (IsIn-drop c.args.targets.now c.loop-target.target-index 0 c.loop-target-test.true)

-- a vertex more that was not listed
pub loop-target-preserved : goal.loop-target-preserved
loop-target-preserved c =
    let ts = c.args.targets.now in
    let i : ℕ = c.loop-target.target-index in
    let first = c.args.free.now.items in
    record {
      within = λ v h. subst (λ n. v < n) (sym c.take_one.auto.counts) (c.loop-target.invariant.within v (IsIn-drop_more ts i v c.loop-target-test.true h));
      free = c.in_ok-take_one.ensures.free;
      front = front_further first c.loop-target.free.items c.take_one.new.free.items c.loop-target.invariant.front c.in_ok-take_one.ensures.front;
      later = λ v h m. elim (IsIn-take_more ts i v c.loop-target-test.true (subst (λ k. IsIn v (take k ts)) (let e : i + 1 ≡ suc i = omega arith in e) h)) [
        | inl k ↦ c.loop-target.invariant.later v k m
        | inr e ↦ c.in_ok-take_one.ensures.later c.if-not-branch.false (in_front first c.loop-target.free.items (get_or ts i 0) c.loop-target.invariant.front (subst (λ w. IsIn w first) e m))
      ];
    }

pub returns-clause-later : goal.returns-clause-later
returns-clause-later c all v h m =
    c.loop-target.invariant.later v (subst (λ ts. IsIn v ts) (sym (take_all c.loop-target.target-index c.args.targets.now c.loop-target-test.false)) h) m
