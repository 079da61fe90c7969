-- A plan of a graph that is edited on and on.
use Rattle.std.proofs.Common.{ℕ, ◌≡◌, ◌<◌, ◌≤◌, ◌-◌, ◌^◌, Option, Some, None, refl, sym, ap, ◌∙◌, subst, arith}
use Rattle.std.specs.Prelude.{IfSome}
use Rattle.conn_graph.specs.Walks.{GraphView, CountsEdits}
use Rattle.quantum_render.specs.Plans.{PlanView, IsPlanned}
use Rattle.session.specs.View.{PlansFor}

-- of no graph
pub plans_none : (plan : PlanView) (g : GraphView) → plan.planned ≡ None → PlansFor plan g
plans_none plan g none = record {
  earlier = subst (λ o. IfSome o (λ edits. edits ≤ g.edits)) (sym none) tt;
  unedited = λ un. absurd (let no : None ≡ Some g.edits = sym none ∙ un.0 in cc);
}

-- through edits that are counted
pub plans_on : (plan : PlanView) (old new : GraphView) → CountsEdits old new → PlansFor plan old → PlansFor plan new
plans_on plan old new counts plans = by_planned plan.planned refl
  where
    by_planned : (o : Option ℕ) → plan.planned ≡ o → PlansFor plan new
    by_planned None is = plans_none plan new is
    by_planned (Some n) is =
        let then : n ≤ old.edits = subst (λ o. IfSome o (λ edits. edits ≤ old.edits)) is plans.earlier in
        let low = counts.low in
        record {
          earlier = subst (λ o. IfSome o (λ edits. edits ≤ new.edits)) (sym is) (let l : n ≤ new.edits = omega arith in l);
          unedited = λ un.
              let now : n ≡ new.edits = let e : Some n ≡ Some new.edits = sym is ∙ un.0 in cc in
              let same : new.edits ≡ old.edits = omega arith in
              let few : old.edits < 2 ^ 64 - 1 = subst (λ k. k < 2 ^ 64 - 1) same un.1 in
              subst (λ v. IsPlanned v plan) (sym (counts.same same few)) (plans.unedited (un.0 ∙ ap (λ k. Some k) same, few));
        }

-- the plan of a graph that was just made
pub plans_now : (plan : PlanView) (g : GraphView) → plan.planned ≡ Some g.edits → IsPlanned g.value plan → PlansFor plan g
plans_now plan g planned is = record {
  earlier = subst (λ o. IfSome o (λ edits. edits ≤ g.edits)) (sym planned) (let l : g.edits ≤ g.edits = omega arith in l);
  unedited = λ un. is;
}
