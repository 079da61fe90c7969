use Rattle.std.proofs.Common.{ℕ, ◌≡◌, ◌<◌, ◌^◌, [], inl, inr, sym, ◌∙◌, ap, subst, arith, length}
use Rattle.std.specs.List.{sum_by}
use Rattle.law_base.specs.Members.{IsIn}
use Rattle.meaning.specs.declared.params.Param.{Param}
use Rattle.graph_tests.proofs.plans.prepare_often.Goals as goal

pub loop-preserved : goal.loop-preserved
loop-preserved g c =
    let inv = c.loop.invariant in
    let done = c.in_ok-prepare.ensures in
    let digits : Param → ℕ = λ p. 0 in
    let short : (p : Param) → IsIn p c.args.world.now.params.items → length p.line.events < 2 ^ digits p = λ p there. absurd (subst (IsIn p) c.requires.params there) in
    let none : sum_by digits c.args.world.now.params.items ≡ 0 = ap (sum_by digits) c.requires.params in (
      inv.0 ∙ sym done.spec,
      (λ unedited. done.plan),
      elim inv.2 [
        | inl first ↦ let cost = done.cost digits short in inr (done.planned, omega (arith, first, cost, none))
        | inr again ↦ let cost = done.unedited_cost (again.0, c.requires.edits) digits short in inr (done.planned, omega (arith, again.1, cost, none))
      ],
    )
