use Rattle.std.proofs.Common.{ℕ, ◌≡◌, ◌<◌, ◌+◌, ◌∷◌, [], ◌⊎◌, inl, inr, length, drop, get_or, sym, ◌∙◌, ap, subst}
use Rattle.std.proofs.lemmas.List.{length-set, drop_all}
use Rattle.law_base.specs.Members.{IsIn}
use Rattle.cycle_order.proofs.Lists.{IsIn-drop, IsIn-drop_more}
use Rattle.cycle_order.proofs.Turning.{turned_more}
use Rattle.cycle_order.proofs.passes.turn.Goals as goal

pub push-requires : goal.push-requires
push-requires c = c.loop-target.invariant.within _ (IsIn-drop c.args.targets.now c.loop-target.target-index 0 c.loop-target-test.true)

pub loop-target-preserved : goal.loop-target-preserved
loop-target-preserved c =
    let ts = c.args.targets.now in
    let i : ℕ = c.loop-target.target-index in
    let back = c.loop-target.back in
    let t = get_or ts i 0 in
    let l = c.loop-target.invariant.within _ (IsIn-drop ts i 0 c.loop-target-test.true) in
    let number : length c.push.new.self ≡ length back = ap length c.in_ok-push.ensures ∙ length-set back t (c.args.vertex ∷ get_or back t []) in
    record {
      number = number ∙ c.loop-target.invariant.number;
      within = λ v h. subst (λ n. v < n) (sym number) (c.loop-target.invariant.within v (IsIn-drop_more ts i v c.loop-target-test.true h));
      turned = λ b a.
          let one = turned_more ts i c.loop-target-test.true back l c.args.vertex b a in
          let before = c.loop-target.invariant.turned b a in
          ((λ h. before.0 (one.0 (subst (λ xs. IsIn a (get_or xs b []) ⊎ ((a ≡ c.args.vertex) × IsIn b (drop (i + 1) ts))) c.in_ok-push.ensures h))), (λ h. subst (λ xs. IsIn a (get_or xs b []) ⊎ ((a ≡ c.args.vertex) × IsIn b (drop (i + 1) ts))) (sym c.in_ok-push.ensures) (one.1 (before.1 h))));
    }

pub returns-clause-arrows : goal.returns-clause-arrows
returns-clause-arrows c b a =
    let before = c.loop-target.invariant.turned b a in
    let none = drop_all c.loop-target.target-index c.args.targets.now c.loop-target-test.false in (
      (λ h. before.0 (inl h)),
      (λ h. elim (before.1 h) [ inl k ↦ k | inr k ↦ absurd (subst (λ xs. IsIn b xs) none k.1) ]),
    )
