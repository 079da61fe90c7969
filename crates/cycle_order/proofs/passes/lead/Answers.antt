use Rattle.std.proofs.Common.{rules, ℕ, ◌≡◌, ◌<◌, inl, inr, get_or, set, sym, ◌∙◌, subst}
use Rattle.std.proofs.lemmas.Bool.{cases_eq}
use Rattle.std.proofs.lemmas.List.{length-set, get_or-set_same, get_or-set_other, drop_more, drop_all}
use Rattle.law_base.specs.Members.{IsIn}
use Rattle.cycle_order.proofs.Lists.{IsIn-drop, IsIn-drop_more, IsIn-dropped}
use Rattle.cycle_order.proofs.passes.lead.Goals as goal

pub bounds-leaders-vertex : goal.bounds-leaders-vertex
bounds-leaders-vertex c = c.loop-vertex.invariant.within _ (IsIn-drop c.args.tree.now c.loop-vertex.vertex-index 0 c.loop-vertex-test.true)

pub offset_bounds-leaders-vertex : goal.offset_bounds-leaders-vertex
offset_bounds-leaders-vertex c = let l = c.loop-vertex.invariant.within _ (IsIn-drop c.args.tree.now c.loop-vertex.vertex-index 0 c.loop-vertex-test.true) in search rules

pub loop-vertex-preserved : goal.loop-vertex-preserved
loop-vertex-preserved c =
    let tree = c.args.tree.now in
    let i : ℕ = c.loop-vertex.vertex-index in
    let leaders = c.loop-vertex.leaders in
    let root = c.args.root in
    let here = IsIn-drop tree i 0 c.loop-vertex-test.true in
    let l = c.loop-vertex.invariant.within _ here in
    record {
      within = λ v h. subst (λ n. v < n) (sym (length-set leaders _ _)) (c.loop-vertex.invariant.within v (IsIn-drop_more tree i v c.loop-vertex-test.true h));
      tree = λ v h. elim (cases_eq v (get_or tree i 0)) [
        | inl e ↦ inr (subst (λ x. get_or (set leaders (get_or tree i 0) root) x 0 ≡ root) (sym e) (get_or-set_same leaders (get_or tree i 0) root 0 l))
        | inr ne ↦ elim (c.loop-vertex.invariant.tree v h) [
          | inl k ↦ elim (subst (λ xs. IsIn v xs) (drop_more tree i 0 c.loop-vertex-test.true) k) [ inl e ↦ absurd (ne e) | inr k ↦ inl k ]
          | inr e ↦ inr (get_or-set_other leaders (get_or tree i 0) v root 0 ne ∙ e)
        ]
      ];
      others = λ v none.
          get_or-set_other leaders (get_or tree i 0) v root 0 (λ e. none (subst (λ x. IsIn x tree) (sym e) (IsIn-dropped tree i (get_or tree i 0) here)))
          ∙ c.loop-vertex.invariant.others v none;
    }

pub returns-clause-tree : goal.returns-clause-tree
returns-clause-tree c v h = elim (c.loop-vertex.invariant.tree v h) [
  | inl k ↦ absurd (subst (λ xs. IsIn v xs) (drop_all c.loop-vertex.vertex-index c.args.tree.now c.loop-vertex-test.false) k)
  | inr e ↦ e
]
