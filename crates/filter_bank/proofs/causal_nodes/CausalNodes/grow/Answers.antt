use Rattle.std.proofs.Common.{◌≡◌, slice_index_or, Some, None, ◌∙◌, subst}
use Rattle.law_base.proofs.Places.{on_ok, rewritten}
use Rattle.filter_bank.proofs.causal_nodes.CausalNodes.grow.Goals as goal

pub returns-clause-ok : goal.returns-clause-ok
returns-clause-ok c =
    let long = c.grow_each.ensures.count ∙ c.as_mut_slice.ensures.len in
    on_ok c.grow_each.result (λ each n f is low. each n f (subst (λ xs. slice_index_or xs n None ≡ Some f) (rewritten _ c.grow_each.new.nodes _ long) is) low) c.grow_each.ensures.ok
