use Rattle.std.proofs.Common.{◌*◌, rules, pos, slice_index_or, ap, ◌∙◌, arith}
use Rattle.filter_bank.proofs.Growing.{zeros_at}
use Rattle.filter_bank.proofs.causal_nodes.CausalNodes.new.Goals as goal

pub invariant_of-result : goal.invariant_of-result
invariant_of-result c = record {
  size = c.requires;
  within = omega arith;
  zeros_length = search rules;
  scratch_length = search rules;
  silent = λ k. ap (λ xs. slice_index_or xs k (pos 0)) (c.in_ok-vec.ensures.items_if_clones_equal (λ y e. e)) ∙ zeros_at (32 * c.args.quantum) k;
}
