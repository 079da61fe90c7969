use Rattle.std.proofs.Common.{ℕ, ◌≡◌, ◌<◌, ◌≤◌, ◌*◌, length, slice_index_or, None}
use Rattle.filter_bank.specs.Banks.{IsRestedIfThere}
use Rattle.filter_bank.proofs.causal_nodes.rest_each.Given as goal

-- the causal nodes so far have rested, and the others are as they were
abbrev pub invariant-loop-causal : goal.invariant-loop-causal
invariant-loop-causal l = record {
  long : length l.nodes ≡ length l.initial.nodes;
  scratch : length l.scratch ≡ 32 * l.frames;
  rested : (n : ℕ) → n < l.causal-index → IsRestedIfThere l.frames l.first (slice_index_or l.initial.nodes n None) (slice_index_or l.nodes n None);
  others : (n : ℕ) → l.causal-index ≤ n → slice_index_or l.nodes n None ≡ slice_index_or l.initial.nodes n None;
}
