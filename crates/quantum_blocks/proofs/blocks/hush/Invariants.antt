use Rattle.std.proofs.Common.{ℕ, ◌≡◌, ◌<◌, length, slice_index_or}
use Rattle.wa_base.specs.declared.graph_names.End.{End}
use Rattle.law_base.specs.Members.{IsIn}
use Rattle.quantum_blocks.specs.Blocks.{block_of, lanes_of, frames_of, IsSilent}
use Rattle.quantum_blocks.proofs.blocks.hush.Given as goal

-- the ends so far are silent
abbrev pub invariant-loop-end : goal.invariant-loop-end
invariant-loop-end l = record {
  length : length l.blocks ≡ length l.initial.blocks;
  lanes : lanes_of l.blocks ≡ lanes_of l.initial.blocks;
  frames : frames_of l.blocks ≡ frames_of l.initial.blocks;
  kept : (d : End) → IsSilent l.initial.blocks d → IsSilent l.blocks d;
  others : (d : End) → (IsIn d l.muted → ⊥) → block_of l.blocks d ≡ block_of l.initial.blocks d;
  silent : (i : ℕ) (d : End) → i < l.end-index → IsSilent l.blocks (slice_index_or l.muted i d);
}
