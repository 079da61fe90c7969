use Rattle.std.proofs.Common.{ℕ, pos, ◌+ℤ◌, ◌≡◌, ◌≤◌, slice_index_or}
use Rattle.wa_base.specs.Numbers.{sat}
use Rattle.channel_mix.proofs.Made.{IsMade}
use Rattle.channel_mix.proofs.settling.each_level_on.Given as goal

abbrev pub invariant-loop-level : goal.invariant-loop-level
invariant-loop-level l = record {
  made : IsMade (λ k. sat (slice_index_or l.fn.levels k (pos 0) +ℤ sat l.sum)) l.level-index l.level-items;
  rest : (k : ℕ) → l.level-index ≤ k → slice_index_or l.level-items k (pos 0) ≡ slice_index_or l.fn.levels k (pos 0);
}
