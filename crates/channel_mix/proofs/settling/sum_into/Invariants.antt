use Rattle.std.proofs.Common.{◌+ℤ◌, pos, slice_index_or}
use Rattle.wa_base.specs.Numbers.{sat}
use Rattle.channel_mix.proofs.Made.{IsMade}
use Rattle.channel_mix.proofs.settling.sum_into.Given as goal

abbrev pub invariant-loop-k : goal.invariant-loop-k
invariant-loop-k l = IsMade (λ k. sat (slice_index_or l.first k (pos 0) +ℤ slice_index_or l.second k (pos 0))) l.k l.out
