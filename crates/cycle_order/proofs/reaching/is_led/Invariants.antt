use Rattle.std.proofs.Common.{ℕ, ◌≡◌, ◌<◌, drop, length, slice_index_or}
use Rattle.std.specs.Prelude.{◌==◌}
use Rattle.std.specs.List.{list_any}
use Rattle.law_base.specs.Members.{IsIn}
use Rattle.cycle_order.proofs.reaching.is_led.Given as goal

abbrev pub invariant-loop-v : goal.invariant-loop-v
invariant-loop-v l = record {
  within : (v : ℕ) → IsIn v (drop l.v-index l.targets) → v < length l.leaders;
  rest : list_any (λ v. slice_index_or l.leaders v 0 == l.leader) (drop l.v-index l.targets) ≡ list_any (λ v. slice_index_or l.leaders v 0 == l.leader) l.targets;
}
