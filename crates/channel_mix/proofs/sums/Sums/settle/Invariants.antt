use Rattle.std.proofs.Common.{ℕ, ◌≡◌, ◌<◌, ◌*◌, length}
use Rattle.wa_base.specs.Numbers.{sat}
use Rattle.mix_rules.specs.Blocks.{sample}
use Rattle.channel_mix.specs.Sums.{sum_at}
use Rattle.channel_mix.proofs.sums.Sums.settle.Given as goal

-- the channels so far
abbrev pub invariant-loop-channel : goal.invariant-loop-channel
invariant-loop-channel l = record {
  length : length l.values ≡ l.self.count * l.self.frames;
  so_far : (c m : ℕ) → c < l.channel → m < l.self.frames → sample l.self.frames l.values c m ≡ sat (sum_at l.self c m);
}
