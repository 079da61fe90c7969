use Rattle.std.proofs.Common.{ℕ, ◌≡◌, ◌<◌, length}
use Rattle.lane_kern.specs.Blocks.{at}
use Rattle.equations.specs.Given.{meaning_of}
use Rattle.equations.proofs.told.carried_by.Given as goal

-- the samples so far
abbrev pub invariant-loop-channel : goal.invariant-loop-channel
invariant-loop-channel l = record {
  long : length l.samples ≡ 32;
  each : (c : ℕ) → c < l.channel → at l.samples c ≡ (meaning_of l.context).values l.frame l.end l.output c;
}
