use Rattle.std.proofs.Common.{◌≤◌, take}
use Rattle.shaper_iir.specs.Scales.{greatest}
use Rattle.shaper_iir.proofs.scales.are_within.Given as goal

abbrev pub invariant-loop-sample : goal.invariant-loop-sample
invariant-loop-sample l = greatest (take l.sample-index l.samples) ≤ l.reach
