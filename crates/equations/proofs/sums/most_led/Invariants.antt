use Rattle.std.proofs.Common.{◌≡◌, ◌≤◌, map, take}
use Rattle.mix_rules.specs.Counts.{greatest}
use Rattle.equations.specs.Given.{meaning_of}
use Rattle.equations.specs.Sums.{led_count}
use Rattle.equations.proofs.sums.most_led.Given as goal

-- the most so far
abbrev pub invariant-loop-edge : goal.invariant-loop-edge
invariant-loop-edge l = record {
  value : l.most ≡ greatest (map (led_count l.target ((meaning_of l.context).counts l.quantum)) (take l.edge-index l.edges));
  few : l.most ≤ 32;
}
