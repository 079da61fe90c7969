use Rattle.std.proofs.Common.{◌≡◌, ◌*◌, ◌^◌, map, take}
use Rattle.lane_kern.specs.Blocks.{IsWithin}
use Rattle.mix_rules.specs.Mixing.{total}
use Rattle.equations.specs.Given.{frame_of}
use Rattle.equations.specs.Sums.{led_part}
use Rattle.equations.proofs.sums.total_led.Given as goal

-- the sum so far, and how far it can be from 0
abbrev pub invariant-loop-edge : goal.invariant-loop-edge
invariant-loop-edge l = record {
  value : l.sum ≡ total (map (led_part l.target (frame_of l.context l.frame) l.lane) (take l.edge-index l.edges));
  small : IsWithin (l.edge-index * 2 ^ 100) l.sum;
}
