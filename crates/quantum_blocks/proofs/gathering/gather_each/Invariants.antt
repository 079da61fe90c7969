use Rattle.std.proofs.Common.{ℕ, ◌≡◌, ◌<◌, ◌≤◌, ◌+◌, ◌*◌, ◌+ℤ◌, map, drop, filter}
use Rattle.mix_rules.specs.Mixing.{total}
use Rattle.meaning.specs.declared.world.World.{World}
use Rattle.meaning.specs.Values.{part}
use Rattle.channel_mix.specs.Sums.{sum_at}
use Rattle.quantum_blocks.specs.Blocks.{frame_of}
use Rattle.quantum_blocks.specs.Connections.{leads_to}
use Rattle.quantum_blocks.specs.Waiting.{AreWaiting, count_of, waiting_at}
use Rattle.quantum_blocks.proofs.gathering.gather_each.Given as goal

-- what the sums have, what waits, and what is left to be heard, are the whole
abbrev pub invariant-loop-edge : goal.invariant-loop-edge
invariant-loop-edge l = record {
  frames : l.sums.frames ≡ l.initial.sums.frames;
  count : l.sums.count ≡ l.inlet.count;
  added : l.sums.added + count_of l.waiting ≤ l.edge-index;
  waiting : AreWaiting (l.inlet.count * l.initial.sums.frames) l.waiting;
  sums : (w : World) (c m : ℕ) → c < l.inlet.count → m < l.initial.sums.frames →
      (sum_at l.sums c m +ℤ waiting_at l.waiting (c * l.initial.sums.frames + m)) +ℤ total (map (part (frame_of w l.blocks l.counts m) l.inlet.interp l.inlet.count c) (filter (leads_to l.inlet.target) (drop l.edge-index l.into)))
      ≡ total (map (part (frame_of w l.blocks l.counts m) l.inlet.interp l.inlet.count c) (filter (leads_to l.inlet.target) l.into));
}
