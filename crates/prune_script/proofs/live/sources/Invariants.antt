use Rattle.std.proofs.Common.{◌≡◌, length, take}
use Rattle.prune_script.proofs.Sources.{AreSources}
use Rattle.prune_script.proofs.live.sources.Given as goal

abbrev pub invariant-loop-deed : goal.invariant-loop-deed
invariant-loop-deed l = record {
  same : length l.sources.items ≡ l.count;
  are : AreSources l.sources.items (take l.deed-index l.deeds);
}
