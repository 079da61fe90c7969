use Rattle.std.proofs.Common.{◌≡◌, length, take}
use Rattle.prune_script.specs.Deeds.{heard_of}
use Rattle.prune_script.specs.Keeping.{TellsHeard}
use Rattle.prune_script.specs.Live.{is_marked}
use Rattle.prune_script.proofs.live.marked_heard.Given as goal

abbrev pub invariant-loop-deed : goal.invariant-loop-deed
invariant-loop-deed l = record {
  same : length l.heard.items ≡ length l.live;
  tells : TellsHeard (heard_of (is_marked l.live) (take l.deed-index l.deeds)) l.heard.items;
}
