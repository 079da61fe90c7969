use Rattle.std.proofs.Common.{◌≡◌, ◌≤◌, length, take}
use Rattle.serde_json.specs.Find.{get_member}
use Rattle.json_tree.specs.View.{members_view}
use Rattle.json_tree.proofs.values.find.Given as goal

-- the name is not among those behind
abbrev pub invariant-loop-left : goal.invariant-loop-left
invariant-loop-left l = record {
  found : get_member l.name (members_view l.members) ≡ get_member l.name (members_view (take l.left l.members));
  within : l.left ≤ length l.members;
}

abbrev pub decreases-loop-left : goal.decreases-loop-left
decreases-loop-left l = l.left
