use Rattle.std.proofs.Common.{◌≡◌, ◌≤◌, take, length, vec_len, vec_capacity}
use Rattle.json_tree.specs.View.{items_view}
use Rattle.script_fields.specs.Fields.{fixes_of}
use Rattle.script_fields.proofs.members.fixes_of.Given as goal

abbrev pub invariant-loop-item : goal.invariant-loop-item
invariant-loop-item l = (l.fixes.items ≡ fixes_of (items_view (take l.item-index l.list))) × (vec_len l.fixes ≡ l.item-index) × (length l.list ≤ vec_capacity l.fixes)
