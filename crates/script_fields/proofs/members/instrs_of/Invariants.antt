use Rattle.std.proofs.Common.{◌≡◌, ◌≤◌, take, length, vec_len, vec_capacity}
use Rattle.json_tree.specs.View.{items_view}
use Rattle.script_fields.specs.Instructions.{code_of}
use Rattle.script_fields.proofs.members.instrs_of.Given as goal

abbrev pub invariant-loop-item : goal.invariant-loop-item
invariant-loop-item l = (l.instrs.items ≡ code_of (items_view (take l.item-index l.list))) × (vec_len l.instrs ≡ l.item-index) × (length l.list ≤ vec_capacity l.instrs)
