use Rattle.std.proofs.Common.{◌≡◌, drop, length}
use Rattle.json_tree.specs.View.{items_view}
use Rattle.script_json.specs.Calls.{placed}
use Rattle.script_json.specs.Reading.{calls_read}
use Rattle.script_json.proofs.calls.+add_calls.Given as goal

abbrev pub decreases-add_calls : goal.decreases-add_calls
decreases-add_calls l = l.depth

abbrev pub invariant-loop-value : goal.invariant-loop-value
invariant-loop-value l = calls_read l.clock l.initial.calls (placed (items_view l.list) (length l.initial.calls) l.holder)
    ≡ calls_read l.clock l.calls (placed (items_view (drop l.value-index l.list)) (length l.calls) l.holder)
