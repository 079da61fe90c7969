use Rattle.std.proofs.Common.{◌≡◌, ◌++◌, drop, map, false}
use Rattle.serde_json.specs.View.{items_of}
use Rattle.serde_json.specs.Written.{items_text}
use Rattle.script_text.specs.Members.{fix}
use Rattle.script_text.proofs.values.push_fixes.Given as goal

abbrev pub invariant-loop-value : goal.invariant-loop-value
invariant-loop-value l = l.initial.out.items ++ items_text false (items_of (map fix l.values)) ≡ l.out.items ++ items_text l.later (items_of (map fix (drop l.value-index l.values)))
