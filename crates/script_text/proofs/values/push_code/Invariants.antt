use Rattle.std.proofs.Common.{◌≡◌, ◌++◌, drop, map, false}
use Rattle.serde_json.specs.View.{items_of}
use Rattle.serde_json.specs.Written.{items_text}
use Rattle.script_text.specs.Members.{instr_data}
use Rattle.script_text.proofs.values.push_code.Given as goal

abbrev pub invariant-loop-instr : goal.invariant-loop-instr
invariant-loop-instr l = l.initial.out.items ++ items_text false (items_of (map instr_data l.instrs)) ≡ l.out.items ++ items_text l.later (items_of (map instr_data (drop l.instr-index l.instrs)))
