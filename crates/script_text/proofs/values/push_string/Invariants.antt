use Rattle.std.proofs.Common.{◌≡◌, ◌++◌, drop}
use Rattle.json.specs.Print.{escape}
use Rattle.script_text.proofs.values.push_string.Given as goal

abbrev pub invariant-loop-byte : goal.invariant-loop-byte
invariant-loop-byte l = l.initial.out.items ++ escape l.text ≡ l.out.items ++ escape (drop l.byte-index l.text)
