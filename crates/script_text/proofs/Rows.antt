-- Worked texts.
use Rattle.std.specs.Prelude.{true, ◌∷◌, ◌≡◌, codes, None, pos, refl, [], neg_ℤ}
use Rattle.std.specs.Fmt.{digits}
use Rattle.json.specs.Print.{escape_byte}
use Rattle.node_table.specs.declared.code.Instr.TheVariants as instr
use Rattle.node_table.specs.declared.equation.Equation.TheVariants.{Filter}
use Rattle.node_table.specs.declared.kinds.Kind.TheVariants as node
use Rattle.script_ast.specs.declared.operations.Op.TheVariants as op
use Rattle.script_text.specs.Seconds.{time_text, last_digits}
use Rattle.script_text.specs.Text.{data_of, held_calls, script_text, call_data}
use Rattle.serde_json.specs.Data.{no_items}
use Rattle.serde_json.specs.Written.{compact_text}

-- a script without a call
empty : script_text (record { context = record { channels = 1; length = 128; rate = 48000; quantum = 128 }; calls = [] })
    ≡ codes "{\"calls\":[],\"context\":{\"channels\":1,\"length\":128,\"rate\":48000,\"renderQuantum\":128},\"version\":2}"
unfolding script_text data_of held_calls digits escape_byte
empty = refl

started : compact_text (call_data 48000 no_items (op.Start (codes "c") (pos 0) (pos 0) None)) ≡ codes "{\"duration\":null,\"node\":\"c\",\"offset\":\"0.000000000\",\"op\":\"start\",\"when\":\"0.000000000\"}"
unfolding digits escape_byte time_text last_digits
started = refl

stopped : compact_text (call_data 48000 no_items (op.Stop (codes "c") (pos 129))) ≡ codes "{\"node\":\"c\",\"op\":\"stop\",\"when\":\"0.002687500\"}"
unfolding digits escape_byte time_text last_digits
stopped = refl

-- half a second before the start, at 8001 frames a second
early : time_text 8001 (neg_ℤ (pos 4000)) ≡ codes "-0.499937508"
unfolding digits time_text last_digits
early = refl

-- a call in the list of another one, and one after it
held : script_text (record {
  context = record { channels = 2; length = 256; rate = 8000; quantum = 128 };
  calls = record { ordinal = 1; holder = 0; op = op.Suspend (pos 4000) } ∷ record { ordinal = 2; holder = 1; op = op.Resume } ∷ record { ordinal = 3; holder = 0; op = op.StartRendering } ∷ [];
})
    ≡ codes "{\"calls\":[{\"op\":\"suspend\",\"then\":[{\"op\":\"resume\"}],\"time\":\"0.500000000\"},{\"op\":\"startRendering\"}],\"context\":{\"channels\":2,\"length\":256,\"rate\":8000,\"renderQuantum\":128},\"version\":2}"
unfolding script_text data_of held_calls digits escape_byte time_text last_digits
held = refl

-- a name that has to be escaped
escaped : compact_text (call_data 48000 no_items (op.SetLoop (codes "a\"\n") true)) ≡ codes "{\"node\":\"a\\\"\\n\",\"op\":\"setLoop\",\"value\":true}"
unfolding digits escape_byte
escaped = refl

-- a processor
programmed : compact_text (call_data 48000 no_items (op.CreateProcessor (codes "p") (instr.Input ∷ instr.Push (neg_ℤ (pos 8388608)) ∷ instr.Mul ∷ [])))
    ≡ codes "{\"as\":\"p\",\"code\":[\"in\",\"push -8388608\",\"mul\"],\"op\":\"createProcessor\"}"
unfolding digits escape_byte
programmed = refl

-- a filter, whose fields stand in the order of their names
filtered : compact_text (call_data 48000 no_items (op.Create (codes "f") (node.Causal (Filter (pos 1 ∷ neg_ℤ (pos 2) ∷ []) (pos 3 ∷ [])))))
    ≡ codes "{\"as\":\"f\",\"feedback\":[3],\"feedforward\":[1,-2],\"op\":\"createIIRFilter\"}"
unfolding digits escape_byte
filtered = refl
