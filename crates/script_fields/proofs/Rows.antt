-- Texts of seconds, and of instructions, that are written out.
use Rattle.std.specs.Prelude.{◌≡◌, List, [], ◌∷◌, map, codes, Some, None, pos, neg_ℤ, refl}
use Rattle.serde_json.specs.Data.{string, number, unsigned, array, no_items, item}
use Rattle.node_table.specs.declared.code.Instr.TheVariants.{Input, Push, Load, Add, Skipz, Discard}
use Rattle.script_ast.specs.declared.clocks.Clock.TheVariants.{Frames, Seconds}
use Rattle.script_ast.specs.declared.entries.Kind.TheVariants as kind
use Rattle.script_fields.specs.Instructions.{plain_instr_of, instr_of, code_of}
use Rattle.script_fields.specs.Seconds.{frames_of_seconds}
use Rattle.script_fields.specs.Values.{cause_of}
use Rattle.script_fields.specs.declared.values.Cause.TheVariants.{WrongKind, OutOfRange}

-- half a second at 8,001 frames a second is nearer to neither frame: a half goes up
halves : map (frames_of_seconds 8001) (codes "0.5" ∷ codes "-0.5" ∷ []) ≡ Some (pos 4001) ∷ Some (neg_ℤ (pos 4000)) ∷ []
unfolding frames_of_seconds
halves = refl

-- the last frame of the kind, and one past it
last_frame : map (cause_of (Seconds 8000) kind.Time) (string (codes "137438953.472") ∷ string (codes "137438953.473") ∷ number (unsigned 1) ∷ []) ≡ None ∷ Some OutOfRange ∷ Some WrongKind ∷ []
unfolding frames_of_seconds
last_frame = refl

last_value : map (frames_of_seconds 8000) (codes "137438953.472" ∷ codes "007" ∷ codes "-0" ∷ codes "9999999999.999999999" ∷ []) ≡ Some (pos 1099511627776) ∷ Some (pos 56000) ∷ Some (pos 0) ∷ Some (pos 80000000000000) ∷ []
unfolding frames_of_seconds
last_value = refl

-- what is no text of seconds
no_seconds : map (frames_of_seconds 8000) (codes "1e3" ∷ codes " 1" ∷ codes "1." ∷ codes ".5" ∷ codes "+1" ∷ codes "" ∷ codes "-" ∷ codes "12345678901" ∷ codes "0.1234567890" ∷ codes "1.2.3" ∷ codes "--1" ∷ codes "1.-5" ∷ [])
    ≡ None ∷ None ∷ None ∷ None ∷ None ∷ None ∷ None ∷ None ∷ None ∷ None ∷ None ∷ None ∷ []
unfolding frames_of_seconds
no_seconds = refl

-- instructions; leading zeros are accepted
instructions : map instr_of (codes "in" ∷ codes "push -0" ∷ codes "push -007" ∷ codes "load 015" ∷ codes "drop" ∷ codes "skipz 2147483648" ∷ [])
    ≡ Some Input ∷ Some (Push (pos 0)) ∷ Some (Push (neg_ℤ (pos 7))) ∷ Some (Load 15) ∷ Some Discard ∷ Some (Skipz 2147483648) ∷ []
unfolding instr_of plain_instr_of
instructions = refl

no_instructions : map instr_of (codes "load -0" ∷ codes "push +1" ∷ codes "push" ∷ codes "push " ∷ codes "push  1" ∷ codes "in 1" ∷ codes "in " ∷ codes "Add" ∷ codes "" ∷ codes "load 1 " ∷ [])
    ≡ None ∷ None ∷ None ∷ None ∷ None ∷ None ∷ None ∷ None ∷ None ∷ None ∷ []
unfolding instr_of plain_instr_of
no_instructions = refl

-- an item that is no instruction comes before a number that is out of range
codes_of : map (cause_of Frames kind.Code) (array no_items ∷ array (item (string (codes "add")) no_items) ∷ array (item (string (codes "push 2147483648")) no_items)
    ∷ array (item (string (codes "load 2147483648")) (item (number (unsigned 1)) no_items)) ∷ string (codes "add") ∷ [])
    ≡ None ∷ None ∷ Some OutOfRange ∷ Some WrongKind ∷ Some WrongKind ∷ []
unfolding instr_of plain_instr_of
codes_of = refl

program : code_of (item (string (codes "in")) (item (string (codes "push 5")) (item (string (codes "add")) no_items))) ≡ Input ∷ Push (pos 5) ∷ Add ∷ []
unfolding code_of instr_of plain_instr_of
program = refl
