use Rattle.std.proofs.Common.{◌≡◌, [], ◌∷◌, length, List, ap, subst, sym, pos, arith}
use Rattle.script_ast.specs.WellFormed.{IsWellFormed}
use Rattle.script_ast.specs.declared.call_list.Call.{Call}
use Rattle.script_ast.specs.declared.call_list.Script.{Script}
use Rattle.script_ast.specs.declared.operations.Op.TheVariants.{Suspend}
use Rattle.load_gen.specs.Generator.{Adds, muting_ops, calls, context}
use Rattle.load_gen.specs.Voices.{ops_of_voices}
use Rattle.load_gen.proofs.Listing.{adds_length, muting_length, calls_are}
use Rattle.load_gen.proofs.Drawing.{voices_length}
use Rattle.load_gen.proofs.InRange.{well_formed}
use Rattle.load_gen.proofs.generator.script.Goals as goal

pub add-requires : goal.add-requires
add-requires c =
    let long = adds_length 0 (ops_of_voices c.args.number 200) c.new-calls.result c.add_voices.new.calls c.in_ok-add_voices.ensures in
    omega (arith, long, voices_length c.args.number 200, ap length c.new-calls.ensures)

pub add_muting-requires : goal.add_muting-requires
add_muting-requires c =
    let long = adds_length 0 (ops_of_voices c.args.number 200) c.new-calls.result c.add_voices.new.calls c.in_ok-add_voices.ensures in
    let more = adds_length 0 (Suspend (pos 240000) ∷ []) c.add_voices.new.calls c.add.new.calls c.in_ok-suspension.ensures.calls in
    omega (arith, long, more, voices_length c.args.number 200, ap length c.new-calls.ensures)

pub add-requires-2 : goal.add-requires-2
add-requires-2 c =
    let voices = adds_length 0 (ops_of_voices c.args.number 200) c.new-calls.result c.add_voices.new.calls c.in_ok-add_voices.ensures in
    let more = adds_length 0 (Suspend (pos 240000) ∷ []) c.add_voices.new.calls c.add.new.calls c.in_ok-suspension.ensures.calls in
    let long = adds_length c.in_ok-suspension.suspension (muting_ops 40) c.add.new.calls c.add_muting.new.calls c.in_ok-add_muting.ensures in
    omega (arith, voices, more, long, muting_length 40, voices_length c.args.number 200, ap length c.new-calls.ensures)

pub returns-clause-script : goal.returns-clause-script
returns-clause-script c =
    let voices = subst (λ (cs : List Call). Adds 0 (ops_of_voices c.args.number 200) cs c.add_voices.new.calls) c.new-calls.ensures c.in_ok-add_voices.ensures in
    let all : c.add-3.new.calls ≡ calls c.args.number = calls_are c.args.number c.in_ok-suspension.suspension c.add_voices.new.calls c.add.new.calls c.add_muting.new.calls c.add-2.new.calls c.add-3.new.calls
    voices c.in_ok-suspension.ensures.calls c.in_ok-suspension.ensures.ordinal c.in_ok-add_muting.ensures c.in_ok-add.ensures.calls c.in_ok-add-2.ensures.calls in
    ap (λ (cs : List Call). let s : Script = record { context = context; calls = cs } in s) all

pub returns-clause-well_formed : goal.returns-clause-well_formed
returns-clause-well_formed c = subst IsWellFormed (sym (returns-clause-script c)) (well_formed c.args.number)
