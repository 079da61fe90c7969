use Rattle.std.proofs.Common.{◌++◌, List, subst}
use Rattle.std.proofs.lemmas.Result.{on_ok_weaker}
use Rattle.script_ast.specs.declared.operations.Op.{Op}
use Rattle.load_gen.specs.Generator.{Adds}
use Rattle.load_gen.specs.Voices.{ramp_ops, way_ops, time_ops}
use Rattle.load_gen.proofs.Listing.{adds_then}
use Rattle.load_gen.proofs.generator.add_voice.Goals as goal

pub returns : goal.returns
returns c =
    let v = c.args.voice.now in
    let old = c.args.calls.now in
    let ramp = subst (λ (ops : List Op). Adds 0 ops old c.add_all.new.calls) c.in_ok-ramp_ops.ensures c.in_ok-add_all.ensures in
    let way = subst (λ (ops : List Op). Adds 0 ops c.add_all.new.calls c.add_all-2.new.calls) c.in_ok-way_ops.ensures c.in_ok-add_all-2.ensures in
    let time = λ (last : Adds 0 c.in_ok-time_ops.field-0.items c.add_all-2.new.calls c.add_all-3.new.calls).
    subst (λ (ops : List Op). Adds 0 ops c.add_all-2.new.calls c.add_all-3.new.calls) c.in_ok-time_ops.ensures last in
    on_ok_weaker c.add_all-3.result
    (λ (last : Adds 0 c.in_ok-time_ops.field-0.items c.add_all-2.new.calls c.add_all-3.new.calls).
    adds_then 0 (ramp_ops v) (way_ops v ++ time_ops v) old c.add_all.new.calls c.add_all-3.new.calls ramp
    (adds_then 0 (way_ops v) (time_ops v) c.add_all.new.calls c.add_all-2.new.calls c.add_all-3.new.calls way (time last)))
    c.add_all-3.ensures
