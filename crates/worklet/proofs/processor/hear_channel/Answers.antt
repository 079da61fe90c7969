use Rattle.std.proofs.Common.{rules, ℤ, pos, get_or, List, Some, FitsSigned, ap, sym, ◌∙◌, arith, to_z, of_z}
use Rattle.std.specs.Int.{w32}
use Rattle.std.proofs.lemmas.Int.{to_z-of_z}
use Rattle.node_table.specs.Machine.{Frame}
use Rattle.worklet.proofs.Hearing.{hearing_more}
use Rattle.worklet.proofs.processor.hear_channel.Goals as goal

abbrev frame : ℤ → List ℤ → Frame
frame output cells = record { output = output; cells = cells }

pub loop-k-preserved : goal.loop-k-preserved
loop-k-preserved c =
    let x : FitsSigned w32 (get_or c.args.x.now c.loop-k.k (pos 0)) = search rules in
    let y : FitsSigned w32 c.frame.result = search rules in
    let is = simp (to_z-of_z _ _ x) at c.frame.ensures in
    let value = to_z w32 (of_z w32 c.frame.result) in
    hearing_more c.args.program.now c.args.cells.now c.loop-k.cells c.frame.new.cells c.args.x.now c.loop-k.y c.loop-k.k value (omega arith) c.loop-k.invariant
    (is ∙ ap (λ (v : ℤ). Some (frame v c.frame.new.cells)) (sym (to_z-of_z _ _ y)))
