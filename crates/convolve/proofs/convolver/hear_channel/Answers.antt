use Rattle.std.proofs.Common.{rules, pos, get_or, FitsSigned, ◌∙◌, arith}
use Rattle.std.specs.Int.{w32}
use Rattle.std.proofs.lemmas.Int.{to_z-of_z}
use Rattle.convolve.proofs.Hearing.{hearing_more}
use Rattle.convolve.proofs.convolver.hear_channel.Goals as goal

pub loop-k-preserved : goal.loop-k-preserved
loop-k-preserved c =
    let x : FitsSigned w32 (get_or c.args.x.now c.loop-k.k (pos 0)) = search rules in
    let y : FitsSigned w32 c.hear.result = search rules in
    let kept = simp (to_z-of_z _ _ x) at c.hear.ensures.kept in
    hearing_more c.args.response.now c.args.line.now c.loop-k.line c.hear.new.self c.args.x.now c.loop-k.y c.loop-k.k _ (omega arith) c.requires.line c.loop-k.invariant kept
    (to_z-of_z _ _ y ∙ c.hear.ensures.output)
