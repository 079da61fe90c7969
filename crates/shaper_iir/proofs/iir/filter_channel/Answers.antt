use Rattle.std.proofs.Common.{rules, FitsSigned, pos, get_or}
use Rattle.std.specs.Int.{w32}
use Rattle.std.proofs.lemmas.Int.{to_z-of_z}
use Rattle.shaper_iir.proofs.Quiet.{next_quiet}
use Rattle.shaper_iir.proofs.iir.filter_channel.Goals as goal

pub loop-k-preserved : goal.loop-k-preserved
loop-k-preserved c =
    let x : FitsSigned w32 (get_or c.args.x.now c.loop-k.k (pos 0)) = search rules in
    let y : FitsSigned w32 c.hear-value.result = search rules in
    let history = simp (to_z-of_z _ _ x) at c.hear-value.ensures.history in
    let output = simp (to_z-of_z _ _ x) at c.hear-value.ensures.output in
    let before = simp (to_z-of_z _ _ x) at c.is_also_within-is_small.ensures in
    let later = simp (to_z-of_z _ _ y) at c.is_also_within-is_small-in-loop-k.ensures in
    record {
      heard = search rules;
      small = λ is.
          let now = later is in
          let then = before now.0 in
          next_quiet c.args.forward.now c.args.back.now c.loop-k.history c.hear-value.new.self _ c.hear-value.result c.args.scale.now.reach history output (c.loop-k.invariant.small then.0) then.1 now.1;
    }
