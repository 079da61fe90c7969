use Rattle.std.proofs.Common.{ℕ, arith, length-drop}
use Rattle.std.proofs.lemmas.List.{take_rest}
use Rattle.io_edge.proofs.Pieces.{more_appended}
use Rattle.io_edge.proofs.whole.write_all.Goals as goal

pub loop-at-preserved : goal.loop-at-preserved
loop-at-preserved g c =
    let rest = take_rest c.args.text.now c.loop-at.at in
    let within = rw rest at c.in_ok-at.ensures.within in
    record {
      later = omega (arith, c.write.ensures.later);
      within = omega (arith, within, length-drop {A = ℕ} c.loop-at.at c.args.text.now);
      written = more_appended _ _ _ c.args.text.now c.loop-at.at c.in_ok-at.field-0 c.loop-at.invariant.written (rw rest at c.in_ok-at.ensures.bytes);
    }
