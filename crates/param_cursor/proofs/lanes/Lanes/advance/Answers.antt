use Rattle.std.proofs.Common.{rules, ◌≡◌, ◌+◌, ◌%◌, ◌^◌, pos, ◌+ℤ◌, ◌*ℤ◌, slice_index_or, FitsSigned, to_z, of_z, subst, arith}
use Rattle.std.specs.Int.{w32, int_wrap}
use Rattle.std.proofs.lemmas.Int.{ints, to_z-of_z, wrapping_add_is}
use Rattle.param_cursor.specs.Lanes.{IsPart}
use Rattle.param_cursor.proofs.Laning.{raised_is, parts_more}
use Rattle.param_cursor.proofs.lanes.Lanes.advance.Goals as goal

pub loop-i-preserved : goal.loop-i-preserved
loop-i-preserved c =
    let x : FitsSigned w32 c.raised.result.0 = search rules in
    let y : FitsSigned w32 c.raised.result.1 = search rules in
    let i = c.loop-i.i in
    let v = slice_index_or c.args.self.now.values i (pos 0) in
    let r = slice_index_or c.args.self.now.rests i (pos 0) in
    let w = c.args.self.now.whole in
    let value : FitsSigned w32 v = search rules in
    let rest : FitsSigned w32 r = search rules in
    let whole : FitsSigned w32 w = search rules in
    let part : FitsSigned w32 c.args.self.now.part = search rules in
    let divisor : FitsSigned w32 c.args.self.now.divisor = search rules in
    let a = to_z w32 ((of_z w32 w + 1) % 2 ^ 32) in
    let above : a ≡ int_wrap w32 (w +ℤ pos 1) = wrapping_add_is w32 w (pos 1) whole (record { sfits = omega arith }) in
    let below = simp (to_z-of_z _ _ value, to_z-of_z _ _ rest, to_z-of_z _ _ part, to_z-of_z _ _ divisor) at c.raised.ensures.below in
    let over = simp (to_z-of_z _ _ value, to_z-of_z _ _ rest, to_z-of_z _ _ part, to_z-of_z _ _ divisor) at c.raised.ensures.over in
    record {
      values = search rules;
      rests = search rules;
      so_far = λ start step d lanes.
          let own = raised_is v r w c.args.self.now.part a (start +ℤ step *ℤ pos i) (step *ℤ pos 8) c.raised.result.0 c.raised.result.1 c.args.self.now.divisor d (lanes.each i c.loop-i-test.true) lanes.all lanes.same above below over in
          let sum : start +ℤ step *ℤ pos i +ℤ step *ℤ pos 8 ≡ start +ℤ step *ℤ pos 8 +ℤ step *ℤ pos i = omega (arith, ints) in
          rw (to_z-of_z _ _ x) (rw (to_z-of_z _ _ y)
          (parts_more c.loop-i.values c.loop-i.rests (start +ℤ step *ℤ pos 8) step c.raised.result.0 c.raised.result.1 d i (c.loop-i.invariant.so_far start step d lanes) (omega (arith, c.loop-i.invariant.values, c.loop-i-test.true)) (omega (arith, c.loop-i.invariant.rests, c.loop-i-test.true))
          (subst (λ z. IsPart c.raised.result.0 c.raised.result.1 z d) sum own)));
    }
