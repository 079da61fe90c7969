use Rattle.std.proofs.Common.{arith}
use Rattle.worklet.proofs.checker.judge.Goals as goal

pub returns-then-height-pops-clause-error : goal.returns-then-height-pops-clause-error
returns-then-height-pops-clause-error c = λ heights before has. (
  c.requires.there,
  record {
    long = c.requires.long;
    there = omega arith;
    heights = heights;
    before = before;
    fault = (
      c.args.height,
      has,
      (
        record {
          cell = c.has_cell.ensures.0 c.if-not-has_cell.false;
          divisor = c.has_divisor.ensures.0 c.if-not-has_divisor.false;
          inside = c.stays_inside.ensures.0 c.if-not-stays_inside.false;
        },
        let pops_is = c.pops.ensures.value in omega (arith, pops_is),
      ),
    );
  },
)

pub returns-clause-fine : goal.returns-clause-fine
returns-clause-fine c = record {
  cell = c.has_cell.ensures.0 c.if-not-has_cell.false;
  divisor = c.has_divisor.ensures.0 c.if-not-has_divisor.false;
  inside = c.stays_inside.ensures.0 c.if-not-stays_inside.false;
  enough = let pops_is = c.pops.ensures.value in omega (arith, pops_is);
  low = let pops_is = c.pops-2.ensures.value in let pushes_is = c.pushes.ensures.value in omega (arith, pops_is, pushes_is);
}
