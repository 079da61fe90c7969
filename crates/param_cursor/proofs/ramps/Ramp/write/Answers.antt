use Rattle.std.proofs.Common.{rules, ◌+◌, arith, refl, FitsSigned}
use Rattle.std.specs.Int.{w32}
use Rattle.param_cursor.proofs.Draws.{line_fits}
use Rattle.param_cursor.proofs.ramps.Ramp.write.Goals as goal

pub returns-clause-fits : goal.returns-clause-fits
returns-clause-fits c m low =
    let ramp = c.args.self.now in
    let from : FitsSigned w32 ramp.from = search rules in
    let to : FitsSigned w32 ramp.to = search rules in
    line_fits ramp.from ramp.to _ (ramp.begun + m) ramp.parts from to c.requires.some (omega (arith, low, c.requires.within, c.draw_steps.auto.out)) refl
