use Rattle.std.proofs.Common.{length, ap, arith}
use Rattle.derivations.specs.Tapes.{worlds}
use Rattle.derivations.proofs.Stretching.{quanta_are}
use Rattle.derivations.proofs.tape.Tape.quanta.Goals as goal

pub returns-clause-number : goal.returns-clause-number
returns-clause-number c =
    let all = quanta_are 0 c.self.inside.stretches.items c.self.inside.quanta c.self.invariant.0 in
    let view = ap (λ ps. length (worlds ps)) c.self.view_is in
    omega (arith, all, view)
