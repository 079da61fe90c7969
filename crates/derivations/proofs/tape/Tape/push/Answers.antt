use Rattle.std.proofs.Common.{◌+◌, length, List, refl, sym, ap, subst, arith}
use Rattle.derivations.specs.Tapes.{worlds}
use Rattle.derivations.specs.declared.tape.Piece.{Piece}
use Rattle.derivations.specs.declared.tape.Stretch.{Stretch}
use Rattle.derivations.specs.Stretches.{AreStretches}
use Rattle.derivations.proofs.Stretching.{quanta_are, AreStretches-more}
use Rattle.derivations.proofs.tape.Tape.push.Goals as goal

pub invariant_of-self-2 : goal.invariant_of-self-2
invariant_of-self-2 c =
    let ss : List Stretch = c.self.inside.stretches.items in
    let all = quanta_are 0 ss c.self.inside.quanta c.self.invariant.0 in
    let view = ap (λ (ps : List Piece). length (worlds ps)) c.self.view_is in
    let s : Stretch = record { piece = c.args.piece; end = c.self.inside.quanta + c.args.piece.quanta; marks = c.in_ok-marks.marks } in (
      subst (λ (xs : List Stretch). AreStretches 0 xs s.end) (sym c.in_ok-push.ensures.items) (AreStretches-more 0 ss c.self.inside.quanta s c.self.invariant.0 refl c.in_ok-marks.ensures),
      (let few = c.requires in omega (arith, all, view, few)),
    )
