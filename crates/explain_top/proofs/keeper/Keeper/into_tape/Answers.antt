use Rattle.std.proofs.Common.{length, List, Some, ◌∙◌, ap, arith}
use Rattle.derivations.specs.declared.tape.Piece.{Piece}
use Rattle.derivations.specs.Tapes.{worlds}
use Rattle.explain_top.proofs.Keeping.{kept_with, length-worlds_more}
use Rattle.explain_top.proofs.keeper.Keeper.into_tape.Goals as goal

pub push-requires : goal.push-requires
push-requires c =
    let kept = kept_with c.self.inside.tape c.self.inside.last (Some c.in-Some.piece) c.args.self c.self.view_is c.in-Some.is in
    let all = ap (λ (ps : List Piece). length (worlds ps)) kept ∙ length-worlds_more c.self.inside.tape c.in-Some.piece in
    let few = c.requires in
    omega (arith, all, few)
