use Rattle.std.proofs.Common.{Err, ap, sym, ◌∙◌}
use Rattle.meaning.proofs.world.World.add.Goals as goal

pub unreachable-requires : goal.unreachable-requires
unreachable-requires c =
    let thrown = (c.create.ensures.refused c.in-Err-Exc.field-0-0).0 (c.in-Err-Exc.is ∙ ap Err c.in-Err-Exc.field-0-is) in
    let no = sym c.requires.accepted ∙ thrown in cc
