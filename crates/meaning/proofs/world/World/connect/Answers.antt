use Rattle.std.proofs.Common.{Err, ap, sym, ◌∙◌}
use Rattle.meaning.proofs.Valid.{plain_valid, graph_nodes, target_there}
use Rattle.meaning.proofs.world.World.connect.Goals as goal

pub connect-requires-clause-to : goal.connect-requires-clause-to
connect-requires-clause-to c = rw (graph_nodes _ c.requires.valid) (target_there _ _ (plain_valid _ c.requires.valid) c.requires.to)

pub unreachable-requires : goal.unreachable-requires
unreachable-requires c =
    let thrown = (c.connect.ensures.refused c.in-Err-Exc.field-0-0).0 (c.in-Err-Exc.is ∙ ap Err c.in-Err-Exc.field-0-is) in
    let no = sym c.requires.accepted ∙ thrown in cc
