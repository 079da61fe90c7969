use Rattle.meaning.proofs.Valid.{plain_valid, graph_nodes, target_there}
use Rattle.meaning.proofs.world.World.connect_refusal.Goals as goal

pub connect_refusal-requires-clause-to : goal.connect_refusal-requires-clause-to
connect_refusal-requires-clause-to c = rw (graph_nodes _ c.requires.valid) (target_there _ _ (plain_valid _ c.requires.valid) c.requires.to)
