use Rattle.meaning.proofs.Buffering.{frames_small}
use Rattle.meaning.proofs.world.World.frames_of.Goals as goal

pub returns-in-Some-clause-small : goal.returns-in-Some-clause-small
returns-in-Some-clause-small c = frames_small c.args.self.now.store c.in-Some.buffer.0 c.shape.result c.requires.valid.store c.shape.ensures.value
