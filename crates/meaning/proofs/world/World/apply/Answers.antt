use Rattle.meaning.proofs.Changing.{follows}
use Rattle.meaning.proofs.world.World.apply.Goals as goal

pub returns-clause-grows : goal.returns-clause-grows
returns-clause-grows c = follows c.args.self.now c.edit.new.self c.args.change.now c.edit.result c.requires.valid c.requires.accepted c.edit.ensures.ok c.edit.ensures.err
