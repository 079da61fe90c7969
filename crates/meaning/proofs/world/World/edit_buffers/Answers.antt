use Rattle.std.proofs.Common.{sym, ◌∙◌}
use Rattle.meaning.proofs.world.World.edit_buffers.Goals as goal

pub made-requires : goal.made-requires
made-requires c =
    let accepted = rw (c.in-Create.is) at c.requires.accepted in
    record { accepted = λ exc refused. let no = sym accepted ∙ (c.create.ensures.refused exc).0 refused in cc }

pub made-requires-in-Adopt : goal.made-requires-in-Adopt
made-requires-in-Adopt c =
    let accepted = rw (c.in-Adopt.is) at c.requires.accepted in
    record { accepted = λ exc refused. let no = sym accepted ∙ (c.adopt.ensures.refused exc).0 refused in cc }

pub made-requires-in-Write : goal.made-requires-in-Write
made-requires-in-Write c =
    let accepted = rw (c.in-Write.is) at c.requires.accepted in
    record { accepted = λ exc refused. let no = sym accepted ∙ (c.write_channel.ensures.refused exc).0 refused in cc }
