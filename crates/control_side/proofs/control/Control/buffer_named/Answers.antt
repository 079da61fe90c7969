use Rattle.name_book.specs.declared.book.Object.TheVariants.{Buffer}
use Rattle.control_side.proofs.Named.{named_there}
use Rattle.control_side.proofs.control.Control.buffer_named.Goals as goal

pub returns-in-Some-Buffer-clause-there : goal.returns-in-Some-Buffer-clause-there
returns-in-Some-Buffer-clause-there c =
    let a = c.find.ensures.object in
    let b = c.in-Some-Buffer.is in
    rw (← c.self.view_is) (named_there c.self.inside.book.bindings c.args.name.now c.self.inside.world (Buffer c.in-Some-Buffer.buffer) c.self.invariant.0.valid.nodes.some c.self.invariant.0.bound cc)
