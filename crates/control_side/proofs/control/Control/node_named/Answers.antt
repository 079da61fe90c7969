use Rattle.name_book.specs.declared.book.Object.TheVariants.{Node}
use Rattle.control_side.proofs.Named.{named_there}
use Rattle.control_side.proofs.control.Control.node_named.Goals as goal

pub returns-in-Some-Node-clause-there : goal.returns-in-Some-Node-clause-there
returns-in-Some-Node-clause-there c =
    let a = c.find.ensures.object in
    let b = c.in-Some-Node.is in
    rw (← c.self.view_is) (named_there c.self.inside.book.bindings c.args.name.now c.self.inside.world (Node c.in-Some-Node.node) c.self.invariant.0.valid.nodes.some c.self.invariant.0.bound cc)
