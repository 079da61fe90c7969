use Rattle.std.proofs.Common.{◌<◌, length, ap, arith}
use Rattle.std.proofs.lemmas.List.{length-map}
use Rattle.slab.specs.Slab.{Slab}
use Rattle.conn_graph.specs.declared.cells.Cell.{Cell}
use Rattle.conn_graph.specs.declared.cells.Node.{Node}
use Rattle.conn_graph.specs.declared.cells.Side.TheVariants.{Out, In}
use Rattle.conn_graph.proofs.AllLists.{are_threads, lists_slots}
use Rattle.conn_graph.proofs.Nexts.{count_is}
use Rattle.conn_graph.proofs.Edits.{read_is, put_law}
use Rattle.conn_graph.proofs.lists.Lists.put.Goals as goal

pub invariant_of-self : goal.invariant_of-self
invariant_of-self c = lists_slots c.self.inside.nodes.items c.self.inside.cells c.insert.new.self (ap (λ (s : Slab Cell). s.slots) c.in_err-key.ensures.err) c.self.invariant

pub longer-requires : goal.longer-requires
longer-requires c =
    let from = rw (← c.self.view_is) at c.requires.from in
    let few = rw (← c.self.view_is) at c.requires.few_out in
    let low : c.args.edge.from.0 < length c.self.inside.nodes.items = let l = length-map c.self.inside.nodes.items (λ (n : Node). n.ports) in omega arith in
    let here = ap (λ (n : Node). n.out.count) (read_is c.self.inside.nodes.items c.args.edge.from.0 c.index.result.now low c.index.ensures) in
    let count = count_is c.self.inside.nodes.items c.self.inside.cells 0 c.self.invariant Out c.args.edge.from.0 low in
    omega (arith, few, here, count)

pub longer-requires-2 : goal.longer-requires-2
longer-requires-2 c =
    let to = rw (← c.self.view_is) at c.requires.to in
    let few = rw (← c.self.view_is, ← c.node-to.ensures) at c.requires.few_in in
    let is = c.node-to.ensures in
    let low : c.node-to.result.0 < length c.self.inside.nodes.items = let l = length-map c.self.inside.nodes.items (λ (n : Node). n.ports) in omega arith in
    let here = ap (λ (n : Node). n.into.count) (read_is c.self.inside.nodes.items c.node-to.result.0 c.index-2.result.now low c.index-2.ensures) in
    let count = count_is c.self.inside.nodes.items c.self.inside.cells 0 c.self.invariant In c.node-to.result.0 low in
    omega (arith, few, here, count)

pub invariant_of-self-2 : goal.invariant_of-self-2
invariant_of-self-2 c =
    let from = rw (← c.self.view_is) at c.requires.from in
    let to = rw (← c.self.view_is) at c.requires.to in
    let is = c.node-to.ensures in
    let length = length-map c.self.inside.nodes.items (λ (n : Node). n.ports) in
    (put_law c.self.inside.nodes.items c.self.inside.cells c.insert.new.self c.set_behind.new.cells c.set_behind-2.new.cells c.in_ok-key.key c.args.edge c.node-to.result.0 c.index.result.now c.index-2.result.now c.index_mut.result.now c.index_mut-2.result.now
    c.end.result c.end-2.result c.longer.result c.longer-2.result c.self.invariant (omega arith) (omega arith) is c.index.ensures c.index-2.ensures c.end.ensures c.end-2.ensures c.in_ok-key.ensures.was_vacant c.in_ok-key.ensures.updates c.in_ok-key.ensures.len
    c.set_behind.ensures.cells c.set_behind.ensures.held c.set_behind-2.ensures.cells c.set_behind-2.ensures.held c.longer.ensures c.longer-2.ensures c.index_mut.ensures.value c.index_mut-2.ensures.value).0

pub returns-clause-ok : goal.returns-clause-ok
returns-clause-ok c =
    let from = rw (← c.self.view_is) at c.requires.from in
    let to = rw (← c.self.view_is) at c.requires.to in
    let is = c.node-to.ensures in
    let length = length-map c.self.inside.nodes.items (λ (n : Node). n.ports) in (
      c.in_ok-key.key,
      rw (← c.self.view_is) ((put_law c.self.inside.nodes.items c.self.inside.cells c.insert.new.self c.set_behind.new.cells c.set_behind-2.new.cells c.in_ok-key.key c.args.edge c.node-to.result.0 c.index.result.now c.index-2.result.now c.index_mut.result.now c.index_mut-2.result.now
          c.end.result c.end-2.result c.longer.result c.longer-2.result c.self.invariant (omega arith) (omega arith) is c.index.ensures c.index-2.ensures c.end.ensures c.end-2.ensures c.in_ok-key.ensures.was_vacant c.in_ok-key.ensures.updates c.in_ok-key.ensures.len
          c.set_behind.ensures.cells c.set_behind.ensures.held c.set_behind-2.ensures.cells c.set_behind-2.ensures.held c.longer.ensures c.longer-2.ensures c.index_mut.ensures.value c.index_mut-2.ensures.value).1),
    )

pub returns-clause-nodes : goal.returns-clause-nodes
returns-clause-nodes c =
    let from = rw (← c.self.view_is) at c.requires.from in
    let to = rw (← c.self.view_is) at c.requires.to in
    let is = c.node-to.ensures in
    let length = length-map c.self.inside.nodes.items (λ (n : Node). n.ports) in
    rw (← c.self.view_is) ((put_law c.self.inside.nodes.items c.self.inside.cells c.insert.new.self c.set_behind.new.cells c.set_behind-2.new.cells c.in_ok-key.key c.args.edge c.node-to.result.0 c.index.result.now c.index-2.result.now c.index_mut.result.now c.index_mut-2.result.now
    c.end.result c.end-2.result c.longer.result c.longer-2.result c.self.invariant (omega arith) (omega arith) is c.index.ensures c.index-2.ensures c.end.ensures c.end-2.ensures c.in_ok-key.ensures.was_vacant c.in_ok-key.ensures.updates c.in_ok-key.ensures.len
    c.set_behind.ensures.cells c.set_behind.ensures.held c.set_behind-2.ensures.cells c.set_behind-2.ensures.held c.longer.ensures c.longer-2.ensures c.index_mut.ensures.value c.index_mut-2.ensures.value).2)

pub returns-clause-whole : goal.returns-clause-whole
returns-clause-whole c = are_threads _ c.set_behind-2.new.cells _ (invariant_of-self-2 c)
