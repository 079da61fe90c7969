use Rattle.std.proofs.Common.{◌≡◌, length, Some, None, option_map, rules, sym, ◌∙◌, ap, arith}
use Rattle.std.specs.Vec.{vec_len}
use Rattle.slab.specs.Slab.{Slab, get}
use Rattle.conn_graph.specs.declared.cells.Cell.{Cell}
use Rattle.conn_graph.proofs.Segments.{split_at}
use Rattle.conn_graph.proofs.AllLists.{are_threads, lists_slots}
use Rattle.conn_graph.proofs.Edits.{cell_there, some_out, some_into, take_law, same_edge_there}
use Rattle.conn_graph.proofs.lists.Lists.take.Goals as goal

pub returns-in_default-clause-taken : goal.returns-in_default-clause-taken
returns-in_default-clause-taken c front back e split =
    let here = rw (← c.self.view_is) at split in
    let edge = same_edge_there c.self.inside.nodes.items c.self.inside.cells c.args.key e front back e.from.0 c.self.invariant here in
    let none : get c.self.inside.cells c.args.key ≡ None = sym c.try_remove.ensures.value ∙ c.in_default.is in
    let both : None ≡ Some e = sym (ap (option_map (λ (x : Cell). x.edge)) none) ∙ edge in
    absurd cc

pub returns-in_default-clause-whole : goal.returns-in_default-clause-whole
returns-in_default-clause-whole c =
    are_threads c.self.inside.nodes.items c.try_remove.new.self _ (lists_slots c.self.inside.nodes.items c.self.inside.cells c.try_remove.new.self (ap (λ (s : Slab Cell). s.slots) c.in_default.ensures.absent) c.self.invariant)

pub index-requires : goal.index-requires
index-requires c =
    let there : get c.self.inside.cells c.args.key ≡ Some c.in-Some.cell = sym c.try_remove.ensures.value ∙ c.in-Some.is in
    let low = (cell_there c.self.inside.nodes.items c.self.inside.cells c.args.key c.in-Some.cell c.self.invariant there).0 in
    let same : vec_len c.self.inside.nodes ≡ length c.self.inside.nodes.items = search rules in
    omega (arith, low, same)

pub index_mut-requires : goal.index_mut-requires
index_mut-requires c =
    let there : get c.self.inside.cells c.args.key ≡ Some c.in-Some.cell = sym c.try_remove.ensures.value ∙ c.in-Some.is in
    let low = (cell_there c.self.inside.nodes.items c.self.inside.cells c.args.key c.in-Some.cell c.self.invariant there).0 in
    let same : vec_len c.self.inside.nodes ≡ length c.self.inside.nodes.items = search rules in
    omega (arith, low, same)

pub index-requires-2 : goal.index-requires-2
index-requires-2 c =
    let there : get c.self.inside.cells c.args.key ≡ Some c.in-Some.cell = sym c.try_remove.ensures.value ∙ c.in-Some.is in
    let low = (cell_there c.self.inside.nodes.items c.self.inside.cells c.args.key c.in-Some.cell c.self.invariant there).1 in
    let same : vec_len c.self.inside.nodes ≡ length c.self.inside.nodes.items = search rules in
    let to = c.node-to.ensures in
    omega (arith, low, same, to)

pub index_mut-requires-2 : goal.index_mut-requires-2
index_mut-requires-2 c =
    let there : get c.self.inside.cells c.args.key ≡ Some c.in-Some.cell = sym c.try_remove.ensures.value ∙ c.in-Some.is in
    let low = (cell_there c.self.inside.nodes.items c.self.inside.cells c.args.key c.in-Some.cell c.self.invariant there).1 in
    let same : vec_len c.self.inside.nodes ≡ length c.self.inside.nodes.items = search rules in
    let to = c.node-to.ensures in
    omega (arith, low, same, to)

pub shorter-out-requires : goal.shorter-out-requires
shorter-out-requires c =
    let there : get c.self.inside.cells c.args.key ≡ Some c.in-Some.cell = sym c.try_remove.ensures.value ∙ c.in-Some.is in
    some_out c.self.inside.nodes.items c.self.inside.cells c.args.key c.in-Some.cell c.index.result.now c.self.invariant there c.index.ensures

pub shorter-into-requires : goal.shorter-into-requires
shorter-into-requires c =
    let there : get c.self.inside.cells c.args.key ≡ Some c.in-Some.cell = sym c.try_remove.ensures.value ∙ c.in-Some.is in
    some_into c.self.inside.nodes.items c.self.inside.cells c.args.key c.in-Some.cell c.node-to.result.0 c.index-2.result.now c.self.invariant there c.node-to.ensures c.index-2.ensures

pub invariant_of-self-2 : goal.invariant_of-self-2
invariant_of-self-2 c =
    let there : get c.self.inside.cells c.args.key ≡ Some c.in-Some.cell = sym c.try_remove.ensures.value ∙ c.in-Some.is in
    let split = split_at _ (c.args.key, c.in-Some.cell.edge) (cell_there c.self.inside.nodes.items c.self.inside.cells c.args.key c.in-Some.cell c.self.invariant there).2 in
    (take_law c.self.inside.nodes.items c.self.inside.cells c.try_remove.new.self c.relink.new.cells c.relink-2.new.cells c.args.key c.in-Some.cell c.node-to.result.0 c.index.result.now c.index-2.result.now c.index_mut.result.now c.index_mut-2.result.now
    c.shorter-out.result c.shorter-into.result c.self.invariant c.node-to.ensures there c.try_remove.ensures.updates c.in-Some.ensures.len c.relink.ensures.cells c.relink.ensures.held c.relink-2.ensures.cells c.relink-2.ensures.held
    c.index.ensures c.index-2.ensures c.shorter-out.ensures c.shorter-into.ensures c.index_mut.ensures.value c.index_mut-2.ensures.value split.0 split.1 split.2).0

pub returns-clause-taken : goal.returns-clause-taken
returns-clause-taken c front back e split =
    let there : get c.self.inside.cells c.args.key ≡ Some c.in-Some.cell = sym c.try_remove.ensures.value ∙ c.in-Some.is in
    let here = rw (← c.self.view_is) at split in
    let edge = same_edge_there c.self.inside.nodes.items c.self.inside.cells c.args.key e front back e.from.0 c.self.invariant here in
    let both : Some c.in-Some.cell.edge ≡ Some e = sym (ap (option_map (λ (x : Cell). x.edge)) there) ∙ edge in
    let same : c.in-Some.cell.edge ≡ e = cc in
    let split' = rw (← same) at here in
    rw (← c.self.view_is, ← same) ((take_law c.self.inside.nodes.items c.self.inside.cells c.try_remove.new.self c.relink.new.cells c.relink-2.new.cells c.args.key c.in-Some.cell c.node-to.result.0 c.index.result.now c.index-2.result.now c.index_mut.result.now c.index_mut-2.result.now
    c.shorter-out.result c.shorter-into.result c.self.invariant c.node-to.ensures there c.try_remove.ensures.updates c.in-Some.ensures.len c.relink.ensures.cells c.relink.ensures.held c.relink-2.ensures.cells c.relink-2.ensures.held
    c.index.ensures c.index-2.ensures c.shorter-out.ensures c.shorter-into.ensures c.index_mut.ensures.value c.index_mut-2.ensures.value front back split').1)

pub returns-clause-nodes : goal.returns-clause-nodes
returns-clause-nodes c =
    let there : get c.self.inside.cells c.args.key ≡ Some c.in-Some.cell = sym c.try_remove.ensures.value ∙ c.in-Some.is in
    let split = split_at _ (c.args.key, c.in-Some.cell.edge) (cell_there c.self.inside.nodes.items c.self.inside.cells c.args.key c.in-Some.cell c.self.invariant there).2 in
    rw (← c.self.view_is) ((take_law c.self.inside.nodes.items c.self.inside.cells c.try_remove.new.self c.relink.new.cells c.relink-2.new.cells c.args.key c.in-Some.cell c.node-to.result.0 c.index.result.now c.index-2.result.now c.index_mut.result.now c.index_mut-2.result.now
    c.shorter-out.result c.shorter-into.result c.self.invariant c.node-to.ensures there c.try_remove.ensures.updates c.in-Some.ensures.len c.relink.ensures.cells c.relink.ensures.held c.relink-2.ensures.cells c.relink-2.ensures.held
    c.index.ensures c.index-2.ensures c.shorter-out.ensures c.shorter-into.ensures c.index_mut.ensures.value c.index_mut-2.ensures.value split.0 split.1 split.2).2)

pub returns-clause-whole : goal.returns-clause-whole
returns-clause-whole c = are_threads _ c.relink-2.new.cells _ (invariant_of-self-2 c)
