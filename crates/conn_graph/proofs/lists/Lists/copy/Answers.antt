use Rattle.std.proofs.Common.{◌≡◌, ◌-◌, None, slice_index_or, rules, ap₂}
use Rattle.std.specs.Vec.{vec_capacity, vec_len}
use Rattle.conn_graph.specs.Lists.{threads_of}
use Rattle.conn_graph.proofs.AllLists.{are_threads, lists_slots, same_clones}
use Rattle.conn_graph.proofs.lists.Lists.copy.Goals as goal

pub invariant_of-result : goal.invariant_of-result
invariant_of-result c =
    let nodes : c.in_ok-from_slice.field-0.items ≡ c.self.inside.nodes.items = search rules in
    let slots : c.in_ok-clone.field-0.slots ≡ c.self.inside.cells.slots = same_clones _ (λ a b r. r) _ _ c.in_ok-clone.ensures.cases.slots in
    rw nodes (lists_slots c.self.inside.nodes.items c.self.inside.cells c.in_ok-clone.field-0 slots c.self.invariant)

pub returns-clause-same : goal.returns-clause-same
returns-clause-same c =
    let nodes : c.in_ok-from_slice.field-0.items ≡ c.self.inside.nodes.items = search rules in
    let slots : c.in_ok-clone.field-0.slots ≡ c.self.inside.cells.slots = same_clones _ (λ a b r. r) _ _ c.in_ok-clone.ensures.cases.slots in
    rw (← c.self.view_is) (ap₂ (λ ns xs. threads_of ns (λ key. slice_index_or xs key None) (vec_capacity c.in_ok-from_slice.field-0 - vec_len c.in_ok-from_slice.field-0)) nodes slots)

pub returns-clause-whole : goal.returns-clause-whole
returns-clause-whole c = are_threads _ c.in_ok-clone.field-0 _ (invariant_of-result c)
