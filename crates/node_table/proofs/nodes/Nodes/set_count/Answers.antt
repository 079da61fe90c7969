use Rattle.std.proofs.Common.{◌≡◌, None, slice_set, sym, ◌∙◌}
use Rattle.node_table.specs.Nodes.{with_count, count_refusal, changed_at, refusal_at}
use Rattle.node_table.proofs.Setting.{set_is_changed, table_changed, keeps_count}
use Rattle.node_table.proofs.nodes.Nodes.set_count.Goals as goal

changed : (c : goal.After-self-1) → slice_set c.self.inside.nodes.items c.args.node.0 (with_count c.args.count c.index_mut.result.now) ≡ changed_at c.args.node.0 (with_count c.args.count) c.self.inside.nodes.items
changed c = set_is_changed c.args.node.0 (with_count c.args.count) c.self.inside.nodes.items c.index_mut.result.now c.index_mut.ensures.value

pub invariant_of-self : goal.invariant_of-self
invariant_of-self c =
    let free : refusal_at c.args.self.now c.args.node.0 (count_refusal c.args.count) ≡ None = sym c.count_refusal.ensures ∙ c.in_default.is in
    table_changed (count_refusal c.args.count) (with_count c.args.count) (keeps_count c.args.count) c.args.node.0 c.self.inside.nodes.items _ c.self.inside.delay_frames (changed c) (rw (← c.self.view_is) at free) c.self.invariant

pub returns-clause-ok : goal.returns-clause-ok
returns-clause-ok c = rw (← c.self.view_is) (changed c)
