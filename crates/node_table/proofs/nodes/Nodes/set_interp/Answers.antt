use Rattle.std.proofs.Common.{◌≡◌, None, slice_set, sym, ◌∙◌}
use Rattle.node_table.specs.Nodes.{with_interp, interp_refusal, changed_at, refusal_at}
use Rattle.node_table.proofs.Setting.{set_is_changed, table_changed, keeps_interp}
use Rattle.node_table.proofs.nodes.Nodes.set_interp.Goals as goal

changed : (c : goal.After-self-1) → slice_set c.self.inside.nodes.items c.args.node.0 (with_interp c.args.interp c.index_mut.result.now) ≡ changed_at c.args.node.0 (with_interp c.args.interp) c.self.inside.nodes.items
changed c = set_is_changed c.args.node.0 (with_interp c.args.interp) c.self.inside.nodes.items c.index_mut.result.now c.index_mut.ensures.value

pub invariant_of-self : goal.invariant_of-self
invariant_of-self c =
    let free : refusal_at c.args.self.now c.args.node.0 (interp_refusal c.args.interp) ≡ None = sym c.interp_refusal.ensures ∙ c.in_default.is in
    table_changed (interp_refusal c.args.interp) (with_interp c.args.interp) (keeps_interp c.args.interp) c.args.node.0 c.self.inside.nodes.items _ c.self.inside.delay_frames (changed c) (rw (← c.self.view_is) at free) c.self.invariant

pub returns-clause-ok : goal.returns-clause-ok
returns-clause-ok c = rw (← c.self.view_is) (changed c)
