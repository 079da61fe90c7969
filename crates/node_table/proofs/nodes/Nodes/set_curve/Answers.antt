use Rattle.std.proofs.Common.{◌≡◌, None, slice_set, sym, ◌∙◌, ap}
use Rattle.node_table.specs.Nodes.{node_with_curve, curve_refusal, changed_at, refusal_at}
use Rattle.node_table.specs.declared.nodes.Node.{Node}
use Rattle.node_table.proofs.Setting.{set_is_changed, table_changed}
use Rattle.node_table.proofs.Shaping.{keeps_curve}
use Rattle.node_table.proofs.nodes.Nodes.set_curve.Goals as goal

changed : (c : goal.After-self-1) → slice_set c.self.inside.nodes.items c.args.node.0 (record { kind = c.set_curve.new.self; attrs = c.index_mut.result.now.attrs }) ≡ changed_at c.args.node.0 (node_with_curve c.args.curve) c.self.inside.nodes.items
changed c =
    ap (λ kind. let made : Node = record { kind = kind; attrs = c.index_mut.result.now.attrs } in slice_set c.self.inside.nodes.items c.args.node.0 made) c.set_curve.ensures
    ∙ set_is_changed c.args.node.0 (node_with_curve c.args.curve) c.self.inside.nodes.items c.index_mut.result.now c.index_mut.ensures.value

pub invariant_of-self : goal.invariant_of-self
invariant_of-self c =
    let free : refusal_at c.args.self.now c.args.node.0 (curve_refusal c.args.curve) ≡ None = sym c.curve_refusal.ensures ∙ c.in_default.is in
    table_changed (curve_refusal c.args.curve) (node_with_curve c.args.curve) (keeps_curve c.args.curve) c.args.node.0 c.self.inside.nodes.items _ c.self.inside.delay_frames (changed c) (rw (← c.self.view_is) at free) c.self.invariant

pub returns-clause-ok : goal.returns-clause-ok
returns-clause-ok c = rw (← c.self.view_is) (changed c)
