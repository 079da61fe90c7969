use Rattle.std.proofs.Common.{◌≡◌, ◌++◌, ◌∷◌, [], ◌+◌, None, ap, ap₂, sym, ◌∙◌, subst, rules}
use Rattle.node_table.specs.declared.rows.Row.{Row}
use Rattle.node_table.specs.Rows.{frames_written}
use Rattle.node_table.specs.Nodes.{creation_refusal, capacities, AreNodes, node_of}
use Rattle.node_table.proofs.NodeLists.{are_nodes_with_another, capacities_with}
use Rattle.node_table.proofs.nodes.Nodes.create.Goals as goal

pub invariant_of-self-2 : goal.invariant_of-self-2
invariant_of-self-2 c =
    let fine : creation_refusal c.args.self.now c.args.kind ≡ None = sym c.creation_refusal.ensures ∙ c.in_default.is in
    let items : c.push.new.self.items ≡ c.self.inside.nodes.items ++ node_of c.args.kind c.args.birth ∷ [] = search rules in
    let kept : c.self.inside.delay_frames + c.frames-capacity.result ≡ capacities (c.self.inside.nodes.items ++ node_of c.args.kind c.args.birth ∷ []) =
    ap₂ (λ x y. x + y) c.self.invariant.1 (c.frames-capacity.ensures ∙ ap (λ (r : Row). frames_written r.keeps) c.row.ensures) ∙ sym (capacities_with c.self.inside.nodes.items c.args.kind c.args.birth) in (
      subst AreNodes (sym items) (are_nodes_with_another c.self.inside.nodes.items c.args.kind c.args.birth c.self.invariant.0 (rw (← c.self.view_is) at fine) c.requires),
      kept ∙ ap capacities (sym items),
    )
