use Rattle.std.proofs.Common.{◌≡◌, Some, sym, ◌∙◌, ap}
use Rattle.std.specs.Prelude.{option_copied}
use Rattle.conn_graph.proofs.Nexts.{next_cell}
use Rattle.conn_graph.proofs.lists.Lists.next.Goals as goal

pub returns-in_err-cell : goal.returns-in_err-cell
returns-in_err-cell c =
    let key = rw (← c.self.view_is) at (sym c.in_ok-key.was ∙ c.key_after.ensures) in
    let next = next_cell c.self.inside.nodes.items c.self.inside.cells _ c.self.invariant c.args.side c.args.node.0 c.in_ok-key.key c.args.after key in
    let none = ap option_copied (sym c.in_err-cell.was) ∙ c.get.ensures ∙ next.1 in
    absurd cc

pub returns : goal.returns
returns c =
    let key = rw (← c.self.view_is) at (sym c.in_ok-key.was ∙ c.key_after.ensures) in
    let next = next_cell c.self.inside.nodes.items c.self.inside.cells _ c.self.invariant c.args.side c.args.node.0 c.in_ok-key.key c.args.after key in
    let some = ap option_copied (sym c.in_ok-cell.was) ∙ c.get.ensures ∙ next.1 in
    let same : c.in_ok-cell.cell.now ≡ next.0 = cc in
    rw (← c.self.view_is) (ap (λ x. Some (c.in_ok-key.key, x.edge)) same ∙ next.2)
