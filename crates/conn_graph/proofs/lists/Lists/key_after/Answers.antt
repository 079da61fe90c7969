use Rattle.std.proofs.Common.{◌≡◌, ◌<◌, length, sym, ◌∙◌, ap, arith}
use Rattle.std.specs.Prelude.{option_copied}
use Rattle.std.proofs.lemmas.List.{get_or_read, length-map}
use Rattle.conn_graph.specs.declared.cells.Ends.{Ends}
use Rattle.conn_graph.specs.declared.cells.Links.{Links}
use Rattle.conn_graph.specs.declared.cells.Node.{Node}
use Rattle.conn_graph.specs.Graph.{no_ports}
use Rattle.conn_graph.specs.Lists.{ends_of, links_of, node_of}
use Rattle.conn_graph.proofs.Nexts.{key_first, key_behind}
use Rattle.conn_graph.proofs.lists.Lists.key_after.Goals as goal

pub returns-in_err-get-in-Some : goal.returns-in_err-get-in-Some
returns-in_err-get-in-Some c =
    let node = rw (← c.self.view_is) at c.requires.node in
    let low : c.args.node.0 < length c.self.inside.nodes.items = let l = length-map c.self.inside.nodes.items (λ (n : Node). n.ports) in omega arith in
    let on = rw (← c.self.view_is, c.in-Some.is) at c.requires.after in
    let behind = key_behind c.self.inside.nodes.items c.self.inside.cells _ c.self.invariant c.args.side c.args.node.0 c.in-Some.key low on in
    let none = ap option_copied (sym c.in_err-get-in-Some.was) ∙ c.get.ensures ∙ behind.1 in
    absurd cc

pub returns-in-None : goal.returns-in-None
returns-in-None c =
    let node = rw (← c.self.view_is) at c.requires.node in
    let low : c.args.node.0 < length c.self.inside.nodes.items = let l = length-map c.self.inside.nodes.items (λ (n : Node). n.ports) in omega arith in
    let read = get_or_read c.self.inside.nodes.items c.args.node.0 c.index.result.now low c.index.ensures (node_of no_ports) in
    rw (← c.self.view_is, c.in-None.is) (ap (λ (x : Ends). x.first) (c.ends.ensures ∙ ap (ends_of c.args.side) read)
    ∙ key_first c.self.inside.nodes.items c.self.inside.cells _ c.self.invariant c.args.side c.args.node.0 low)

pub returns-in_ok-get-in-Some : goal.returns-in_ok-get-in-Some
returns-in_ok-get-in-Some c =
    let node = rw (← c.self.view_is) at c.requires.node in
    let low : c.args.node.0 < length c.self.inside.nodes.items = let l = length-map c.self.inside.nodes.items (λ (n : Node). n.ports) in omega arith in
    let on = rw (← c.self.view_is, c.in-Some.is) at c.requires.after in
    let behind = key_behind c.self.inside.nodes.items c.self.inside.cells _ c.self.invariant c.args.side c.args.node.0 c.in-Some.key low on in
    let some = ap option_copied (sym c.in_ok-get-in-Some.was) ∙ c.get.ensures ∙ behind.1 in
    let same : c.in_ok-get-in-Some.field-0.now ≡ behind.0 = cc in
    rw (← c.self.view_is, c.in-Some.is) (ap (λ (x : Links). x.behind) (c.links.ensures ∙ ap (links_of c.args.side) same) ∙ behind.2)
