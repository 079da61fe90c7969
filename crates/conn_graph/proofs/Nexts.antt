-- The next step on the walks that are seen of the lists.
use Rattle.std.proofs.Common.{ℕ, ◌≡◌, ◌<◌, length, List, Option, None, Some, option_map, refl, sym, ◌∙◌, ap, ap₂, subst}
use Rattle.slab.specs.Slab.{Slab, get}
use Rattle.law_base.specs.Members.{IsIn}
use Rattle.conn_graph.specs.declared.cells.Cell.{Cell}
use Rattle.conn_graph.specs.declared.cells.Links.{Links}
use Rattle.conn_graph.specs.declared.cells.Node.{Node}
use Rattle.conn_graph.specs.declared.cells.Side.{Side}
use Rattle.conn_graph.specs.declared.cells.Side.TheVariants.{Out, In}
use Rattle.conn_graph.specs.declared.edges.Edge.{Edge}
use Rattle.conn_graph.specs.Walks.{next_step, IsOnWalk}
use Rattle.conn_graph.specs.Lists.{links_of, ends_of, node_at, slot, walk_at, walks_of, thread, threads_of, AreListsOf, AreLists}
use Rattle.conn_graph.proofs.AllLists.{seen, slot_of}
use Rattle.conn_graph.proofs.Walking.{key_of, first_key, behind_key, step_in}

-- the cell of a slot
cell_of : (side : Side) (at : ℕ → Option Cell) (k : ℕ) (e : Edge) (l : Links) → slot side at k ≡ Some (e, l) → (c : Cell) × (at k ≡ Some c) × (c.edge ≡ e) × (links_of side c ≡ l)
cell_of side at k e l is = by_case (at k) refl is
  where
    edge_in : Option (Edge × Links) → Edge
    edge_in None = e
    edge_in (Some s) = s.0

    links_in : Option (Edge × Links) → Links
    links_in None = l
    links_in (Some s) = s.1

    by_case : (o : Option Cell) → at k ≡ o → option_map (seen side) o ≡ Some (e, l) → (c : Cell) × (at k ≡ Some c) × (c.edge ≡ e) × (links_of side c ≡ l)
    by_case None there h = absurd cc
    by_case (Some c) there h = (c, there, ap edge_in h, ap links_in h)

module _ (nodes : List Node) (cells : Slab Cell) (room : ℕ) (lists : AreLists nodes cells) where
  of_side : (side : Side) → AreListsOf side nodes (get cells) (walks_of side nodes (get cells))
  of_side Out = lists.out
  of_side In = lists.into

  thread_is : (side : Side) (node : ℕ) → thread side (threads_of nodes (get cells) room) node ≡ walk_at (walks_of side nodes (get cells)) node
  thread_is Out node = refl
  thread_is In node = refl

  pub count_is : (side : Side) (node : ℕ) → node < length nodes → (ends_of side (node_at nodes node)).count ≡ length (thread side (threads_of nodes (get cells) room) node)
  count_is side node l = ((of_side side).lists node l).count ∙ ap length (sym (thread_is side node))

  -- before a walk begins, its first cell is next
  pub key_first : (side : Side) (node : ℕ) → node < length nodes → (ends_of side (node_at nodes node)).first ≡ option_map key_of (next_step (thread side (threads_of nodes (get cells) room) node) None)
  key_first side node l =
      ((of_side side).lists node l).first
      ∙ first_key (walk_at (walks_of side nodes (get cells)) node)
      ∙ ap (λ w. option_map key_of (next_step w None)) (sym (thread_is side node))

  -- behind a cell that is there, the one that its links name
  pub key_behind : (side : Side) (node cell : ℕ) → node < length nodes → IsOnWalk (thread side (threads_of nodes (get cells) room) node) (Some cell)
      → (c : Cell) × (get cells cell ≡ Some c) × ((links_of side c).behind ≡ option_map key_of (next_step (thread side (threads_of nodes (get cells) room) node) (Some cell)))
  key_behind side node cell l on =
      let walk = walk_at (walks_of side nodes (get cells)) node in
      let here : IsOnWalk walk (Some cell) = subst (λ w. IsOnWalk w (Some cell)) (thread_is side node) on in
      let found = behind_key (slot side (get cells)) None walk cell ((of_side side).lists node l).linked here in
      let c = cell_of side (get cells) cell found.0 found.1 found.2 in
      (c.0, c.1, ap (λ (k : Links). k.behind) c.3 ∙ found.3 ∙ ap (λ w. option_map key_of (next_step w (Some cell))) (sym (thread_is side node)))

  -- the cell of the next key has the connection of the next step
  pub next_cell : (side : Side) (node key : ℕ) (after : Option ℕ) → Some key ≡ option_map key_of (next_step (thread side (threads_of nodes (get cells) room) node) after)
      → (c : Cell) × (get cells key ≡ Some c) × (Some (key, c.edge) ≡ next_step (thread side (threads_of nodes (get cells) room) node) after)
  next_cell side node key after is = by_case (next_step (thread side (threads_of nodes (get cells) room) node) after) refl is
    where
      by_case : (o : Option (ℕ × Edge)) → next_step (thread side (threads_of nodes (get cells) room) node) after ≡ o → Some key ≡ option_map key_of o
          → (c : Cell) × (get cells key ≡ Some c) × (Some (key, c.edge) ≡ next_step (thread side (threads_of nodes (get cells) room) node) after)
      by_case None there h = absurd cc
      by_case (Some t) there h =
          let same : key ≡ t.0 = cc in
          let here : IsIn t (walk_at (walks_of side nodes (get cells)) node) = subst (λ w. IsIn t w) (thread_is side node) (step_in _ after t there) in
          let s = slot_of side nodes (get cells) (walks_of side nodes (get cells)) (of_side side) node t here in
          let c = cell_of side (get cells) t.0 t.1 s.0 s.1 in
          (c.0, ap (get cells) same ∙ c.1, ap₂ (λ k (e : Edge). Some (k, e)) same c.2 ∙ sym there)
