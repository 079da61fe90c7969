-- Worlds stay valid, whatever schedules and connections they get.
use Rattle.std.proofs.Common.{ℕ, ◌≡◌, ◌<◌, ◌==◌, length, List, [], ◌∷◌, map, filter, Bool, true, false, not, None, inl, inr, ◌⊎◌, refl, sym, ◌∙◌, ap, subst, arith}
use Rattle.std.specs.Prelude.{if◌then◌else◌, nat_le}
use Rattle.std.proofs.lemmas.Bool.Decides.{nat_tests}
use Rattle.std.proofs.lemmas.List.{length-map}
use Rattle.wa_base.specs.declared.graph_names.NodeId.{NodeId}
use Rattle.wa_base.specs.declared.graph_names.ParamId.{ParamId}
use Rattle.law_base.specs.Members.{IsIn}
use Rattle.law_base.proofs.Members.{IsIn-filter, IsIn-append}
use Rattle.buffer_store.specs.Buffers.{AreBuffers}
use Rattle.conn_graph.specs.declared.edges.Edge.{Edge}
use Rattle.conn_graph.specs.declared.edges.Form.{Form}
use Rattle.conn_graph.specs.declared.edges.Target.{Target}
use Rattle.conn_graph.specs.declared.edges.Target.TheVariants.{Input, Param as to_param}
use Rattle.conn_graph.specs.Edges.{target_node, is_named}
use Rattle.conn_graph.specs.Graph.{Connections, IsGraph, has_edge, with_edge, connect_refusal, connected, disconnected}
use Rattle.conn_graph.proofs.Graphs.{IsGraph-with_edge, IsGraph-filter, allowed}
use Rattle.meaning.specs.declared.world.World.{World}
use Rattle.meaning.specs.declared.scheds.Play.{Play}
use Rattle.meaning.specs.World.{plain, kind_of}
use Rattle.meaning.specs.Validity.{IsValid, IsPlayOf, ports_of, param_ids, play_nodes}
use Rattle.meaning.specs.Changes.{with_graph, IsTarget}
use Rattle.meaning.specs.Sources.{with_plays, with_play, changed_play}

-- validity rests on what a world has, on whose its schedules are, and on what they play
pub valid_of : (w w' : World) → w'.spec ≡ w.spec → w'.nodes ≡ w.nodes → w'.graph.value ≡ w.graph.value → w'.params.items ≡ w.params.items → play_nodes w' ≡ play_nodes w
    → ((p : Play) → IsIn p w'.scheds.items → IsPlayOf w'.store (kind_of w' p.id.0) p) → AreBuffers w'.store → IsValid w → IsValid w'
valid_of w w' spec nodes graph params plays kinds store valid = record {
  spec = rw spec valid.spec;
  nodes = record {
    some = rw nodes valid.nodes.some;
    few = rw nodes valid.nodes.few;
    kept = rw nodes valid.nodes.kept;
    first = rw (spec, nodes) valid.nodes.first;
    others = λ i low high. rw nodes (valid.nodes.others i low (rw nodes at high));
  };
  graph = rw graph valid.graph;
  ports = rw (graph, nodes) valid.ports;
  params = record {
    each = λ i name below. rw (nodes, params) (valid.params.each i name (rw nodes at below));
    there = λ id is. rw nodes (valid.params.there id (rw params at is));
    order = rw params valid.params.order;
    lines = λ p is. valid.params.lines p (rw params at is);
    targets = λ e id is to. rw params (valid.params.targets e id (rw graph at is) to);
  };
  scheds = record { each = λ i. rw (plays, nodes) (valid.scheds.each i); order = rw plays valid.scheds.order; kinds = kinds };
  store = store;
}

pub plain_valid : (w : World) → IsValid w → IsValid (plain w)
plain_valid w valid = valid_of w (plain w) refl refl refl refl refl valid.scheds.kinds valid.store valid

pub valid_plain : (w : World) → IsValid (plain w) → IsValid w
valid_plain w valid = valid_of (plain w) w refl refl refl refl refl valid.scheds.kinds valid.store valid

-- ---- schedules

pub with_plays_valid : (w : World) (plays : List Play) → map (λ (p : Play). p.id.0) plays ≡ play_nodes w → ((p : Play) → IsIn p plays → IsPlayOf w.store (kind_of w p.id.0) p)
    → IsValid w → IsValid (with_plays w plays)
with_plays_valid w plays same kinds valid = valid_of w (with_plays w plays) refl refl refl refl same kinds valid.store valid

-- a changed schedule is that of the same source
pub changed_nodes : (node : ℕ) (change : Play → Play) → ((p : Play) → (change p).id ≡ p.id) → (plays : List Play)
    → map (λ (p : Play). p.id.0) (map (changed_play node change) plays) ≡ map (λ (p : Play). p.id.0) plays
changed_nodes node change same [] = refl
changed_nodes node change same (p ∷ ps) = let here = by_test (p.id.0 == node) in let rest = changed_nodes node change same ps in cc
  where
    by_test : (b : Bool) → (if b then change p else p).id.0 ≡ p.id.0
    by_test true = ap (λ (id : NodeId). id.0) (same p)
    by_test false = refl

-- a property of every schedule holds after one is changed, where the change keeps it
pub each_changed : (P : Play → Type 0) (node : ℕ) (change : Play → Play) (plays : List Play) → ((p : Play) → IsIn p plays → P p)
    → ((p : Play) → IsIn p plays → p.id.0 ≡ node → P p → P (change p)) → (p : Play) → IsIn p (map (changed_play node change) plays) → P p
each_changed P node change [] all keeps p is = absurd is
each_changed P node change (q ∷ qs) all keeps p (inl same) = subst P (sym same) (by_test (q.id.0 == node) refl)
  where
    by_test : (b : Bool) → (q.id.0 == node) ≡ b → P (if b then change q else q)
    by_test true is = keeps q (inl refl) (grind (arith, nat_tests)) (all q (inl refl))
    by_test false is = all q (inl refl)
each_changed P node change (q ∷ qs) all keeps p (inr is) = each_changed P node change qs (λ x h. all x (inr h)) (λ x h. keeps x (inr h)) p is

pub with_play_valid : (w : World) (node : ℕ) (change : Play → Play) → ((p : Play) → (change p).id ≡ p.id)
    → ((p : Play) → IsIn p w.scheds.items → p.id.0 ≡ node → IsPlayOf w.store (kind_of w p.id.0) p → IsPlayOf w.store (kind_of w p.id.0) (change p)) → IsValid w → IsValid (with_play w node change)
with_play_valid w node change same keeps valid =
    with_plays_valid w (map (changed_play node change) w.scheds.items) (changed_nodes node change same w.scheds.items)
    (each_changed (λ p. IsPlayOf w.store (kind_of w p.id.0) p) node change w.scheds.items valid.scheds.kinds
    (λ p is at kept. subst (λ (id : NodeId). IsPlayOf w.store (kind_of w id.0) (change p)) (sym (same p)) (keeps p is at kept)))
    valid

-- ---- connections

pub with_graph_valid : (w : World) (g : Connections) → IsValid w → IsGraph g → g.nodes ≡ w.graph.value.nodes
    → ((e : Edge) (id : ParamId) → IsIn e g.edges → e.to ≡ to_param id → IsIn id (param_ids w)) → IsValid (with_graph w g)
with_graph_valid w g valid graph nodes targets = record {
  spec = valid.spec;
  nodes = record { some = valid.nodes.some; few = valid.nodes.few; kept = valid.nodes.kept; first = valid.nodes.first; others = valid.nodes.others };
  graph = graph;
  ports = nodes ∙ valid.ports;
  params = record { each = valid.params.each; there = valid.params.there; order = valid.params.order; lines = valid.params.lines; targets = targets };
  scheds = record { each = valid.scheds.each; order = valid.scheds.order; kinds = valid.scheds.kinds };
  store = valid.store;
}

-- a graph has a node for each node of its world
pub graph_nodes : (w : World) → IsValid w → length w.graph.value.nodes ≡ length w.nodes
graph_nodes w valid = ap length valid.ports ∙ length-map w.nodes ports_of

-- a target that is there belongs to a node that is there
pub target_there : (w : World) (to : Target) → IsValid w → IsTarget w to → target_node to < length w.nodes
target_there w (Input node input) valid there = there
target_there w (to_param id) valid there = valid.params.there id there

param_there : (w : World) (to : Target) (id : ParamId) → IsTarget w to → to ≡ to_param id → IsIn id (param_ids w)
param_there w to id there is = rw is at there

-- a connection of the graph with one more is an old one or the new one
old_or_new : (g : Connections) (new e : Edge) → IsIn e (with_edge g.edges new) → (e ≡ new) ⊎ IsIn e g.edges
old_or_new g new e is = elim (IsIn-append (filter (λ x. nat_le x.from.0 new.from.0) g.edges) _ e is) [
  | inl before ↦ inr (IsIn-filter _ g.edges e before).0
  | inr (inl same) ↦ inl same
  | inr (inr behind) ↦ inr (IsIn-filter _ g.edges e behind).0
]

pub connected_valid : (w : World) (e : Edge) → IsValid w → e.from.0 < length w.nodes → IsTarget w e.to → connect_refusal w.graph.value e ≡ None
    → IsValid (with_graph w (connected w.graph.value e))
connected_valid w e valid from there accepted = by_test (has_edge w.graph.value e) refl
  where
    by_test : (b : Bool) → has_edge w.graph.value e ≡ b → IsValid (with_graph w (if b then w.graph.value else record w.graph.value { edges = with_edge w.graph.value.edges e }))
    by_test true is = with_graph_valid w w.graph.value valid valid.graph refl valid.params.targets
    by_test false is =
        let nodes = graph_nodes w valid in
        let to = target_there w e.to valid there in
        let free = allowed w.graph.value e (rw nodes from) (rw nodes to) accepted in
        with_graph_valid w (record w.graph.value { edges = with_edge w.graph.value.edges e }) valid (IsGraph-with_edge w.graph.value e valid.graph free.0 is (free.1 is)) refl
        (λ x id in_edges leads. elim (old_or_new w.graph.value e x in_edges) [
          | inl same ↦ param_there w e.to id there (sym (ap (λ (y : Edge). y.to) same) ∙ leads)
          | inr old ↦ valid.params.targets x id old leads
        ])

pub disconnected_valid : (w : World) (from : ℕ) (f : Form) → IsValid w → IsValid (with_graph w (disconnected w.graph.value from f))
disconnected_valid w from f valid =
    with_graph_valid w (disconnected w.graph.value from f) valid (IsGraph-filter w.graph.value (λ e. not (is_named from f e)) valid.graph) refl
    (λ e id is leads. valid.params.targets e id (IsIn-filter _ w.graph.value.edges e is).0 leads)
