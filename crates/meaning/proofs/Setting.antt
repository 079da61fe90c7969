-- A world stays valid when an attribute of a node is set.
use Rattle.std.proofs.Common.{ℕ, ℤ, zero, suc, ◌≡◌, ◌<◌, length, List, [], ◌∷◌, map, slice_index_or, true, Option, None, refl, sym, ◌∙◌, ap, subst, Some}
use Rattle.std.specs.Prelude.{◌↔◌}
use Rattle.wa_base.specs.declared.exceptions.Exc.{Exc}
use Rattle.wa_base.specs.declared.graph_names.Mode.{Mode}
use Rattle.wa_base.specs.declared.graph_names.Interp.{Interp}
use Rattle.law_base.specs.Members.{IsIn}
use Rattle.node_table.specs.Kinds.{inputs, outputs, is_delay_kind, capacity_of, param_name, lasting}
use Rattle.node_table.specs.Nodes.{IsCreated, with_count, with_mode, with_interp, count_refusal, mode_refusal, interp_refusal, node_with_curve, curve_refusal, changed_at, refusal_at}
use Rattle.node_table.specs.declared.kinds.Kind.{Kind}
use Rattle.node_table.proofs.Lasting.{same_by_lasting, holds_by_lasting, with_curve_lasts}
use Rattle.node_table.proofs.Shaping.{keeps_curve}
use Rattle.node_table.specs.declared.nodes.Node.{Node}
use Rattle.node_table.proofs.Setting.{count_free, mode_kept, keeps_count, keeps_mode, keeps_interp, length-changed, capacities-changed}
use Rattle.conn_graph.specs.declared.edges.Ports.{Ports}
use Rattle.wa_base.specs.declared.contexts.ContextSpec.{ContextSpec}
use Rattle.meaning.specs.declared.world.World.{World}
use Rattle.meaning.specs.World.{no_node, is_source, param_id}
use Rattle.meaning.specs.Validity.{IsValid, IsDestination, IsPlayOf, ports_of, param_ids, play_nodes}
use Rattle.meaning.specs.declared.change.AttributeEdit.{AttributeEdit}
use Rattle.meaning.specs.declared.change.AttributeEdit.TheVariants as attribute
use Rattle.meaning.specs.Changes.{with_nodes, attribute_set, attribute_refusal}

-- what a change that is not refused leaves of a node
pub record KeepsNode (refusal : Node → Option Exc) (change : Node → Node) : Type 0 where
  pub kind : (n : Node) → lasting (change n).kind ≡ lasting n.kind
  pub birth : (n : Node) → (change n).attrs.birth ≡ n.attrs.birth
  pub destination : (spec : ContextSpec) (n : Node) → refusal n ≡ None → IsDestination spec n → IsDestination spec (change n)
  pub created : (n : Node) → refusal n ≡ None → IsCreated n → IsCreated (change n)

-- what a change keeps of every node it keeps at every place
pub changed_same : {A : Type 0} (f : Node → A) (change : Node → Node) → ((n : Node) → f (change n) ≡ f n) → (i : ℕ) (ns : List Node) (k : ℕ)
    → f (slice_index_or (changed_at i change ns) k no_node) ≡ f (slice_index_or ns k no_node)
changed_same f change same i [] k = refl
changed_same f change same zero (n ∷ ns) zero = same n
changed_same f change same zero (n ∷ ns) (suc k) = refl
changed_same f change same (suc i) (n ∷ ns) zero = refl
changed_same f change same (suc i) (n ∷ ns) (suc k) = changed_same f change same i ns k

changed_holds : (P : Node → Type 0) (refusal : Node → Option Exc) (change : Node → Node) → ((n : Node) → refusal n ≡ None → P n → P (change n))
    → (i : ℕ) (ns : List Node) → refusal_at ns i refusal ≡ None → (k : ℕ) → P (slice_index_or ns k no_node) → P (slice_index_or (changed_at i change ns) k no_node)
changed_holds P refusal change keeps i [] fine k p = p
changed_holds P refusal change keeps zero (n ∷ ns) fine zero p = keeps n fine p
changed_holds P refusal change keeps zero (n ∷ ns) fine (suc k) p = p
changed_holds P refusal change keeps (suc i) (n ∷ ns) fine zero p = p
changed_holds P refusal change keeps (suc i) (n ∷ ns) fine (suc k) p = changed_holds P refusal change keeps i ns fine k p

map_same : {A : Type 0} (f : Node → A) (change : Node → Node) → ((n : Node) → f (change n) ≡ f n) → (i : ℕ) (ns : List Node) → map f (changed_at i change ns) ≡ map f ns
map_same f change same i [] = refl
map_same f change same zero (n ∷ ns) = ap (λ x. x ∷ map f ns) (same n)
map_same f change same (suc i) (n ∷ ns) = ap (λ xs. f n ∷ xs) (map_same f change same i ns)

-- the ports of a node are those of its kind
ports_by_kind : Kind → Ports
ports_by_kind kind = record { inputs = inputs kind; outputs = outputs kind; is_delay = is_delay_kind kind }

ports_same : (change : Node → Node) → ((n : Node) → lasting (change n).kind ≡ lasting n.kind) → (n : Node) → ports_of (change n) ≡ ports_of n
unfolding ports_by_kind
ports_same change same n = same_by_lasting ports_by_kind (λ curve was_set. refl) (change n).kind n.kind (same n)

pub set_valid : (w : World) (node : ℕ) (refusal : Node → Option Exc) (change : Node → Node) → KeepsNode refusal change → refusal_at w.nodes node refusal ≡ None
    → IsValid w → IsValid (with_nodes w (changed_at node change w.nodes))
set_valid w node refusal change keeps fine valid = record {
  spec = valid.spec;
  nodes = record {
    some = rw same valid.nodes.some;
    few = rw same valid.nodes.few;
    kept = rw (capacities-changed change (λ n. same_by_lasting capacity_of (λ curve was_set. refl) (change n).kind n.kind (keeps.kind n)) node w.nodes) valid.nodes.kept;
    first = changed_holds (IsDestination w.spec) refusal change (keeps.destination w.spec) node w.nodes fine 0 valid.nodes.first;
    others = λ i low high. changed_holds IsCreated refusal change keeps.created node w.nodes fine i (valid.nodes.others i low (rw same at high));
  };
  graph = valid.graph;
  ports = valid.ports ∙ sym (map_same ports_of change (ports_same change keeps.kind) node w.nodes);
  params = record {
    each = λ i name below. subst (λ own. IsIn (param_id i name) (param_ids w) ↔ (own ≡ Some name)) (sym (same_by_lasting param_name (λ curve was_set. refl) _ _ (kinds i))) (valid.params.each i name (rw same at below));
    there = λ id is. rw same (valid.params.there id is);
    order = valid.params.order;
    lines = valid.params.lines;
    targets = valid.params.targets;
  };
  scheds = record {
    each = λ i. subst (λ b. IsIn i (play_nodes w) ↔ (i < length (changed_at node change w.nodes)) × (b ≡ true)) (sym (same_by_lasting is_source (λ curve was_set. refl) _ _ (kinds i))) (rw same (valid.scheds.each i));
    order = valid.scheds.order;
    kinds = λ p is. holds_by_lasting (λ k. IsPlayOf w.store k p) (λ curve curve' was_set was_set' none. absurd none) _ _ (sym (kinds p.id.0)) (valid.scheds.kinds p is);
  };
  store = valid.store;
}
  where
    same : length (changed_at node change w.nodes) ≡ length w.nodes
    same = length-changed node change w.nodes

    kinds : (i : ℕ) → lasting (slice_index_or (changed_at node change w.nodes) i no_node).kind ≡ lasting (slice_index_or w.nodes i no_node).kind
    kinds i = changed_same (λ (n : Node). lasting n.kind) change keeps.kind node w.nodes i

-- ---- each attribute

node_keeps_count : (count : ℕ) → KeepsNode (count_refusal count) (with_count count)
node_keeps_count count = record {
  kind = λ n. refl;
  birth = λ n. refl;
  destination = λ spec n fine is.
      let free = count_free count n fine in
      record { kind = is.kind; count = free.kept (rw is.kind refl) ∙ is.count; mode = is.mode };
  created = (keeps_count count).created;
}

node_keeps_mode : (mode : Mode) → KeepsNode (mode_refusal mode) (with_mode mode)
node_keeps_mode mode = record {
  kind = λ n. refl;
  birth = λ n. refl;
  destination = λ spec n fine is. record { kind = is.kind; count = is.count; mode = sym (mode_kept mode n fine (rw is.kind refl)) ∙ is.mode };
  created = (keeps_mode mode).created;
}

node_keeps_interp : (interp : Interp) → KeepsNode (interp_refusal interp) (with_interp interp)
node_keeps_interp interp = record {
  kind = λ n. refl;
  birth = λ n. refl;
  destination = λ spec n fine is. record { kind = is.kind; count = is.count; mode = is.mode };
  created = (keeps_interp interp).created;
}

-- and of any of them
pub node_keeps_attribute : (e : AttributeEdit) → KeepsNode (attribute_refusal e) (attribute_set e)
node_keeps_attribute (attribute.Count count) = node_keeps_count count
node_keeps_attribute (attribute.Mode mode) = node_keeps_mode mode
node_keeps_attribute (attribute.Interp interp) = node_keeps_interp interp

-- ---- the curve of a shaper

pub node_keeps_curve : (curve : Option (List ℤ)) → KeepsNode (curve_refusal curve) (node_with_curve curve)
node_keeps_curve curve = record {
  kind = λ n. with_curve_lasts curve n.kind;
  birth = λ n. refl;
  destination = λ spec n fine is. record { kind = rw is.kind refl; count = is.count; mode = is.mode };
  created = (keeps_curve curve).created;
}
