-- The connections that lead to a target are among those that lead to its node.
use Rattle.std.proofs.Common.{ℕ, zero, suc, ◌≡◌, ◌+◌, ◌*◌, ◌<◌, ◌≤◌, length, List, [], ◌∷◌, ◌++◌, map, filter, take, slice_index_or, slice_set, Bool, true, false, cond, inl, inr, refl, sym, ◌∙◌, ap, arith, subst}
use Rattle.std.specs.Prelude.{◌==◌}
use Rattle.std.proofs.lemmas.Bool.Decides.{nat_tests}
use Rattle.std.proofs.lemmas.List.{length-map, append-nil, take_more, get_or-set_same, get_or-set_other}
use Rattle.std.proofs.lemmas.List.Elements.{filter-append}
use Rattle.wa_base.specs.declared.graph_names.End.{End}
use Rattle.wa_base.specs.declared.graph_names.ParamId.{ParamId}
use Rattle.law_base.specs.Members.{IsIn}
use Rattle.law_base.proofs.Members.{IsIn-filter}
use Rattle.law_base.proofs.Tests.{and_parts}
use Rattle.node_table.specs.Kinds.{outputs}
use Rattle.node_table.specs.declared.nodes.Node.{Node}
use Rattle.conn_graph.specs.declared.edges.Edge.{Edge}
use Rattle.conn_graph.specs.declared.edges.Ports.{Ports}
use Rattle.conn_graph.specs.declared.edges.Target.{Target}
use Rattle.conn_graph.specs.declared.edges.Target.TheVariants.{Input, Param}
use Rattle.conn_graph.specs.Cells.{enters}
use Rattle.conn_graph.specs.Edges.{target_node, is_input, is_param}
use Rattle.conn_graph.specs.Ends.{reader_of, ends}
use Rattle.conn_graph.specs.Graph.{Connections, no_ports, ports_at, HasPlace, IsGraph, edges_to_input, edges_to_param}
use Rattle.conn_graph.proofs.EndLaws.{end_is}
use Rattle.meaning.specs.declared.world.World.{World}
use Rattle.meaning.specs.World.{no_node, kind_of}
use Rattle.meaning.specs.Validity.{ports_of, IsValid}
use Rattle.quantum_blocks.specs.Blocks.{slot}
use Rattle.quantum_blocks.specs.Connections.{into, leads_to}
use Rattle.quantum_blocks.proofs.Slots.{slot_low}

filter_within : {X : Type 0} (p q : X → Bool) → ((x : X) → p x ≡ true → q x ≡ true) → (xs : List X) → filter p (filter q xs) ≡ filter p xs
filter_within p q each [] = refl
filter_within p q each (x ∷ xs) = by_tests (q x) (p x) refl refl (filter_within p q each xs)
  where
    by_tests : (b c : Bool) → q x ≡ b → p x ≡ c → filter p (filter q xs) ≡ filter p xs → filter p (cond b (x ∷ filter q xs) (filter q xs)) ≡ cond c (x ∷ filter p xs) (filter p xs)
    by_tests true c is_q is_p below = ap (λ ys. cond (p x) (x ∷ ys) ys) below ∙ ap (λ t. cond t (x ∷ filter p xs) (filter p xs)) is_p
    by_tests false true is_q is_p below = let t : q x ≡ true = each x is_p in absurd cc
    by_tests false false is_q is_p below = below

node_of_input : (n i : ℕ) (t : Target) → is_input n i t ≡ true → (target_node t == n) ≡ true
node_of_input n i (Input node input) h = (and_parts _ _ h).0
node_of_input n i (Param param) h = absurd cc

node_of_param : (id : ParamId) (t : Target) → is_param id t ≡ true → (target_node t == id.node.0) ≡ true
node_of_param id (Input node input) h = absurd cc
node_of_param id (Param param) h = (and_parts _ _ h).0

pub input_sources : (g : Connections) (n i : ℕ) → filter (leads_to (Input (record { 0 = n }) i)) (into g n) ≡ edges_to_input g n i
input_sources g n i = filter_within (λ e. is_input n i e.to) (λ e. target_node e.to == n) (λ e h. node_of_input n i e.to h) g.edges

pub param_sources : (g : Connections) (id : ParamId) → filter (leads_to (Param id)) (into g id.node.0) ≡ edges_to_param g id
param_sources g id = filter_within (λ e. is_param id e.to) (λ e. target_node e.to == id.node.0) (λ e h. node_of_param id e.to h) g.edges

-- ---- they come from nodes that are there, and are not too many

pub IsIn-get_or : {X : Type 0} (xs : List X) (i : ℕ) (d : X) → i < length xs → IsIn (slice_index_or xs i d) xs
IsIn-get_or [] i d l = absurd (omega arith)
IsIn-get_or (x ∷ xs) zero d l = inl refl
IsIn-get_or (x ∷ xs) (suc i) d l = inr (IsIn-get_or xs i d (omega arith))

pub into_places : (g : Connections) (n : ℕ) → IsGraph g → (i : ℕ) (d : Edge) → i < length (into g n) → HasPlace g (slice_index_or (into g n) i d)
into_places g n whole i d l =
    let e : Edge = slice_index_or (into g n) i d in
    whole.places e (IsIn-filter (λ x. target_node x.to == n) g.edges e (IsIn-get_or (into g n) i d l)).0

length-filter_low : {X : Type 0} (p : X → Bool) (xs : List X) → length (filter p xs) ≤ length xs
length-filter_low p [] = omega arith
length-filter_low p (x ∷ xs) = by_test (p x) (length-filter_low p xs)
  where
    by_test : (b : Bool) → length (filter p xs) ≤ length xs → length (cond b (x ∷ filter p xs) (filter p xs)) ≤ suc (length xs)
    by_test true l = omega arith
    by_test false l = omega arith

pub into_few : (g : Connections) (n : ℕ) → IsGraph g → length (into g n) ≤ 8192
into_few g n whole = let few = whole.few in let low = length-filter_low (λ (e : Edge). target_node e.to == n) g.edges in omega arith

-- as many ports as nodes
pub same_nodes : (w : World) → IsValid w → length w.graph.value.nodes ≡ length w.nodes
same_nodes w valid = ap length valid.ports ∙ length-map w.nodes ports_of

-- the ports of a node are those of its kind
pub outputs_are : (w : World) → IsValid w → (n : ℕ) → n < length w.nodes → (ports_at w.graph.value n).outputs ≡ outputs (kind_of w n)
outputs_are w valid n l = ap (λ (ports : List Ports). (slice_index_or ports n no_ports).outputs) valid.ports ∙ of_nodes w.nodes n l
  where
    of_nodes : (nodes : List Node) (i : ℕ) → i < length nodes → (slice_index_or (map ports_of nodes) i no_ports).outputs ≡ outputs (slice_index_or nodes i no_node).kind
    of_nodes [] i l = absurd (omega arith)
    of_nodes (x ∷ xs) zero l = refl
    of_nodes (x ∷ xs) (suc i) l = of_nodes xs i (omega arith)

-- an end is of a node that is there
pub end_low : (w : World) → IsValid w → (e : End) → IsIn e (ends w.graph.value) → e.node.0 < length w.nodes
end_low w valid e is = subst (λ k. e.node.0 < k) (same_nodes w valid) (end_is w.graph.value e is).0

-- and so do all that lead to a node
pub into_slots : (w : World) → IsValid w → (n : ℕ) (counts : List ℕ) → length counts ≡ 2 * length w.nodes → (edges : List Edge) → edges ≡ into w.graph.value n → (i : ℕ) (d : Edge) → i < length edges
    → slot (reader_of (slice_index_or edges i d).from.0) < length counts
into_slots w valid n counts places edges here i d l =
    let x : Edge = slice_index_or edges i d in
    let place = subst (λ (es : List Edge). HasPlace w.graph.value (slice_index_or es i d)) (sym here) (into_places w.graph.value n valid.graph i d (subst (λ (es : List Edge). i < length es) here l)) in
    subst (λ k. slot (reader_of x.from.0) < k) (sym places) (slot_low (reader_of x.from.0) (length w.nodes) (subst (λ k. x.from.0 < k) (same_nodes w valid) place.from))

-- ---- the connections to each node, one connection after another

pub filed : (lists : List (List Edge)) (all : List Edge) (i t n nodes : ℕ) (e d : Edge) (entered : List Edge) → length lists ≡ nodes → t < nodes → i < length all
    → slice_index_or all i d ≡ e → target_node e.to ≡ t → entered ≡ slice_index_or lists t [] ++ e ∷ []
    → ((k : ℕ) → k < nodes → slice_index_or lists k [] ≡ filter (enters k) (take i all))
    → n < nodes → slice_index_or (slice_set lists t entered) n [] ≡ filter (enters n) (take (i + 1) all)
filed lists all i t n nodes e d entered long there l is leads one each low = by_test (t == n) refl ∙ sym more
  where
    more : filter (enters n) (take (i + 1) all) ≡ filter (enters n) (take i all) ++ cond (t == n) (e ∷ []) []
    more =
        ap (filter (enters n)) (take_more all i d l ∙ ap (λ x. take i all ++ x ∷ []) is)
        ∙ filter-append (enters n) (take i all) (e ∷ [])
        ∙ ap (λ k. filter (enters n) (take i all) ++ cond (k == n) (e ∷ []) []) leads

    by_test : (b : Bool) → (t == n) ≡ b → slice_index_or (slice_set lists t entered) n [] ≡ filter (enters n) (take i all) ++ cond b (e ∷ []) []
    by_test true s =
        let same : n ≡ t = grind (arith, nat_tests) in
        ap (λ k. slice_index_or (slice_set lists t entered) k []) same
        ∙ get_or-set_same lists t entered [] (rw long there)
        ∙ one
        ∙ ap (λ xs. xs ++ e ∷ []) (each t there ∙ ap (λ k. filter (enters k) (take i all)) (sym same))
    by_test false s =
        get_or-set_other lists t n entered [] (λ k. grind (arith, nat_tests)) ∙ each n low ∙ sym (append-nil (filter (enters n) (take i all)))
