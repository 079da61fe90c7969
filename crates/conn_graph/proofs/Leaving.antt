-- Tests that only the connections of one node pass.
use Rattle.std.proofs.Common.{ℕ, Some, subst, ◌≡◌, List, [], ◌∷◌, filter, Bool, true, false, cond, ◌||◌, refl, sym, ◌∙◌, ap, ap₂, eq-eqb}
use Rattle.std.specs.Prelude.{◌==◌, ◌&&◌}
use Rattle.std.specs.List.{list_any}
use Rattle.std.proofs.lemmas.Bool.{eqb-true}
use Rattle.law_base.proofs.Tests.{and_parts}
use Rattle.conn_graph.specs.declared.edges.Edge.{Edge}
use Rattle.conn_graph.specs.declared.edges.Form.{Form}
use Rattle.conn_graph.specs.declared.edges.Target.{Target}
use Rattle.conn_graph.specs.declared.edges.Target.TheVariants.{Input, Param}
use Rattle.conn_graph.specs.declared.edges.Form.TheVariants.{All, Output, Node, NodeOutput, NodeOutputInput, ParamOutput}
use Rattle.conn_graph.specs.declared.edges.Form.TheVariants as form
use Rattle.wa_base.specs.declared.graph_names.ParamId.{ParamId}
use Rattle.conn_graph.specs.Edges.{same_name, same_target, same_edge, target_node, form_node, is_input, is_an_input_of, is_param, is_meant, is_named}
use Rattle.conn_graph.specs.Cells.{leaves, enters, target_form, edge_form}

-- a test that only connections of one sort pass looks at these alone
pub any_among : (test sort : Edge → Bool) → ((e : Edge) → test e ≡ true → sort e ≡ true) → (es : List Edge) → list_any test (filter sort es) ≡ list_any test es
any_among test sort only [] = refl
any_among test sort only (e ∷ es) = by_test (sort e) refl (any_among test sort only es)
  where
    fails : (b : Bool) → test e ≡ b → sort e ≡ false → list_any test es ≡ (b || list_any test es)
    fails true t l = let m = only e t in absurd cc
    fails false t l = refl

    by_test : (b : Bool) → sort e ≡ b → list_any test (filter sort es) ≡ list_any test es
        → list_any test (cond b (e ∷ filter sort es) (filter sort es)) ≡ (test e || list_any test es)
    by_test true l below = ap (λ b. test e || b) below
    by_test false l below = below ∙ fails (test e) refl l

pub any_named : (from : ℕ) (form : Form) (es : List Edge) → list_any (is_named from form) (filter (leaves from) es) ≡ list_any (is_named from form) es
any_named from form es = any_among (is_named from form) (leaves from) (λ e t. (and_parts (e.from.0 == from) (is_meant form e) t).0) es

-- ---- the form that names one connection alone

same_number : (a b : ℕ) → (a == b) ≡ (b == a)
same_number a b = by_test (a == b) (b == a) refl refl
  where
    by_test : (s t : Bool) → (a == b) ≡ s → (b == a) ≡ t → s ≡ t
    by_test true true p q = refl
    by_test true false p q = let k : (b == a) ≡ true = eq-eqb b a (sym (eqb-true a b p)) in absurd cc
    by_test false true p q = let k : (a == b) ≡ true = eq-eqb a b (sym (eqb-true b a q)) in absurd cc
    by_test false false p q = refl

and_shift : (a b c d e : Bool) → a ≡ d → b ≡ e → (a && (b && c)) ≡ (d && e && c)
and_shift a b c d e p q = to_left a ∙ ap₂ (λ x y. x && y && c) p q
  where
    to_left : (x : Bool) → (x && (b && c)) ≡ (x && b && c)
    to_left true = refl
    to_left false = refl

alone : (from output : ℕ) (to : Target) (a e : Edge) → a.from.0 ≡ from → a.output ≡ output → a.to ≡ to → is_named from (target_form output to) e ≡ (from == e.from.0 && output == e.output && same_target to e.to)
alone from output (Input node input) a e f o t = and_shift (e.from.0 == from) (e.output == output) (same_target (Input node input) e.to) (from == e.from.0) (output == e.output) (same_number e.from.0 from) (same_number e.output output)
alone from output (Param param) a e f o t = and_shift (e.from.0 == from) (e.output == output) (same_target (Param param) e.to) (from == e.from.0) (output == e.output) (same_number e.from.0 from) (same_number e.output output)

pub named_alone : (a e : Edge) → is_named a.from.0 (edge_form a) e ≡ same_edge a e
named_alone a e = alone a.from.0 a.output a.to a e refl refl refl

any_same_test : {X : Type 0} (p q : X → Bool) (xs : List X) → ((x : X) → p x ≡ q x) → list_any p xs ≡ list_any q xs
any_same_test p q [] same = refl
any_same_test p q (x ∷ xs) same = ap₂ (λ b c. b || c) (same x) (any_same_test p q xs same)

-- an identical connection is the one that its own form names
pub any_same : (a : Edge) (es : List Edge) → list_any (is_named a.from.0 (edge_form a)) es ≡ list_any (same_edge a) es
any_same a es = any_same_test _ _ es (named_alone a)

-- ---- the node to which the connections lead that a form names

input_enters : (n : ℕ) (t : Target) → is_an_input_of n t ≡ true → (target_node t == n) ≡ true
input_enters n (Input node input) h = h
input_enters n (Param param) h = absurd cc

place_enters : (n i : ℕ) (t : Target) → is_input n i t ≡ true → (target_node t == n) ≡ true
place_enters n i (Input node input) h = (and_parts (node.0 == n) (input == i) h).0
place_enters n i (Param param) h = absurd cc

param_enters : (p : ParamId) (t : Target) → is_param p t ≡ true → (target_node t == p.node.0) ≡ true
param_enters p (Input node input) h = absurd cc
param_enters p (Param param) h = (and_parts (param.node.0 == p.node.0) (same_name param.name p.name) h).0

pub entered : (form : Form) (node : ℕ) (e : Edge) → form_node form ≡ Some node → is_meant form e ≡ true → enters node e ≡ true
entered All node e f h = absurd cc
entered (Output output) node e f h = absurd cc
entered (Node n) node e f h = let same : n.0 ≡ node = cc in subst (λ k. enters k e ≡ true) same (input_enters n.0 e.to h)
entered (NodeOutput n output) node e f h = let same : n.0 ≡ node = cc in subst (λ k. enters k e ≡ true) same (input_enters n.0 e.to (and_parts (e.output == output) (is_an_input_of n.0 e.to) h).1)
entered (NodeOutputInput n output input) node e f h = let same : n.0 ≡ node = cc in subst (λ k. enters k e ≡ true) same (place_enters n.0 input e.to (and_parts (e.output == output) (is_input n.0 input e.to) h).1)
entered (form.Param p) node e f h = let same : p.node.0 ≡ node = cc in subst (λ k. enters k e ≡ true) same (param_enters p e.to h)
entered (ParamOutput p output) node e f h = let same : p.node.0 ≡ node = cc in subst (λ k. enters k e ≡ true) same (param_enters p e.to (and_parts (e.output == output) (is_param p e.to) h).1)

pub any_entering : (from : ℕ) (form : Form) (node : ℕ) (es : List Edge) → form_node form ≡ Some node → list_any (is_named from form) (filter (enters node) es) ≡ list_any (is_named from form) es
any_entering from form node es f = any_among (is_named from form) (enters node) (λ e t. entered form node e f (and_parts (e.from.0 == from) (is_meant form e) t).1) es
