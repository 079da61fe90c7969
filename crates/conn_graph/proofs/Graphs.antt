-- What holds of every graph is kept by every change.
use Rattle.std.proofs.Common.{ℕ, suc, ◌≡◌, ◌-◌, ◌^◌, ◌<◌, ◌≤◌, length, List, [], ◌∷◌, ◌++◌, slice_index_or, filter, Bool, true, false, cond, not, ◌&&◌, inl, inr, refl, sym, ◌∙◌, ap, arith, subst, eq-eqb}
use Rattle.std.specs.Prelude.{nat_lt, nat_le, ◌==◌, if◌then◌else◌, None, Some}
use Rattle.std.proofs.lemmas.Bool.Decides.{nat_tests}
use Rattle.wa_base.specs.declared.exceptions.Exc.TheVariants.{NotSupported, IndexSize}
use Rattle.wa_base.specs.declared.features.Feature.TheVariants.{ConnectionLimit}
use Rattle.std.proofs.lemmas.List.{get_or_append_left, length-append}
use Rattle.wa_base.specs.declared.graph_names.ParamName.{ParamName}
use Rattle.wa_base.specs.declared.graph_names.ParamName.TheVariants.{Offset, Gain, DelayTime, PlaybackRate, Detune}
use Rattle.law_base.specs.Members.{IsIn}
use Rattle.law_base.proofs.Members.{IsIn-filter, AreDistinct-filter, list_any-IsIn}
use Rattle.law_base.proofs.Tests.{and_both}
use Rattle.conn_graph.specs.declared.edges.Edge.{Edge}
use Rattle.conn_graph.specs.declared.edges.Ports.{Ports}
use Rattle.conn_graph.specs.declared.edges.Target.{Target}
use Rattle.conn_graph.specs.declared.edges.Target.TheVariants.{Input, Param}
use Rattle.conn_graph.specs.Edges.{same_name, same_target, same_edge, target_node}
use Rattle.conn_graph.specs.Graph.{Connections, no_ports, ports_at, with_node, with_edge, has_edge, lacks_input, connect_refusal, HasPlace, AreFrom, IsGraph}
use Rattle.conn_graph.proofs.Puts.{put, put_is, IsIn-put, AreDistinct-put, AreFrom-put, length-put}

ports_kept : (nodes : List Ports) (p : Ports) (i : ℕ) → i < length nodes → slice_index_or (nodes ++ p ∷ []) i no_ports ≡ slice_index_or nodes i no_ports
ports_kept nodes p i l = get_or_append_left nodes (p ∷ []) no_ports i l

input_kept : (g : Connections) (p : Ports) (t : Target) → target_node t < length g.nodes → lacks_input g t ≡ false → lacks_input (with_node g p) t ≡ false
input_kept g p (Input node input) l h = ap (λ (x : Ports). not (nat_lt input x.inputs)) (ports_kept g.nodes p node.0 l) ∙ h
input_kept g p (Param param) l h = refl

pub IsGraph-with_node : (g : Connections) (p : Ports) → IsGraph g → length g.nodes < 2 ^ 32 - 1 → IsGraph (with_node g p)
IsGraph-with_node g p h few = record {
  nodes = let l = length-append g.nodes (p ∷ []) in omega arith;
  places = λ e m. let k = h.places e m in let l = length-append g.nodes (p ∷ []) in record {
    from = let a = k.from in omega arith;
    output = subst (λ (x : Ports). e.output < x.outputs) (sym (ports_kept g.nodes p e.from.0 k.from)) k.output;
    to = let a = k.to in omega arith;
    input = input_kept g p e.to k.to k.input;
  };
  ordered = h.ordered;
  once = h.once;
  few = h.few;
}

same_number : (a : ℕ) → (a == a) ≡ true
same_number a = eq-eqb a a refl

same_name-refl : (n : ParamName) → same_name n n ≡ true
same_name-refl Offset = refl
same_name-refl Gain = refl
same_name-refl DelayTime = refl
same_name-refl PlaybackRate = refl
same_name-refl Detune = refl

same_target-refl : (t : Target) → same_target t t ≡ true
same_target-refl (Input node input) = and_both _ _ (same_number node.0) (same_number input)
same_target-refl (Param param) = and_both _ _ (same_number param.node.0) (same_name-refl param.name)

pub same_edge-refl : (e : Edge) → same_edge e e ≡ true
same_edge-refl e = and_both _ _ (and_both _ _ (same_number e.from.0) (same_number e.output)) (same_target-refl e.to)

-- a connection with no identical one is not in the list
pub is_new : (g : Connections) (e : Edge) → has_edge g e ≡ false → IsIn e g.edges → ⊥
is_new g e h m = let k : has_edge g e ≡ true = list_any-IsIn (same_edge e) g.edges e m (same_edge-refl e) in absurd cc

pub IsGraph-with_edge : (g : Connections) (e : Edge) → IsGraph g → HasPlace g e → has_edge g e ≡ false → length g.edges < 8192 → IsGraph (record g { edges = with_edge g.edges e })
IsGraph-with_edge g e h place fresh room = subst (λ xs. IsGraph (record g { edges = xs })) (put_is 0 g.edges e h.ordered) (record {
  nodes = h.nodes;
  places = λ x m. elim (IsIn-put g.edges e x m) [
    | inl same ↦ let k : HasPlace g x = subst (HasPlace g) (sym same) place in record { from = k.from; output = k.output; to = k.to; input = input_same x.to k.input }
    | inr k ↦ let k : HasPlace g x = h.places x k in record { from = k.from; output = k.output; to = k.to; input = input_same x.to k.input }
  ];
  ordered = AreFrom-put 0 g.edges e (omega arith) h.ordered;
  once = AreDistinct-put g.edges e (is_new g e fresh) h.once;
  few = let l = length-put g.edges e in omega arith;
})
  where
    input_same : (t : Target) → lacks_input g t ≡ false → lacks_input (record g { edges = put g.edges e }) t ≡ false
    input_same (Input node input) k = k
    input_same (Param param) k = k

from_low : (low high : ℕ) (es : List Edge) → low ≤ high → AreFrom high es → AreFrom low es
from_low low high [] l h = tt
from_low low high (e ∷ es) l h = (let k = h.0 in omega arith, h.1)

AreFrom-filter : (p : Edge → Bool) (low : ℕ) (es : List Edge) → AreFrom low es → AreFrom low (filter p es)
AreFrom-filter p low [] h = tt
AreFrom-filter p low (e ∷ es) h = by_test (p e) (AreFrom-filter p e.from.0 es h.1)
  where
    by_test : (b : Bool) → AreFrom e.from.0 (filter p es) → AreFrom low (cond b (e ∷ filter p es) (filter p es))
    by_test true k = (h.0, k)
    by_test false k = from_low low e.from.0 (filter p es) h.0 k

pub length-filter_low : (p : Edge → Bool) (es : List Edge) → length (filter p es) ≤ length es
length-filter_low p [] = omega arith
length-filter_low p (e ∷ es) = by_test (p e) (length-filter_low p es)
  where
    by_test : (b : Bool) → length (filter p es) ≤ length es → length (cond b (e ∷ filter p es) (filter p es)) ≤ suc (length es)
    by_test true l = omega arith
    by_test false l = omega arith

pub IsGraph-filter : (g : Connections) (p : Edge → Bool) → IsGraph g → IsGraph (record g { edges = filter p g.edges })
IsGraph-filter g p h = record {
  nodes = h.nodes;
  places = λ x m. let k : HasPlace g x = h.places x (IsIn-filter p g.edges x m).0 in record { from = k.from; output = k.output; to = k.to; input = input_same x.to k.input };
  ordered = AreFrom-filter p 0 g.edges h.ordered;
  once = AreDistinct-filter p g.edges h.once;
  few = let l = length-filter_low p g.edges in let k = h.few in omega arith;
}
  where
    input_same : (t : Target) → lacks_input g t ≡ false → lacks_input (record g { edges = filter p g.edges }) t ≡ false
    input_same (Input node input) k = k
    input_same (Param param) k = k

-- a connection that is not refused has its place, and there is room for a new one
pub allowed : (g : Connections) (e : Edge) → e.from.0 < length g.nodes → target_node e.to < length g.nodes → connect_refusal g e ≡ None
    → HasPlace g e × (has_edge g e ≡ false → length g.edges < 8192)
allowed g e from to h = by_output (nat_lt e.output (ports_at g e.from.0).outputs) refl h
  where
    by_room : (b c : Bool) → has_edge g e ≡ b → nat_le 8192 (length g.edges) ≡ c → (if not b && c then Some (NotSupported (Some ConnectionLimit)) else None) ≡ None → has_edge g e ≡ false → length g.edges < 8192
    by_room true c is few none new = absurd cc
    by_room false true is few none new = absurd cc
    by_room false false is few none new = grind (arith, nat_tests)

    by_input : (b : Bool) → lacks_input g e.to ≡ b → e.output < (ports_at g e.from.0).outputs
        → (if b then Some IndexSize else if not (has_edge g e) && nat_le 8192 (length g.edges) then Some (NotSupported (Some ConnectionLimit)) else None) ≡ None
        → HasPlace g e × (has_edge g e ≡ false → length g.edges < 8192)
    by_input true lacks output none = absurd cc
    by_input false lacks output none = (record { from = from; output = output; to = to; input = lacks }, by_room (has_edge g e) (nat_le 8192 (length g.edges)) refl refl none)

    by_output : (b : Bool) → nat_lt e.output (ports_at g e.from.0).outputs ≡ b
        → (if not b then Some IndexSize else if lacks_input g e.to then Some IndexSize else if not (has_edge g e) && nat_le 8192 (length g.edges) then Some (NotSupported (Some ConnectionLimit)) else None) ≡ None
        → HasPlace g e × (has_edge g e ≡ false → length g.edges < 8192)
    by_output false fits none = absurd cc
    by_output true fits none = by_input (lacks_input g e.to) refl (grind (arith, nat_tests)) none
