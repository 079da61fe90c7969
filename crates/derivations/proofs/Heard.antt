-- Which keys the output of a node reads, by the kind of its node.
use Rattle.std.proofs.Common.{ℕ, ◌≡◌, ◌/◌, ◌<◌, length, List, [], ◌∷◌, true, false, inl, inr, refl, sym, ◌∙◌, ap, subst, arith}
use Rattle.std.specs.Prelude.{if◌then◌else◌, unsigned_abs, Option, None, Some, IfSome, IfNone}
use Rattle.wa_base.specs.declared.graph_names.End.{End}
use Rattle.wa_base.specs.declared.graph_names.NodeId.{NodeId}
use Rattle.wa_base.specs.declared.graph_names.ParamName.{ParamName}
use Rattle.node_table.specs.Kinds.{inputs, is_delay_kind, param_name}
use Rattle.node_table.specs.declared.kinds.Kind.TheVariants.{Merger}
use Rattle.conn_graph.specs.Ends.{muted}
use Rattle.conn_graph.proofs.EndLaws.{end_is}
use Rattle.meaning.specs.declared.world.World.{World}
use Rattle.meaning.specs.World.{sounding, kind_of}
use Rattle.meaning.specs.Validity.{IsJoined}
use Rattle.meaning.specs.Counts.{count, count_rule, counts_before, count_by_kind}
use Rattle.meaning.specs.Values.{world_at}
use Rattle.meaning.proofs.Joined.{joined_in}
use Rattle.meaning.proofs.Seeing.{plain_end, writer_end}
use Rattle.explain.specs.declared.facts.Key.{Key}
use Rattle.explain.specs.declared.facts.Key.TheVariants.{Count, Inlet, Par}
use Rattle.explain.specs.declared.facts.Fact.{Fact}
use Rattle.explain.specs.Accounts.{Account, meant}
use Rattle.explain.specs.Facts.{HasOutput, IsKeyOf}
use Rattle.explain.specs.Checked.{AllHold, Stands}
use Rattle.explain.proofs.Soundness.{meaning_solves}
use Rattle.derivations.specs.Heard.{HasParam}
use Rattle.derivations.specs.Searches.{IsReady, AreKnown, IsMissing}
use Rattle.derivations.proofs.Knowing.{in_meaning}
use Rattle.derivations.proofs.Leading.{known_as, missing_as}

-- lists of one key and of two
module _ (q : ℕ) (tape : List World) (facts : List Fact) where
  pub first_of_two : (x y k : Key) → IsMissing q tape facts (λ a. x ∷ []) k → IsMissing q tape facts (λ a. x ∷ y ∷ []) k
  first_of_two x y k missing = record { needed = λ a all. elim (missing.needed a all) [ inl same ↦ inl same | inr none ↦ absurd none ]; absent = missing.absent; key = missing.key }

  pub second_of_two : (x y k : Key) → IsMissing q tape facts (λ a. y ∷ []) k → IsMissing q tape facts (λ a. x ∷ y ∷ []) k
  second_of_two x y k missing = record { needed = λ a all. inr (missing.needed a all); absent = missing.absent; key = missing.key }

  pub single_known : (x : Key) → Stands x facts → AreKnown q tape facts (λ a. x ∷ [])
  single_known x stands a all k (inl same) = subst (λ y. Stands y facts) (sym same) stands
  single_known x stands a all k (inr none) = absurd none

  pub two_known : (x y : Key) → Stands x facts → Stands y facts → AreKnown q tape facts (λ a. x ∷ y ∷ [])
  two_known x y first second a all k (inl same) = subst (λ z. Stands z facts) (sym same) first
  two_known x y first second a all k (inr h) = single_known y second a all k h

  pub single_missing : (x : Key) → (Stands x facts → ⊥) → IsKeyOf q tape x → IsMissing q tape facts (λ a. x ∷ []) x
  single_missing x absent key = record { needed = λ a all. inl refl; absent = absent; key = key }

-- an input of an end that has an output
module _ (q : ℕ) (tape : List World) (facts : List Fact) (ready : IsReady q tape facts) (f : ℕ) (e : End) (o : ℕ) (short : f / q < length tape) (has : HasOutput (world_at q tape f) e o)
    (sizes : length (world_at q tape f).graph.value.nodes ≡ length (world_at q tape f).nodes) where
  abbrev w : World
  w = world_at q tape f

  joined : IsJoined w
  joined = joined_in tape ready.regular.valid (f / q)

  pub node_low : e.node.0 < length w.nodes
  node_low = subst (λ k. e.node.0 < k) sizes (end_is w.graph.value e has.end).0

  -- of a node that is no delay, and of the writer of a delay
  pub plain_inlet : (i c : ℕ) → is_delay_kind (kind_of w e.node.0) ≡ false → i < inputs (kind_of w e.node.0) → c < 32 → IsKeyOf q tape (Inlet f e i c)
  plain_inlet i c plain low few = record { quantum = short; place = (record { node = node_low; end = plain_end w joined e has.end plain; input = low }, few) }

  pub writer_inlet : (i c : ℕ) → is_delay_kind (kind_of w e.node.0) ≡ true → e.writer ≡ true → i < inputs (kind_of w e.node.0) → c < 32 → IsKeyOf q tape (Inlet f e i c)
  writer_inlet i c delay writer low few = record { quantum = short; place = (record { node = node_low; end = writer_end w joined e delay writer; input = low }, few) }

  -- a merger that is not muted has as many channels as inputs
  pub merger_low : (ports c : ℕ) → kind_of w e.node.0 ≡ Merger ports → muted w.graph.value e ≡ false → ((a : Account) → AllHold q tape a facts → c < a.counts (f / q) e) → c < ports
  unfolding count_rule
  merger_low ports c is loud low =
      let here = low (meant q tape) (in_meaning q tape facts ready) in
      let key : IsKeyOf q tape (Count (f / q) e o) = record { quantum = short; place = has } in
      let rule : count_rule q w (f / q) (counts_before q tape (f / q)) (count q tape (f / q)) e ≡ ports =
      ap (λ b. if b then 1 else count_by_kind q w (f / q) (counts_before q tape (f / q)) (count q tape (f / q)) (kind_of w e.node.0) e) loud
      ∙ ap (λ k. count_by_kind q w (f / q) (counts_before q tape (f / q)) (count q tape (f / q)) k e) is in
      let solved = ap (λ (x : Fact). unsigned_abs x.value) (meaning_solves q ready.some tape ready.regular (Count (f / q) e o) key) in
      let many : count q tape (f / q) e ≡ ports = sym solved ∙ rule in
      omega (arith, here, many)

-- ---- an answer of a look-up of one key

pub record IsAnswer (q : ℕ) (tape : List World) (facts : List Fact) (keys : Account → List Key) (o : Option Key) : Type 0 where
  pub none : IfNone o (AreKnown q tape facts keys)
  pub some : IfSome o (IsMissing q tape facts keys)

pub single_answer : (q : ℕ) (tape : List World) (facts : List Fact) (keys : Account → List Key) (x : Key) → ((a : Account) → x ∷ [] ≡ keys a) → IsKeyOf q tape x
    → (o : Option Key) → IfNone o (Stands x facts) → IfSome o (λ k. (k ≡ x) × (Stands x facts → ⊥)) → IsAnswer q tape facts keys o
single_answer q tape facts keys x same key None none some = record { none = known_as q tape facts (λ a. x ∷ []) keys same (single_known q tape facts x none); some = tt }
single_answer q tape facts keys x same key (Some k) none some = record {
  none = tt;
  some = subst (IsMissing q tape facts keys) (sym some.0) (missing_as q tape facts (λ a. x ∷ []) keys same x (single_missing q tape facts x some.1 key));
}

-- a parameter that a node has
pub param_of : (q : ℕ) (tape : List World) (f : ℕ) (node : NodeId) (name : ParamName) (w : World) → f / q < length tape → world_at q tape f ≡ sounding w → HasParam w node.0 name → IsKeyOf q tape (Par f node name)
param_of q tape f node name w short is has = record {
  quantum = short;
  place = subst (λ (x : World). (node.0 < length x.nodes) × (param_name (kind_of x node.0) ≡ Some name)) (sym is) (has.node, has.named);
}
