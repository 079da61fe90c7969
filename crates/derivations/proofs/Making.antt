-- What the output of an end needs, by the kind of its node in the world that is in force.
use Rattle.std.proofs.Common.{ℕ, ℤ, ◌≡◌, ◌/◌, ◌<◌, length, List, [], ◌∷◌, take, true, false, Some, sym, ◌∙◌, ap, subst, arith}
use Rattle.std.specs.Prelude.{if◌then◌else◌, Option, None, IfSome, IfNone, option_map}
use Rattle.wa_base.specs.declared.graph_names.End.{End}
use Rattle.wa_base.specs.declared.graph_names.ParamName.{ParamName}
use Rattle.wa_base.specs.declared.graph_names.ParamName.TheVariants as param
use Rattle.law_base.specs.Members.{IsIn}
use Rattle.node_table.specs.Kinds.{row, inputs, outputs, is_delay_kind, param_name}
use Rattle.node_table.specs.Rows.{is_written}
use Rattle.node_table.specs.declared.kinds.Kind.{Kind}
use Rattle.node_table.specs.declared.kinds.Kind.TheVariants.{Constant, Buffer, Delay, Splitter, Merger}
use Rattle.node_table.specs.declared.rows.ParamRow.{ParamRow}
use Rattle.conn_graph.specs.Ends.{ends, muted}
use Rattle.conn_graph.proofs.EndLaws.{end_is}
use Rattle.meaning.specs.declared.world.World.{World}
use Rattle.meaning.specs.World.{sounding, kind_of, sounds_at}
use Rattle.meaning.specs.Validity.{IsValid}
use Rattle.meaning.specs.Values.{taken_from, world_at}
use Rattle.meaning.proofs.NodeKinds.{row_there}
use Rattle.explain.specs.declared.facts.Key.{Key}
use Rattle.explain.specs.declared.facts.Key.TheVariants.{Inlet, Par, Hist}
use Rattle.explain.specs.declared.facts.Fact.{Fact}
use Rattle.explain.specs.Accounts.{Account}
use Rattle.explain.specs.Facts.{has_history, HasOutput, IsKeyOf}
use Rattle.explain.specs.Needs.{output_by_kind, delayed_needs}
use Rattle.explain.specs.Checked.{AllHold, Stands}
use Rattle.derivations.specs.declared.tape.Stretch.{Stretch}
use Rattle.derivations.specs.Groups.{delayed_keys, delay_keys}
use Rattle.derivations.specs.Heard.{IsEffect, HasParam}
use Rattle.derivations.specs.Searches.{IsReady, AreKnown}
use Rattle.derivations.specs.Stretches.{IsInForce}
use Rattle.derivations.proofs.Heard.{plain_inlet, writer_inlet, merger_low, IsAnswer, single_answer}
use Rattle.derivations.proofs.Leading.{known_as, nothing_known}
use Rattle.derivations.proofs.Worlds.{world_is, valid_there, nodes_are}

module _ (q : ℕ) (tape : List World) (facts : List Fact) (ready : IsReady q tape facts) (f : ℕ) (e : End) (o c : ℕ) (short : f / q < length tape) (s : Stretch) (force : IsInForce tape (f / q) s)
    (has : HasOutput (world_at q tape f) e o) where
  is : world_at q tape f ≡ sounding s.piece.world
  is = world_is tape (f / q) s.piece.world force.there

  pub valid : IsValid s.piece.world
  valid = valid_there tape ready.regular.valid (f / q) s.piece.world force.there

  sizes : length (world_at q tape f).graph.value.nodes ≡ length (world_at q tape f).nodes
  sizes = subst (λ (w : World). length w.graph.value.nodes ≡ length w.nodes) (sym is) (nodes_are s.piece.world valid)

  pub end_in : IsIn e (ends s.piece.world.graph.value)
  end_in = subst (λ (w : World). IsIn e (ends w.graph.value)) is has.end

  -- its node is there
  pub node_in : e.node.0 < length s.piece.world.nodes
  node_in = subst (λ k. e.node.0 < k) (nodes_are s.piece.world valid) (end_is s.piece.world.graph.value e end_in).0

  pub node_there : e.node.0 < length (world_at q tape f).nodes
  node_there = subst (λ (w : World). e.node.0 < length w.nodes) (sym is) node_in

  pub kind_there : kind_of (world_at q tape f) e.node.0 ≡ kind_of s.piece.world e.node.0
  kind_there = ap (λ (w : World). kind_of w e.node.0) is

  -- an output is one of 32
  pub output_few : o < 32
  output_few =
      let low : o < outputs (kind_of s.piece.world e.node.0) = subst (λ k. o < outputs k) kind_there has.output in
      let few = (row_there s.piece.world valid e.node.0).outputs in
      omega (arith, low, few)

  abbrev keys : Account → List Key
  keys a = output_by_kind q tape a f e o c (kind_of s.piece.world e.node.0)

  module _ (kind : Kind) (same : kind_of s.piece.world e.node.0 ≡ kind) where
    there : kind_of (world_at q tape f) e.node.0 ≡ kind
    there = kind_there ∙ same

    pub by_kind : (a : Account) → output_by_kind q tape a f e o c kind ≡ keys a
    by_kind a = sym (ap (output_by_kind q tape a f e o c) same)

    -- ---- keys that its kind has

    pub inlet_key : is_delay_kind kind ≡ false → (i d : ℕ) → i < inputs kind → d < 32 → IsKeyOf q tape (Inlet f e i d)
    inlet_key plain i d low few =
        plain_inlet q tape facts ready f e o short has sizes i d (ap is_delay_kind there ∙ plain) (subst (λ k. i < inputs k) (sym there) low) few

    pub written_key : is_delay_kind kind ≡ true → e.writer ≡ true → (d : ℕ) → 0 < inputs kind → d < 32 → IsKeyOf q tape (Inlet f e 0 d)
    written_key delay writer d low few =
        writer_inlet q tape facts ready f e o short has sizes 0 d (ap is_delay_kind there ∙ delay) writer (subst (λ k. 0 < inputs k) (sym there) low) few

    pub param_key : (name : ParamName) → param_name kind ≡ Some name → IsKeyOf q tape (Par f e.node name)
    param_key name named = record { quantum = short; place = (node_there, ap param_name there ∙ named) }

    pub history_key : has_history kind ≡ true → (d : ℕ) → d < 32 → IsKeyOf q tape (Hist f e.node d)
    history_key history d few = record { quantum = short; place = (node_there, ap has_history there ∙ history, few) }

    -- where it needs one key, a look-up of that is the answer
    pub by_single : (y : Key) → ((a : Account) → y ∷ [] ≡ output_by_kind q tape a f e o c kind) → IsKeyOf q tape y
        → (x : Key) → x ≡ y → (r : Option Key) → IfNone r (Stands x facts) → IfSome r (λ k. (k ≡ x) × (Stands x facts → ⊥)) → IsAnswer q tape facts keys r
    by_single y one key x made r none some =
        single_answer q tape facts keys x (λ a. ap (λ z. z ∷ []) made ∙ one a ∙ by_kind a) (subst (IsKeyOf q tape) (sym made) key) r none some

  -- ---- by what its kind needs

  -- a constant needs its value where it sounds
  pub offset_needs : (offset : ℤ) → kind_of s.piece.world e.node.0 ≡ Constant offset → (a : Account)
      → (if sounds_at (sounding s.piece.world) e.node.0 f then Par f e.node param.Offset ∷ [] else []) ≡ keys a
  offset_needs offset same a = ap (λ (w : World). if sounds_at w e.node.0 f then Par f e.node param.Offset ∷ [] else []) (sym is) ∙ by_kind (Constant offset) same a

  -- a buffer needs nothing
  pub buffer_known : (rate : ℕ) → kind_of s.piece.world e.node.0 ≡ Buffer rate → AreKnown q tape facts keys
  buffer_known rate same = known_as q tape facts (λ a. []) keys (by_kind (Buffer rate) same) (nothing_known q tape facts)

  -- a delay needs what its writer takes in, or what it gives later
  module _ (longest time : ℤ) (capacity : ℕ) (same : kind_of s.piece.world e.node.0 ≡ Delay longest time capacity) where
    pub delay_is : is_delay_kind (kind_of s.piece.world e.node.0) ≡ true
    delay_is = ap is_delay_kind same

    pub written_needs : e.writer ≡ true → (a : Account) → Inlet f e 0 c ∷ [] ≡ output_by_kind q tape a f e o c (Delay longest time capacity)
    written_needs writer a = sym (ap (λ b. if b then Inlet f e 0 c ∷ [] else delayed_needs q tape a f e.node.0) writer)

    module _ (reader : e.writer ≡ false) where
      pub reader_needs : (a : Account) → delayed_needs q tape a f e.node.0 ≡ keys a
      reader_needs a = sym (ap (λ b. if b then Inlet f e 0 c ∷ [] else delayed_needs q tape a f e.node.0) reader) ∙ by_kind (Delay longest time capacity) same a

      later : (a : Account) → delay_keys q tape a f e (kind_of s.piece.world e.node.0) ≡ delayed_keys q tape a f e.node.0
      later a = ap (delay_keys q tape a f e) same ∙ ap (λ b. if b then [] else delayed_keys q tape a f e.node.0) reader

      pub reader_before : (item : ℕ) → AreKnown q tape facts (λ a. take item (delay_keys q tape a f e (kind_of s.piece.world e.node.0))) → AreKnown q tape facts (λ a. take item (delayed_keys q tape a f e.node.0))
      reader_before item = known_as q tape facts (λ a. take item (delay_keys q tape a f e (kind_of s.piece.world e.node.0))) (λ a. take item (delayed_keys q tape a f e.node.0)) (λ a. ap (take item) (later a))

      pub reader_after : (item : ℕ) → AreKnown q tape facts (λ a. take item (delayed_keys q tape a f e.node.0)) → AreKnown q tape facts (λ a. take item (delay_keys q tape a f e (kind_of s.piece.world e.node.0)))
      reader_after item = known_as q tape facts (λ a. take item (delayed_keys q tape a f e.node.0)) (λ a. take item (delay_keys q tape a f e (kind_of s.piece.world e.node.0))) (λ a. sym (ap (take item) (later a)))

  -- all others need their parameter, and then a channel of their input
  module _ (kind : Kind) (same : kind_of s.piece.world e.node.0 ≡ kind) (effect : IsEffect kind) where
    abbrev pub taken : Key
    taken = Inlet f e (taken_from kind o c).0 (taken_from kind o c).1

    pub level_key : (param : Option ParamRow) → (row kind).param ≡ param → IfSome param (λ row. HasParam (world_at q tape f) e.node.0 row.name)
    level_key None same_param = tt
    level_key (Some row) same_param = record { node = node_there; named = ap param_name (there kind same) ∙ ap (option_map (λ r. r.name)) same_param }

    module _ (loud : muted (world_at q tape f).graph.value e ≡ false) (low : (a : Account) → AllHold q tape a facts → c < a.counts (f / q) e) (few : c < 32) where
      -- of a merger that is not muted it has no more channels than inputs
      taken_low : (k : Kind) → kind_of s.piece.world e.node.0 ≡ k → (row k).plays ≡ None → ((taken_from k o c).0 < inputs k) × ((taken_from k o c).1 < 32)
      taken_low (Constant offset) is none = absurd cc
      taken_low (Buffer rate) is none = absurd cc
      taken_low (Splitter ports) is none = (omega arith, output_few)
      taken_low (Merger ports) is none = (merger_low q tape facts ready f e o short has sizes ports c (kind_there ∙ is) loud low, omega arith)
      taken_low other is none = (omega arith, few)

      taken_key : IsKeyOf q tape taken
      taken_key = let are = taken_low kind same effect.plays in inlet_key kind same (ap is_written effect.keeps) (taken_from kind o c).0 (taken_from kind o c).1 are.0 are.1

      pub taken_answer : (x : Key) → x ≡ taken → (r : Option Key) → IfNone r (Stands x facts) → IfSome r (λ k. (k ≡ x) × (Stands x facts → ⊥)) → IsAnswer q tape facts (λ a. taken ∷ []) r
      taken_answer x made r none some = single_answer q tape facts (λ a. taken ∷ []) x (λ a. ap (λ z. z ∷ []) made) (subst (IsKeyOf q tape) (sym made) taken_key) r none some
