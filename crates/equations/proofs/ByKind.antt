-- What an output needs and carries, by the kind of its node.
use Rattle.std.proofs.Common.{ℕ, ℤ, pos, ◌≡◌, List, [], ◌∷◌, Bool, true, false, Option, inl, inr, refl, sym, ◌∙◌, ap, subst}
use Rattle.std.specs.Prelude.{if◌then◌else◌, ◌⊎◌}
use Rattle.wa_base.specs.declared.graph_names.End.{End}
use Rattle.wa_base.specs.declared.graph_names.ParamName.TheVariants as param
use Rattle.law_base.specs.Members.{IsIn}
use Rattle.node_table.specs.declared.equation.Equation.{Equation}
use Rattle.node_table.specs.declared.kinds.Kind.{Kind}
use Rattle.node_table.specs.declared.kinds.Kind.TheVariants.{Constant, Delay, Shaper, Causal}
use Rattle.meaning.specs.World.{kind_of, param_id, sounds_at}
use Rattle.meaning.specs.Values.{value_by_kind, input_value, computed_value, delayed}
use Rattle.explain.specs.declared.facts.Key.{Key}
use Rattle.explain.specs.declared.facts.Key.TheVariants.{Inlet, Par, Hist}
use Rattle.explain.specs.Facts.{has_history}
use Rattle.explain.specs.Needs.{output_by_kind, delayed_needs}
use Rattle.derivations.specs.declared.places.Context.{Context}
use Rattle.derivations.specs.Contexts.{tape_in, world_of, StandsIn}
use Rattle.equations.specs.Given.{meaning_of, AllKnown, frame_of, frames_before}

module _ (x : Context) (f : ℕ) (e : End) (o c : ℕ) where
  abbrev pub carried_by : Kind → ℤ
  carried_by y = value_by_kind x.quantum f (frames_before x f) (frame_of x f) y e o c

  abbrev pub needed_by : Kind → Type 0
  needed_by y = AllKnown x (output_by_kind x.quantum (tape_in x) (meaning_of x) f e o c y)

  pub value_as : (k : Kind) → kind_of (world_of x f) e.node.0 ≡ k → (v : ℤ) → v ≡ carried_by k → v ≡ carried_by (kind_of (world_of x f) e.node.0)
  value_as k same v is = is ∙ sym (ap carried_by same)

  pub known_as : (k : Kind) → kind_of (world_of x f) e.node.0 ≡ k → needed_by (kind_of (world_of x f) e.node.0) → needed_by k
  known_as k same known = subst needed_by same known

-- a constant source, where it sounds, and where it does not
module _ (x : Context) (f : ℕ) (e : End) (o c : ℕ) (offset : ℤ) (same : kind_of (world_of x f) e.node.0 ≡ Constant offset) where
  abbrev by_sound : Bool → ℤ
  by_sound t = if t then computed_value x.quantum f (frames_before x f) (frame_of x f) (param_id e.node.0 param.Offset) else pos 0

  pub sounding_known : sounds_at (world_of x f) e.node.0 f ≡ true → needed_by x f e o c (kind_of (world_of x f) e.node.0) → StandsIn x (Par f e.node param.Offset)
  sounding_known on known =
      let k : Key = Par f e.node param.Offset in
      known_as x f e o c (Constant offset) same known k (subst (λ t. IsIn k (if t then k ∷ [] else [])) (sym on) (inl refl))

  pub value_sounding : sounds_at (world_of x f) e.node.0 f ≡ true → (v : ℤ) → v ≡ by_sound true → v ≡ carried_by x f e o c (kind_of (world_of x f) e.node.0)
  value_sounding on v is = value_as x f e o c (Constant offset) same v (is ∙ sym (ap by_sound on))

  pub value_silent : sounds_at (world_of x f) e.node.0 f ≡ false → pos 0 ≡ carried_by x f e o c (kind_of (world_of x f) e.node.0)
  value_silent off = value_as x f e o c (Constant offset) same (pos 0) (sym (ap by_sound off))

-- a delay, by the end that is asked
module _ (x : Context) (f : ℕ) (e : End) (o c : ℕ) (longest time : ℤ) (capacity : ℕ) (same : kind_of (world_of x f) e.node.0 ≡ Delay longest time capacity) where
  abbrev by_end : Bool → ℤ
  by_end t = if t then input_value (frame_of x f) e.node.0 0 c else delayed x.quantum f (frames_before x f) (frame_of x f) e.node.0 c

  abbrev needs_by_end : Bool → List Key
  needs_by_end t = if t then Inlet f e 0 c ∷ [] else delayed_needs x.quantum (tape_in x) (meaning_of x) f e.node.0

  pub writer_known : e.writer ≡ true → needed_by x f e o c (kind_of (world_of x f) e.node.0) → StandsIn x (Inlet f e 0 c)
  writer_known writer known =
      let k : Key = Inlet f e 0 c in
      known_as x f e o c (Delay longest time capacity) same known k (subst (λ t. IsIn k (needs_by_end t)) (sym writer) (inl refl))

  pub reader_known : e.writer ≡ false → needed_by x f e o c (kind_of (world_of x f) e.node.0) → AllKnown x (delayed_needs x.quantum (tape_in x) (meaning_of x) f e.node.0)
  reader_known reader known k h = known_as x f e o c (Delay longest time capacity) same known k (subst (λ t. IsIn k (needs_by_end t)) (sym reader) h)

  pub value_writer : e.writer ≡ true → (v : ℤ) → v ≡ by_end true → v ≡ carried_by x f e o c (kind_of (world_of x f) e.node.0)
  value_writer writer v is = value_as x f e o c (Delay longest time capacity) same v (is ∙ sym (ap by_end writer))

  pub value_reader : e.writer ≡ false → (v : ℤ) → v ≡ by_end false → v ≡ carried_by x f e o c (kind_of (world_of x f) e.node.0)
  value_reader reader v is = value_as x f e o c (Delay longest time capacity) same v (is ∙ sym (ap by_end reader))

-- a node that makes its output of all that it took in
abbrev pub HearsAll : Kind → Type 0
HearsAll k = ((curve : Option (List ℤ)) × (was_set : Bool) × (k ≡ Shaper curve was_set)) ⊎ ((equation : Equation) × (k ≡ Causal equation))

pub hears_all : (k : Kind) → HearsAll k → has_history k ≡ true
hears_all k (inl (curve, was_set, is)) = ap has_history is
hears_all k (inr (equation, is)) = ap has_history is

pub history_known : (x : Context) (f : ℕ) (e : End) (o c : ℕ) (k : Kind) → kind_of (world_of x f) e.node.0 ≡ k → HearsAll k → needed_by x f e o c (kind_of (world_of x f) e.node.0) → StandsIn x (Hist f e.node c)
history_known x f e o c k same (inl (curve, was_set, is)) known = known_as x f e o c (Shaper curve was_set) (same ∙ is) known (Hist f e.node c) (inl refl)
history_known x f e o c k same (inr (equation, is)) known = known_as x f e o c (Causal equation) (same ∙ is) known (Hist f e.node c) (inl refl)
