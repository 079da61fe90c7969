-- What a call comes to in the whole where it is not heard: an edit of a node that is not kept, or nothing.
use Rattle.std.proofs.Common.{ℕ, ◌≡◌, List, [], ◌∷◌, Bool, true, false, Option, None, Some, ◌⊎◌, inl, inr, refl, sym, ◌∙◌, ap}
use Rattle.std.specs.Prelude.{if◌then◌else◌}
use Rattle.std.specs.List.{filter_map}
use Rattle.wa_base.specs.declared.exceptions.Exc.{Exc}
use Rattle.wa_base.specs.declared.exceptions.Exc.TheVariants.{WrongType}
use Rattle.wa_base.specs.declared.graph_names.BufId.{BufId}
use Rattle.wa_base.specs.declared.graph_names.NodeId.{NodeId}
use Rattle.wa_base.specs.declared.graph_names.ParamId.{ParamId}
use Rattle.transcript.specs.declared.lines.Answer.TheVariants as answer
use Rattle.script_ast.specs.declared.call_list.Call.{Call}
use Rattle.script_ast.specs.declared.operations.Oversample.{Oversample}
use Rattle.meaning.specs.declared.change.Edit.{Edit}
use Rattle.meaning.specs.declared.change.Edit.TheVariants as edit
use Rattle.meaning.specs.declared.sources.SourceEdit.TheVariants as source
use Rattle.meaning.specs.Changes.{refusal}
use Rattle.meaning.specs.World.{kind_of}
use Rattle.prune_script.specs.Pruned.{node_named as creator_named}
use Rattle.control_side.specs.declared.decide.Decided.{Decided}
use Rattle.control_side.specs.declared.decide.Decided.TheVariants as comes_to
use Rattle.control_side.specs.Machine.{Machine}
use Rattle.control_side.specs.Deciding.{node_named, buffer_named, refused, unless, edits, edits_node, edits_nodes, by_buffer, with_buffer, sets_buffer}
use Rattle.control_side.specs.Params.{param_at, param_of_kind, param_named, on_param, name_refusal, leads, lead_refusal, unless_refused}
use Rattle.control_side.specs.Shapers.{sets_oversample, is_shaper, oversample_refusal}
use Rattle.prune.proofs.Flags.{Flags, is_kept}
use Rattle.prune.proofs.Without.{IsUnheardEdit}
use Rattle.prune_top.proofs.Alike.{AreAlike, names_dead, dead_first, dead_one, creators_of_two}
use Rattle.prune_top.proofs.Heard.{its_node}

-- an edit that is not heard, or an answer
abbrev pub IsUnheard : Flags → Machine → Decided → Type 0
IsUnheard fs whole (comes_to.Answer said) = Unit {0}
IsUnheard fs whole comes_to.Start = ⊥
IsUnheard fs whole (comes_to.Suspend frame) = ⊥
IsUnheard fs whole comes_to.Resume = ⊥
IsUnheard fs whole (comes_to.Change e) = IsUnheardEdit fs whole.world e

module _ (fs : Flags) (live : ℕ → Bool) (place : ℕ → ℕ) (earlier : List Call) (whole part : Machine) (alike : AreAlike fs live place earlier whole part) where
  abbrev Unheard : Decided → Type 0
  Unheard = IsUnheard fs whole

  abbrev Dead : List (List ℕ) → Bool
  Dead = names_dead fs live place earlier whole part alike

  pub refused_or : (r : Option Exc) (d : Decided) → Unheard d → Unheard (unless_refused r d)
  refused_or None d un = un
  refused_or (Some exception) d un = tt

  pub edits_unheard : (e : Edit) → IsUnheardEdit fs whole.world e → Unheard (edits whole e)
  edits_unheard e un = by_refusal (refusal whole.world whole.context.time e)
    where
      by_refusal : (r : Option Exc) → Unheard (unless r e)
      by_refusal None = un
      by_refusal (Some exception) = tt

  -- what is done where a name stands for a node
  pub node_found : (name : List ℕ) (what : Option NodeId → Decided) → Unheard (what None) → ((n : NodeId) → node_named whole name ≡ Some n → Unheard (what (Some n))) → Unheard (what (node_named whole name))
  node_found name what none each = by_node (node_named whole name) refl
    where
      by_node : (o : Option NodeId) → node_named whole name ≡ o → Unheard (what o)
      by_node None is = none
      by_node (Some n) is = each n is

  pub node_unheard : (name : List ℕ) (change : NodeId → Edit) → Dead (name ∷ []) ≡ true → ((n : NodeId) → is_kept fs n.0 ≡ false → IsUnheardEdit fs whole.world (change n))
      → Unheard (edits_node whole (node_named whole name) change)
  node_unheard name change dead each =
      node_found name (λ o. edits_node whole o change) tt (λ n is. edits_unheard (change n) (each n (dead_one fs live place earlier whole part alike name n dead is)))

  -- of two nodes one is not kept
  pub either_unheard : (from to : List ℕ) (change : NodeId → NodeId → Edit) → Dead (from ∷ to ∷ []) ≡ true
      → ((n m : NodeId) → (is_kept fs n.0 ≡ false) ⊎ (is_kept fs m.0 ≡ false) → IsUnheardEdit fs whole.world (change n m))
      → Unheard (edits_nodes whole (node_named whole from) (node_named whole to) change)
  either_unheard from to change dead each =
      node_found from (λ o. edits_nodes whole o (node_named whole to) change) tt
      (λ n is. node_found to (λ o. edits_node whole o (change n)) tt (λ m is_m. edits_unheard (change n m) (each n m (which n m is is_m))))
    where
      which : (n m : NodeId) → node_named whole from ≡ Some n → node_named whole to ≡ Some m → (is_kept fs n.0 ≡ false) ⊎ (is_kept fs m.0 ≡ false)
      which n m is is_m = elim (dead_first fs live place earlier whole part alike from (to ∷ []) n dead is) [
        | inl e ↦ inl e
        | inr e ↦ inr (dead_one fs live place earlier whole part alike to m e is_m)
      ]

  -- whoever is connected to a live node is live
  abbrev pub Closes : List ℕ → List ℕ → Type 0
  Closes from to = (c d : ℕ) → filter_map (creator_named earlier) (from ∷ to ∷ []) ≡ c ∷ d ∷ [] → live d ≡ true → live c ≡ true

  -- of two nodes that are connected the target is not kept
  pub target_dead : (from to : List ℕ) → Dead (from ∷ to ∷ []) ≡ true → Closes from to → (n m : NodeId) → node_named whole from ≡ Some n → node_named whole to ≡ Some m → is_kept fs m.0 ≡ false
  target_dead from to dead closes n m is is_m = elim (dead_first fs live place earlier whole part alike from (to ∷ []) n dead is) [
    | inl e ↦
        let told = creators_of_two fs live place earlier whole part alike from to n m is is_m in
        told.4 ∙ by_live (live told.1) (live told.0) (sym told.3 ∙ e) (closes told.0 told.1 told.2)
    | inr e ↦ dead_one fs live place earlier whole part alike to m e is_m
  ]
    where
      by_live : (b a : Bool) → a ≡ false → (b ≡ true → a ≡ true) → b ≡ false
      by_live true a is both = sym (both refl) ∙ is
      by_live false a is both = refl

  pub target_unheard : (from to : List ℕ) (change : NodeId → NodeId → Edit) → Dead (from ∷ to ∷ []) ≡ true → Closes from to
      → ((n m : NodeId) → is_kept fs m.0 ≡ false → IsUnheardEdit fs whole.world (change n m))
      → Unheard (edits_nodes whole (node_named whole from) (node_named whole to) change)
  target_unheard from to change dead closes each =
      node_found from (λ o. edits_nodes whole o (node_named whole to) change) tt
      (λ n is. node_found to (λ o. edits_node whole o (change n)) tt (λ m is_m. edits_unheard (change n m) (each n m (target_dead from to dead closes n m is is_m))))

  -- ---- with buffers

  pub buffer_unheard : (name : Option (List ℕ)) (what : Option BufId → Decided) → ((b : Option BufId) → Unheard (what b)) → Unheard (with_buffer whole name what)
  buffer_unheard None what each = each None
  buffer_unheard (Some name) what each = by_found (buffer_named whole name)
    where
      by_found : (o : Option BufId) → Unheard (by_buffer o (λ buffer. what (Some buffer)))
      by_found None = tt
      by_found (Some b) = each (Some b)

  pub set_unheard : (name : List ℕ) (buffer : Option (List ℕ)) → Dead (name ∷ []) ≡ true → Unheard (sets_buffer whole (node_named whole name) buffer)
  set_unheard name buffer dead =
      node_found name (λ o. sets_buffer whole o buffer) tt
      (λ n is.
      buffer_unheard buffer (λ b. edits whole (edit.Source n (source.SetBuffer b)))
      (λ b. edits_unheard (edit.Source n (source.SetBuffer b)) (dead_one fs live place earlier whole part alike name n dead is)))

  -- ---- parameters

  param_found : (word : List ℕ) (n : NodeId) (what : Option ParamId → Decided) → Unheard (what None) → ((id : ParamId) → id.node.0 ≡ n.0 → Unheard (what (Some id))) → Unheard (what (param_at whole (Some n) word))
  param_found word n what none each = by_param (param_at whole (Some n) word) refl
    where
      by_param : (o : Option ParamId) → param_at whole (Some n) word ≡ o → Unheard (what o)
      by_param None is = none
      by_param (Some id) is = each id (its_node fs live place earlier whole part alike n (param_of_kind (kind_of whole.world n.0) (param_named word)) id is)

  pub on_param_unheard : (name word : List ℕ) (what : ParamId → Decided) → Dead (name ∷ []) ≡ true → ((id : ParamId) → is_kept fs id.node.0 ≡ false → Unheard (what id))
      → Unheard (on_param (param_at whole (node_named whole name) word) what)
  on_param_unheard name word what dead each =
      node_found name (λ o. on_param (param_at whole o word) what) tt
      (λ n is.
      param_found word n (λ o. on_param o what) tt
      (λ id own. refused_or (name_refusal id.name) (what id) (each id (ap (is_kept fs) own ∙ dead_one fs live place earlier whole part alike name n dead is))))

  pub leads_unheard : (from to word : List ℕ) (what : NodeId → ParamId → Decided)
      → ((n m : NodeId) (id : ParamId) → node_named whole from ≡ Some n → node_named whole to ≡ Some m → id.node.0 ≡ m.0 → Unheard (what n id))
      → Unheard (leads (node_named whole from) (param_at whole (node_named whole to) word) what)
  leads_unheard from to word what each =
      node_found from (λ o. leads o (param_at whole (node_named whole to) word) what) tt
      (λ n is.
      node_found to (λ o. leads (Some n) (param_at whole o word) what) tt
      (λ m is_m. param_found word m (λ o. leads (Some n) o what) tt (λ id own. refused_or (lead_refusal n id) (what n id) (each n m id is is_m own))))

  pub either_dead : (from to : List ℕ) → Dead (from ∷ to ∷ []) ≡ true → (n m : NodeId) → node_named whole from ≡ Some n → node_named whole to ≡ Some m → (is_kept fs n.0 ≡ false) ⊎ (is_kept fs m.0 ≡ false)
  either_dead from to dead n m is is_m = elim (dead_first fs live place earlier whole part alike from (to ∷ []) n dead is) [
    | inl e ↦ inl e
    | inr e ↦ inr (dead_one fs live place earlier whole part alike to m e is_m)
  ]

  -- ---- oversampling

  pub oversample_unheard : (name : List ℕ) (value : Oversample) → Unheard (sets_oversample whole (node_named whole name) value)
  oversample_unheard name value =
      node_found name (λ o. sets_oversample whole o value) tt (λ n is. by_shaper (is_shaper (kind_of whole.world n.0)))
    where
      by_value : (r : Option Exc) → Unheard (unless_refused r (comes_to.Answer answer.Ok))
      by_value None = tt
      by_value (Some exception) = tt

      by_shaper : (b : Bool) → Unheard (if b then unless_refused (oversample_refusal value) (comes_to.Answer answer.Ok) else refused WrongType)
      by_shaper true = by_value (oversample_refusal value)
      by_shaper false = tt
