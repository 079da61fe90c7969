-- What a call comes to in the part where it is heard: the same as in the whole.
use Rattle.std.proofs.Common.{ℕ, ◌≡◌, List, [], ◌∷◌, Bool, true, false, Option, None, Some, Result, Ok, Err, refl, sym, ◌∙◌, ap, subst}
use Rattle.std.specs.Prelude.{not, ◌==◌, if◌then◌else◌, nat_lt, length, option_map}
use Rattle.wa_base.specs.declared.contexts.ContextSpec.{ContextSpec}
use Rattle.wa_base.specs.declared.exceptions.Exc.{Exc}
use Rattle.wa_base.specs.declared.exceptions.Exc.TheVariants.{NotSupported, WrongType}
use Rattle.wa_base.specs.declared.features.Feature.TheVariants as feature
use Rattle.wa_base.specs.declared.graph_names.BufId.{BufId}
use Rattle.wa_base.specs.declared.graph_names.NodeId.{NodeId}
use Rattle.wa_base.specs.declared.graph_names.ParamId.{ParamId}
use Rattle.wa_base.specs.declared.graph_names.ParamName.{ParamName}
use Rattle.transcript.specs.declared.lines.Answer.TheVariants as answer
use Rattle.script_ast.specs.declared.call_list.Call.{Call}
use Rattle.script_ast.specs.declared.operations.Oversample.{Oversample}
use Rattle.buffer_store.specs.declared.wav.Wav.{Wav}
use Rattle.wav_io.specs.WavGrammar.{wav_of}
use Rattle.wav_io.specs.declared.wav.WavErr.{WavErr}
use Rattle.meaning.specs.declared.buffers.BufferEdit.TheVariants as buffer_edit
use Rattle.meaning.specs.declared.change.Edit.{Edit}
use Rattle.meaning.specs.declared.change.Edit.TheVariants as edit
use Rattle.meaning.specs.declared.sources.SourceEdit.TheVariants as source
use Rattle.meaning.specs.Changes.{refusal}
use Rattle.meaning.specs.World.{kind_of, param_id}
use Rattle.prune_script.specs.Pruned.{is_refusal}
use Rattle.control_side.specs.declared.decide.Decided.{Decided}
use Rattle.control_side.specs.declared.decide.Decided.TheVariants as comes_to
use Rattle.control_side.specs.Machine.{Machine}
use Rattle.control_side.specs.Assets.{decodes, by_reading, adopts, rejected, unless_rejected, max_asset}
use Rattle.control_side.specs.Deciding.{node_named, buffer_named, refused, unless, edits, edits_node, edits_nodes, by_buffer, with_buffer, sets_buffer}
use Rattle.control_side.specs.Params.{param_at, param_of_kind, param_named, on_param, name_refusal, leads, lead_refusal, unless_refused}
use Rattle.control_side.specs.Shapers.{sets_oversample, is_shaper, oversample_refusal}
use Rattle.prune.proofs.Flags.{Flags, is_kept, part_number, same_part}
use Rattle.prune.proofs.Without.{IsHeardEdit, part_node, part_param, part_edit}
use Rattle.prune.proofs.WithoutFacts.{kind_kept}
use Rattle.prune.proofs.WithoutEdits.{heard_accepted}
use Rattle.prune_top.proofs.Alike.{AreAlike, same_time, node_heard, buffer_heard, names_dead, live_first}

-- whether it is no refusal
abbrev pub is_fine : Decided → Bool
is_fine (comes_to.Answer said) = not (is_refusal said)
is_fine other = true

-- the part's decision where the whole's is this one: an edit is heard, and made with the nodes' numbers in the part
abbrev pub IsSame : Flags → Machine → Decided → Decided → Type 0
IsSame fs whole (comes_to.Answer said) other = other ≡ comes_to.Answer said
IsSame fs whole comes_to.Start other = other ≡ comes_to.Start
IsSame fs whole (comes_to.Suspend frame) other = other ≡ comes_to.Suspend frame
IsSame fs whole comes_to.Resume other = other ≡ comes_to.Resume
IsSame fs whole (comes_to.Change e) other = IsHeardEdit fs whole.world e × (other ≡ comes_to.Change (part_edit fs e))

zero_stays : (fs : Flags) → part_number fs 0 ≡ 0
zero_stays [] = refl
zero_stays (f ∷ fs) = refl

module _ (fs : Flags) (live : ℕ → Bool) (place : ℕ → ℕ) (earlier : List Call) (whole part : Machine) (alike : AreAlike fs live place earlier whole part) where
  abbrev Same : Decided → Decided → Type 0
  Same = IsSame fs whole

  -- ---- refusals that both have

  pub either_refused : (r : Option Exc) (d other : Decided) → (is_fine d ≡ true → Same d other) → is_fine (unless_refused r d) ≡ true → Same (unless_refused r d) (unless_refused r other)
  either_refused None d other same fine = same fine
  either_refused (Some exception) d other same fine = absurd cc

  -- ---- edits

  pub edits_heard : (e : Edit) → IsHeardEdit fs whole.world e → is_fine (edits whole e) ≡ true → Same (edits whole e) (edits part (part_edit fs e))
  edits_heard e heard fine = by_refusal (refusal whole.world whole.context.time e) refl fine
    where
      by_refusal : (r : Option Exc) → refusal whole.world whole.context.time e ≡ r → is_fine (unless r e) ≡ true → Same (unless r e) (edits part (part_edit fs e))
      by_refusal None is fine = (
        heard,
        ap (λ r. unless r (part_edit fs e))
            (ap (λ t. refusal part.world t (part_edit fs e)) (same_time fs live place earlier whole part alike)
            ∙ heard_accepted fs part.world whole.world whole.context.time e alike.world alike.steady.valid heard is),
      )
      by_refusal (Some exception) is fine = absurd cc

  -- ---- on nodes

  abbrev IsDead : List (List ℕ) → Bool
  IsDead = names_dead fs live place earlier whole part alike

  pub node_then : (name : List ℕ) (names : List (List ℕ)) (what other : Option NodeId → Decided) → is_fine (what None) ≡ false
      → IsDead (name ∷ names) ≡ false
      → ((n : NodeId) → node_named whole name ≡ Some n → is_kept fs n.0 ≡ true → IsDead names ≡ false → is_fine (what (Some n)) ≡ true → Same (what (Some n)) (other (Some (part_node fs n))))
      → is_fine (what (node_named whole name)) ≡ true → Same (what (node_named whole name)) (other (node_named part name))
  node_then name names what other none alive each fine = by_node (node_named whole name) refl fine
    where
      by_node : (o : Option NodeId) → node_named whole name ≡ o → is_fine (what o) ≡ true → Same (what o) (other (node_named part name))
      by_node None is fine = absurd cc
      by_node (Some n) is fine =
          let kept = live_first fs live place earlier whole part alike name names n alive is in
          subst (λ o. Same (what (Some n)) (other o)) (sym (node_heard fs live place earlier whole part alike name n is kept.0)) (each n is kept.0 kept.1 fine)

  pub node_edits : (name : List ℕ) (change : NodeId → Edit) → IsDead (name ∷ []) ≡ false
      → ((n : NodeId) → is_kept fs n.0 ≡ true → IsHeardEdit fs whole.world (change n)) → ((n : NodeId) → part_edit fs (change n) ≡ change (part_node fs n))
      → is_fine (edits_node whole (node_named whole name) change) ≡ true → Same (edits_node whole (node_named whole name) change) (edits_node part (node_named part name) change)
  node_edits name change alive heard same fine =
      node_then name [] (λ o. edits_node whole o change) (λ o. edits_node part o change) refl alive
      (λ n is kept rest f. subst (λ e. Same (edits whole (change n)) (edits part e)) (same n) (edits_heard (change n) (heard n kept) f)) fine

  pub nodes_edit : (from to : List ℕ) (change : NodeId → NodeId → Edit) → IsDead (from ∷ to ∷ []) ≡ false
      → ((n m : NodeId) → is_kept fs n.0 ≡ true → is_kept fs m.0 ≡ true → IsHeardEdit fs whole.world (change n m))
      → ((n m : NodeId) → part_edit fs (change n m) ≡ change (part_node fs n) (part_node fs m))
      → is_fine (edits_nodes whole (node_named whole from) (node_named whole to) change) ≡ true
      → Same (edits_nodes whole (node_named whole from) (node_named whole to) change) (edits_nodes part (node_named part from) (node_named part to) change)
  nodes_edit from to change alive heard same fine =
      node_then from (to ∷ []) (λ o. edits_nodes whole o (node_named whole to) change) (λ o. edits_nodes part o (node_named part to) change) refl alive
      (λ n is kept rest f.
      node_then to [] (λ o. edits_node whole o (change n)) (λ o. edits_node part o (change (part_node fs n))) refl rest
      (λ m is_m kept_m none g. subst (λ e. Same (edits whole (change n m)) (edits part e)) (same n m) (edits_heard (change n m) (heard n m kept kept_m) g)) f) fine

  -- ---- with buffers

  pub buffer_then : (name : List ℕ) (what other : BufId → Decided) → ((b : BufId) → is_fine (what b) ≡ true → Same (what b) (other b))
      → is_fine (by_buffer (buffer_named whole name) what) ≡ true → Same (by_buffer (buffer_named whole name) what) (by_buffer (buffer_named part name) other)
  buffer_then name what other each fine = by_found (buffer_named whole name) refl fine
    where
      by_found : (o : Option BufId) → buffer_named whole name ≡ o → is_fine (by_buffer o what) ≡ true → Same (by_buffer o what) (by_buffer (buffer_named part name) other)
      by_found None is fine = absurd cc
      by_found (Some b) is fine = subst (λ o. Same (what b) (by_buffer o other)) (sym (buffer_heard fs live place earlier whole part alike name b is)) (each b fine)

  pub maybe_buffer : (name : Option (List ℕ)) (what other : Option BufId → Decided) → ((b : Option BufId) → is_fine (what b) ≡ true → Same (what b) (other b))
      → is_fine (with_buffer whole name what) ≡ true → Same (with_buffer whole name what) (with_buffer part name other)
  maybe_buffer None what other each fine = each None fine
  maybe_buffer (Some name) what other each fine = buffer_then name (λ b. what (Some b)) (λ b. other (Some b)) (λ b f. each (Some b) f) fine

  pub buffer_set : (name : List ℕ) (buffer : Option (List ℕ)) → IsDead (name ∷ []) ≡ false
      → is_fine (sets_buffer whole (node_named whole name) buffer) ≡ true → Same (sets_buffer whole (node_named whole name) buffer) (sets_buffer part (node_named part name) buffer)
  buffer_set name buffer alive fine =
      node_then name [] (λ o. sets_buffer whole o buffer) (λ o. sets_buffer part o buffer) refl alive
      (λ n is kept rest f.
      maybe_buffer buffer (λ b. edits whole (edit.Source n (source.SetBuffer b))) (λ b. edits part (edit.Source (part_node fs n) (source.SetBuffer b)))
      (λ b g. edits_heard (edit.Source n (source.SetBuffer b)) kept g) f) fine

  -- ---- decoded files

  -- one of two decisions, of which the second is a refusal
  chosen : (b c : Bool) (d d' other : Decided) → c ≡ b → (is_fine d ≡ true → Same d d') → is_fine other ≡ false → is_fine (if b then d else other) ≡ true → Same (if b then d else other) (if c then d' else other)
  chosen true c d d' other same each none fine = subst (λ t. Same d (if t then d' else other)) (sym same) (each fine)
  chosen false c d d' other same each none fine = absurd cc

  adopted : (wav : Wav) → is_fine (adopts whole wav) ≡ true → Same (adopts whole wav) (adopts part wav)
  adopted wav fine =
      chosen (wav.rate == whole.world.spec.rate) (wav.rate == part.world.spec.rate) (unless_rejected (refusal whole.world whole.context.time (edit.Buffers (buffer_edit.Adopt wav))) (edit.Buffers (buffer_edit.Adopt wav)))
      (unless_rejected (refusal part.world part.context.time (edit.Buffers (buffer_edit.Adopt wav))) (edit.Buffers (buffer_edit.Adopt wav))) (rejected (NotSupported (Some feature.Resampling)))
      (ap (λ (c : ContextSpec). wav.rate == c.rate) alike.world.spec) (by_refusal (refusal whole.world whole.context.time (edit.Buffers (buffer_edit.Adopt wav))) refl) refl fine
    where
      by_refusal : (r : Option Exc) → refusal whole.world whole.context.time (edit.Buffers (buffer_edit.Adopt wav)) ≡ r → is_fine (unless_rejected r (edit.Buffers (buffer_edit.Adopt wav))) ≡ true
          → Same (unless_rejected r (edit.Buffers (buffer_edit.Adopt wav))) (unless_rejected (refusal part.world part.context.time (edit.Buffers (buffer_edit.Adopt wav))) (edit.Buffers (buffer_edit.Adopt wav)))
      by_refusal None is f = (
        tt,
        ap (λ r. unless_rejected r (edit.Buffers (buffer_edit.Adopt wav)))
            (ap (λ t. refusal part.world t (edit.Buffers (buffer_edit.Adopt wav))) (same_time fs live place earlier whole part alike)
            ∙ heard_accepted fs part.world whole.world whole.context.time (edit.Buffers (buffer_edit.Adopt wav)) alike.world alike.steady.valid tt is),
      )
      by_refusal (Some exception) is f = absurd cc

  read_heard : (r : Result Wav WavErr) → is_fine (by_reading whole r) ≡ true → Same (by_reading whole r) (by_reading part r)
  read_heard (Ok wav) fine = adopted wav fine
  read_heard (Err fault) fine = absurd cc

  pub decoded : (file : Option (List ℕ)) → is_fine (decodes whole file) ≡ true → Same (decodes whole file) (decodes part file)
  decoded None fine = absurd cc
  decoded (Some bytes) fine = by_size (nat_lt max_asset (length bytes)) fine
    where
      by_size : (b : Bool) → is_fine (if b then rejected (NotSupported (Some feature.AssetSize)) else by_reading whole (wav_of bytes)) ≡ true
          → Same (if b then rejected (NotSupported (Some feature.AssetSize)) else by_reading whole (wav_of bytes)) (if b then rejected (NotSupported (Some feature.AssetSize)) else by_reading part (wav_of bytes))
      by_size true f = absurd cc
      by_size false f = read_heard (wav_of bytes) f

  -- ---- parameters

  pub param_heard : (word : List ℕ) (n : NodeId) → is_kept fs n.0 ≡ true → param_at part (Some (part_node fs n)) word ≡ option_map (part_param fs) (param_at whole (Some n) word)
  param_heard word n kept =
      ap (λ kind. option_map (param_id (part_number fs n.0)) (param_of_kind kind (param_named word))) (kind_kept fs part.world whole.world n.0 alike.world kept)
      ∙ by_name (param_of_kind (kind_of whole.world n.0) (param_named word))
    where
      by_name : (o : Option ParamName) → option_map (param_id (part_number fs n.0)) o ≡ option_map (part_param fs) (option_map (param_id n.0) o)
      by_name None = refl
      by_name (Some name) = refl

  pub its_node : (n : NodeId) (o : Option ParamName) (id : ParamId) → option_map (param_id n.0) o ≡ Some id → id.node.0 ≡ n.0
  its_node n None id is = absurd cc
  its_node n (Some name) id is = let e : param_id n.0 name ≡ id = cc in ap (λ (p : ParamId). p.node.0) (sym e)

  -- a parameter of a kept node
  pub param_then : (word : List ℕ) (n : NodeId) (what other : Option ParamId → Decided) → is_kept fs n.0 ≡ true → is_fine (what None) ≡ false
      → ((id : ParamId) → is_kept fs id.node.0 ≡ true → is_fine (what (Some id)) ≡ true → Same (what (Some id)) (other (Some (part_param fs id))))
      → is_fine (what (param_at whole (Some n) word)) ≡ true → Same (what (param_at whole (Some n) word)) (other (param_at part (Some (part_node fs n)) word))
  param_then word n what other kept none each fine =
      subst (λ o. Same (what (param_at whole (Some n) word)) (other o)) (sym (param_heard word n kept)) (by_param (param_at whole (Some n) word) refl fine)
    where
      by_param : (o : Option ParamId) → param_at whole (Some n) word ≡ o → is_fine (what o) ≡ true → Same (what o) (other (option_map (part_param fs) o))
      by_param None is fine = absurd cc
      by_param (Some id) is fine =
          each id (subst (λ k. is_kept fs k ≡ true) (sym (its_node n (param_of_kind (kind_of whole.world n.0) (param_named word)) id is)) kept) fine

  pub on_param_heard : (name word : List ℕ) (what other : ParamId → Decided) → IsDead (name ∷ []) ≡ false
      → ((id : ParamId) → is_kept fs id.node.0 ≡ true → is_fine (what id) ≡ true → Same (what id) (other (part_param fs id)))
      → is_fine (on_param (param_at whole (node_named whole name) word) what) ≡ true
      → Same (on_param (param_at whole (node_named whole name) word) what) (on_param (param_at part (node_named part name) word) other)
  on_param_heard name word what other alive each fine =
      node_then name [] (λ o. on_param (param_at whole o word) what) (λ o. on_param (param_at part o word) other) refl alive
      (λ n is kept rest f.
      param_then word n (λ o. on_param o what) (λ o. on_param o other) kept refl
      (λ id kept_id g. either_refused (name_refusal id.name) (what id) (other (part_param fs id)) (each id kept_id) g) f) fine

  -- what leads from a kept node, which is not the destination where the whole's is not
  lead_same : (n : NodeId) (id : ParamId) → is_kept fs n.0 ≡ true → lead_refusal (part_node fs n) (part_param fs id) ≡ lead_refusal n id
  lead_same n id kept =
      ap (λ b. if b then Some (NotSupported (Some feature.DestinationOutput)) else name_refusal id.name)
      (ap (λ k. part_number fs n.0 == k) (sym (zero_stays fs)) ∙ same_part fs n.0 0 kept alike.world.first)

  pub leads_heard : (from to word : List ℕ) (what other : NodeId → ParamId → Decided) → IsDead (from ∷ to ∷ []) ≡ false
      → ((n : NodeId) (id : ParamId) → is_kept fs n.0 ≡ true → is_kept fs id.node.0 ≡ true → is_fine (what n id) ≡ true → Same (what n id) (other (part_node fs n) (part_param fs id)))
      → is_fine (leads (node_named whole from) (param_at whole (node_named whole to) word) what) ≡ true
      → Same (leads (node_named whole from) (param_at whole (node_named whole to) word) what) (leads (node_named part from) (param_at part (node_named part to) word) other)
  leads_heard from to word what other alive each fine =
      node_then from (to ∷ []) (λ o. leads o (param_at whole (node_named whole to) word) what) (λ o. leads o (param_at part (node_named part to) word) other) refl alive
      (λ n is kept rest f.
      node_then to [] (λ o. leads (Some n) (param_at whole o word) what) (λ o. leads (Some (part_node fs n)) (param_at part o word) other) refl rest
      (λ m is_m kept_m none g.
      param_then word m (λ o. leads (Some n) o what) (λ o. leads (Some (part_node fs n)) o other) kept_m refl
      (λ id kept_id h.
      subst (λ r. Same (unless_refused (lead_refusal n id) (what n id)) (unless_refused r (other (part_node fs n) (part_param fs id)))) (sym (lead_same n id kept))
      (either_refused (lead_refusal n id) (what n id) (other (part_node fs n) (part_param fs id)) (each n id kept kept_id) h)) g) f) fine

  -- ---- oversampling

  pub oversample_heard : (name : List ℕ) (value : Oversample) → IsDead (name ∷ []) ≡ false
      → is_fine (sets_oversample whole (node_named whole name) value) ≡ true → Same (sets_oversample whole (node_named whole name) value) (sets_oversample part (node_named part name) value)
  oversample_heard name value alive fine =
      node_then name [] (λ o. sets_oversample whole o value) (λ o. sets_oversample part o value) refl alive
      (λ n is kept rest f.
      chosen (is_shaper (kind_of whole.world n.0)) (is_shaper (kind_of part.world (part_number fs n.0))) (unless_refused (oversample_refusal value) (comes_to.Answer answer.Ok))
      (unless_refused (oversample_refusal value) (comes_to.Answer answer.Ok)) (refused WrongType) (ap is_shaper (kind_kept fs part.world whole.world n.0 alike.world kept))
      (λ g. either_refused (oversample_refusal value) (comes_to.Answer answer.Ok) (comes_to.Answer answer.Ok) (λ h. refl) g) refl f) fine
