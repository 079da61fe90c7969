-- Worlds stay valid, whatever becomes of the timelines of their parameters.
use Rattle.std.proofs.Common.{ℕ, ◌≡◌, ◌<◌, ◌++◌, length, List, [], ◌∷◌, map, take, drop, slice_index_or, true, Option, None, Some, inl, inr, refl, sym, ◌∙◌, ap, subst}
use Rattle.std.specs.Prelude.{◌+◌, slice_get, slice_set, option_and_then, option_map, Result, Ok, Err, IsOk, OnOk, OnErr}
use Rattle.std.proofs.lemmas.List.{set-get_or}
use Rattle.std.proofs.lemmas.List.Edits.{map_over_more}
use Rattle.wa_base.specs.declared.memory.NoMemory.{NoMemory}
use Rattle.std.specs.List.{position}
use Rattle.std.specs.List.Sorted.{IsStrictlyIncreasing}
use Rattle.std.proofs.lemmas.List.Quantifiers.{position-Some}
use Rattle.std.proofs.lemmas.Option.{get_or_from_slice_get}
use Rattle.wa_base.specs.declared.graph_names.ParamId.{ParamId}
use Rattle.law_base.specs.Members.{IsIn}
use Rattle.param_events.specs.declared.refusals.ParamErr.{ParamErr}
use Rattle.param_events.specs.Timeline.{Timeline, IsTimeline}
use Rattle.param_events.proofs.Kept.{now_kept, set_kept, ramp_kept, curve_kept, cancel_kept, hold_kept}
use Rattle.conn_graph.specs.Edges.{same_param}
use Rattle.meaning.specs.declared.automation.ParamEdit.{ParamEdit}
use Rattle.meaning.specs.declared.automation.ParamEdit.TheVariants as edit
use Rattle.meaning.specs.declared.params.Param.{Param}
use Rattle.meaning.specs.declared.world.World.{World}
use Rattle.meaning.specs.World.{find_param}
use Rattle.meaning.specs.Validity.{IsValid, param_ids}
use Rattle.meaning.specs.Automation.{line_edited, param_edited, with_params, changed_param, automated, slot_set, line_refusal, exception_of, param_refusal, automation_refusal}
use Rattle.meaning.proofs.FirstItems.{node, at_place, params_once, param_position, same_param_is}
use Rattle.meaning.proofs.OneChanged.{changed_keeps, each_changed, written_over}

-- parameters with the same identities stand in the same order
same_nodes : (params params' : List Param) → map (λ (p : Param). p.id) params' ≡ map (λ (p : Param). p.id) params → map node params' ≡ map node params
same_nodes params params' same = sym (through params') ∙ ap (map (λ (id : ParamId). id.node.0)) same ∙ through params
  where
    through : (ps : List Param) → map (λ (id : ParamId). id.node.0) (map (λ (p : Param). p.id) ps) ≡ map node ps
    through [] = refl
    through (p ∷ ps) = ap (λ xs. node p ∷ xs) (through ps)

-- a world with other timelines for the same parameters
pub with_params_valid : (w : World) (params : List Param) → map (λ (p : Param). p.id) params ≡ param_ids w → ((p : Param) → IsIn p params → IsTimeline p.line.events) → IsValid w → IsValid (with_params w params)
with_params_valid w params same lines valid = record {
  spec = valid.spec;
  nodes = record { some = valid.nodes.some; few = valid.nodes.few; kept = valid.nodes.kept; first = valid.nodes.first; others = valid.nodes.others };
  graph = valid.graph;
  ports = valid.ports;
  params = record {
    each = λ i name below. rw same (valid.params.each i name below);
    there = λ id is. valid.params.there id (rw same at is);
    order = subst IsStrictlyIncreasing (sym (same_nodes w.params.items params same)) valid.params.order;
    lines = lines;
    targets = λ e id is to. rw same (valid.params.targets e id is to);
  };
  scheds = record { each = valid.scheds.each; order = valid.scheds.order; kinds = valid.scheds.kinds };
  store = valid.store;
}

-- ---- an edit of a parameter

-- a timeline stays one by each edit that is not refused
pub line_kept : (now : ℕ) (e : ParamEdit) (line : Timeline) → line_refusal now e line.events ≡ None → IsTimeline line.events → IsTimeline (line_edited now e line).events
line_kept now (edit.SetNow value) line fine kept = now_kept line now value fine kept
line_kept now (edit.Set value time) line fine kept = set_kept line now value time fine kept
line_kept now (edit.Ramp value time) line fine kept = ramp_kept line now value time fine kept
line_kept now (edit.Curve points time duration) line fine kept = curve_kept line now points time duration fine kept
line_kept now (edit.Cancel time) line fine kept = cancel_kept line now time kept
line_kept now (edit.Hold time) line fine kept = hold_kept line now time kept
line_kept now (edit.Rate rate) line fine kept = kept

pub no_exception : (o : Option ParamErr) → option_map exception_of o ≡ None → o ≡ None
no_exception None h = refl
no_exception (Some e) h = absurd cc

-- a parameter of the list is the one that is found
pub found_param : (w : World) → IsValid w → (id : ParamId) (p : Param) → IsIn p w.params.items → same_param p.id id ≡ true → find_param w.params.items id ≡ Some p
found_param w valid id p is test =
    let k = at_place w.params.items p is in
    let own : slice_index_or w.params.items k.0 p ≡ p = get_or_from_slice_get w.params.items k.0 p p k.2 in
    ap (option_and_then (slice_get w.params.items)) (param_position w valid id k.0 p k.1 (rw own test)) ∙ k.2

pub automated_valid : (w : World) (now : ℕ) (id : ParamId) (e : ParamEdit) → automation_refusal w now id e ≡ None → IsValid w → IsValid (automated w now id e)
automated_valid w now id e fine valid =
    with_params_valid w (map (changed_param id (param_edited now e)) w.params.items)
    (changed_keeps (λ (p : Param). same_param p.id id) (param_edited now e) (λ (p : Param). p.id) (λ p. refl) w.params.items)
    (each_changed (λ (p : Param). same_param p.id id) (param_edited now e) (λ p. IsTimeline p.line.events) w.params.items valid.params.lines (λ p is test kept.
    let fine_here : param_refusal now e p ≡ None = subst (λ (o : Option Param). option_and_then (param_refusal now e) o ≡ None) (found_param w valid id p is test) fine in
    line_kept now e p.line (no_exception (line_refusal now e p.line.events) fine_here) kept))
    valid

-- the parameter that is found, changed and written over
pub rewritten_is : (w : World) (id : ParamId) (place : ℕ) (old new : Param) (change : Param → Param) → IsValid w → position (λ (p : Param). same_param p.id id) w.params.items ≡ Some place
    → slice_get w.params.items place ≡ Some old → new ≡ change old → slice_set w.params.items place new ≡ map (changed_param id change) w.params.items
rewritten_is w id place old new change valid found there is =
    let at : slice_index_or w.params.items place old ≡ old = get_or_from_slice_get w.params.items place old old there in
    let first = position-Some (λ (p : Param). same_param p.id id) w.params.items place old found in
    ap (λ p. slice_set w.params.items place p) (is ∙ ap change (sym at))
    ∙ sym (written_over (λ (p : Param). same_param p.id id) change (λ (p : Param). p.id) id (λ p h. same_param_is p.id id h) w.params.items place old (params_once w valid) first.0 first.1)

-- what holds of an edit that was made, and of one that was not
pub once_made : {X Y : Type 0} (made : Result (Unit {0}) NoMemory) (call : Result (Unit {0}) ParamErr) → OnOk made (IsOk call) → OnOk call X → (X → Y) → OnOk made Y
once_made (Ok u) (Ok v) both is then = then is
once_made (Ok u) (Err e) both is then = absurd cc
once_made (Err e) call both is then = tt

pub if_made : {X Y : Type 0} (r : Result (Unit {0}) NoMemory) → OnOk r X → (X → Y) → OnOk r Y
if_made (Ok u) is then = then is
if_made (Err e) is then = tt

pub if_not_made : {X Y : Type 0} (r : Result (Unit {0}) NoMemory) → OnErr r X → (X → Y) → OnErr r Y
if_not_made (Ok u) is then = tt
if_not_made (Err e) is then = then is

-- a parameter that is written over by itself
pub kept_in_place : (params : List Param) (place : ℕ) (old new : Param) → slice_get params place ≡ Some old → new ≡ old → slice_set params place new ≡ params
kept_in_place params place old new there is = ap (slice_set params place) (is ∙ sym (get_or_from_slice_get params place old old there)) ∙ set-get_or params place old

-- ---- the current value slots

-- the slot at a place is set, where those before it are
pub slot_set_at : (first : ℕ) (xs ys : List Param) (i : ℕ) (old : Param) → i < length xs → ys ≡ map (slot_set first) (take i xs) ++ drop i xs → slice_get ys i ≡ Some old
    → slice_set ys i (slot_set first old) ≡ map (slot_set first) (take (i + 1) xs) ++ drop (i + 1) xs
slot_set_at first xs ys i old within so_far is = map_over_more (slot_set first) xs ys i old within so_far (sym (get_or_from_slice_get ys i old old is))

slots_keep : (first : ℕ) (params : List Param) → map (λ (p : Param). p.id) (map (slot_set first) params) ≡ map (λ (p : Param). p.id) params
slots_keep first [] = refl
slots_keep first (p ∷ ps) = ap (λ ids. p.id ∷ ids) (slots_keep first ps)

slots_lines : (first : ℕ) (params : List Param) → ((p : Param) → IsIn p params → IsTimeline p.line.events) → (p : Param) → IsIn p (map (slot_set first) params) → IsTimeline p.line.events
slots_lines first [] lines p is = absurd is
slots_lines first (q ∷ qs) lines p (inl same) = subst (λ (x : Param). IsTimeline x.line.events) (sym same) (lines q (inl refl))
slots_lines first (q ∷ qs) lines p (inr is) = slots_lines first qs (λ x h. lines x (inr h)) p is

pub slots_valid : (w : World) (first : ℕ) → IsValid w → IsValid (with_params w (map (slot_set first) w.params.items))
slots_valid w first valid = with_params_valid w (map (slot_set first) w.params.items) (slots_keep first w.params.items) (slots_lines first w.params.items valid.params.lines) valid
