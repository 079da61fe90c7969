-- One call, in the whole and in the part: a heard one is made in both, one that is not heard in the whole alone.
use Rattle.std.proofs.Common.{ℕ, ◌≡◌, List, [], ◌∷◌, Bool, true, false, Option, None, Some, inl, refl, sym, ◌∙◌, ap, subst}
use Rattle.std.specs.Prelude.{if◌then◌else◌, not, ◌||◌, ◌&&◌, length}
use Rattle.std.specs.List.{list_any, filter_map}
use Rattle.law_base.specs.Members.{IsIn}
use Rattle.law_base.proofs.Tests.{and_parts}
use Rattle.io_edge.specs.Paths.{Paths}
use Rattle.wa_base.specs.declared.exceptions.Exc.{Exc}
use Rattle.wa_base.specs.declared.graph_names.ParamId.{ParamId}
use Rattle.name_book.specs.declared.book.Object.{Object}
use Rattle.name_book.specs.declared.book.Object.TheVariants as object
use Rattle.name_book.specs.Book.{object_of}
use Rattle.script_ast.specs.Operations.{new_name}
use Rattle.script_ast.specs.declared.call_list.Call.{Call}
use Rattle.script_ast.specs.declared.operations.Op.{Op}
use Rattle.script_ast.specs.declared.operations.Op.TheVariants as op
use Rattle.transcript.specs.declared.lines.Answer.{Answer}
use Rattle.transcript.specs.declared.lines.Answer.TheVariants as answer
use Rattle.ctx_state.specs.Context.{with_start, with_suspension, resumed}
use Rattle.meaning.specs.declared.change.Edit.{Edit}
use Rattle.meaning.specs.declared.change.Edit.TheVariants as edit
use Rattle.meaning.specs.Changes.{edited}
use Rattle.meaning.specs.World.{slot_of}
use Rattle.prune_script.specs.Pruned.{is_refusal, creates_node, node_names, named_nodes, touched_nodes, is_connect, first_two, connections_of, is_read, node_named as creator_named}
use Rattle.control_side.specs.declared.decide.Decided.{Decided}
use Rattle.control_side.specs.declared.decide.Decided.TheVariants as comes_to
use Rattle.control_side.specs.Machine.{Machine}
use Rattle.control_side.specs.Steady.{IsSteady}
use Rattle.control_side.specs.Deciding.{node_named}
use Rattle.control_side.specs.Params.{param_at, on_param, unless_refused, name_refusal}
use Rattle.control_side.specs.Step.{decided, decided_with, settled, step, with_edit, created_by, done}
use Rattle.prune.proofs.Flags.{Flags, is_kept}
use Rattle.prune.proofs.Without.{IsWithout, IsHeardEdit, IsUnheardEdit, part_edit}
use Rattle.prune.proofs.WithoutFacts.{nodes_count, buffers_count}
use Rattle.prune.proofs.WithoutEdits.{unheard_edit, heard_edit}
use Rattle.prune_top.proofs.Contexts.{suspension_placed}
use Rattle.prune_top.proofs.Alike.{AreAlike, IsSameObject, IsTold, same_time}
use Rattle.prune_top.proofs.Heard.{is_fine, IsSame}
use Rattle.prune_top.proofs.Unheard.{IsUnheard}
use Rattle.prune_top.proofs.Decisions.{heard_decided, unheard_decided}
use Rattle.prune_top.proofs.Bindings.{told_still, same_bound, same_dropped, bound_told}
use Rattle.prune_top.proofs.Naming.{IsNaming, is_of_buffers, naming}

-- ---- answers

done_fine : (o : Op) → is_refusal (done o) ≡ false
done_fine (op.DecodeAudioData name path) = refl
done_fine other = refl

pub answer_fine : (machine : Machine) (call : Call) (d : Decided) → is_refusal (settled machine call d).answer ≡ not (is_fine d)
answer_fine machine call (comes_to.Answer said) = twice (is_refusal said)
  where
    twice : (b : Bool) → b ≡ not (not b)
    twice true = refl
    twice false = refl
answer_fine machine call comes_to.Start = refl
answer_fine machine call (comes_to.Suspend frame) = refl
answer_fine machine call comes_to.Resume = refl
answer_fine machine call (comes_to.Change e) = done_fine call.op

-- what is refused changes nothing
refused_settled : (machine : Machine) (call : Call) (d : Decided) → is_fine d ≡ false → (settled machine call d).machine ≡ machine
refused_settled machine call (comes_to.Answer said) refused = refl
refused_settled machine call comes_to.Start refused = absurd cc
refused_settled machine call (comes_to.Suspend frame) refused = absurd cc
refused_settled machine call comes_to.Resume refused = absurd cc
refused_settled machine call (comes_to.Change e) refused = absurd cc

fine_of : (b : Bool) → not b ≡ false → b ≡ true
fine_of true e = refl
fine_of false e = absurd cc

unfine_of : (b : Bool) → not b ≡ true → b ≡ false
unfine_of true e = absurd cc
unfine_of false e = refl

pub step_refused : (machine : Machine) (held : Paths) (call : Call) → is_refusal (step machine held call).answer ≡ true → (step machine held call).machine ≡ machine
step_refused machine held call refused =
    refused_settled machine call (decided_with machine held call.op)
    (unfine_of (is_fine (decided_with machine held call.op)) (sym (answer_fine machine call (decided_with machine held call.op)) ∙ refused))

-- ---- what is created

of_nodes : (machine : Machine) (e : Edit) → is_of_buffers e ≡ false → created_by machine e ≡ object.Node (record { 0 = length machine.world.nodes })
of_nodes machine (edit.Buffers e) is = absurd cc
of_nodes machine (edit.Create kind) is = refl
of_nodes machine (edit.CreateBufferSource rate buffer points) is = refl
of_nodes machine (edit.CreateConvolver buffer) is = refl
of_nodes machine (edit.Connect edge) is = refl
of_nodes machine (edit.Disconnect from form) is = refl
of_nodes machine (edit.Source node e) is = refl
of_nodes machine (edit.Param id e) is = refl
of_nodes machine (edit.Attribute node e) is = refl
of_nodes machine (edit.SetCurve node curve) is = refl

of_buffers : (machine : Machine) (e : Edit) → is_of_buffers e ≡ true → created_by machine e ≡ object.Buffer (record { 0 = length machine.world.store })
of_buffers machine (edit.Buffers e) is = refl
of_buffers machine other is = absurd cc

part_of_buffers : (fs : Flags) (e : Edit) → is_of_buffers (part_edit fs e) ≡ is_of_buffers e
part_of_buffers fs (edit.Create kind) = refl
part_of_buffers fs (edit.CreateBufferSource rate buffer points) = refl
part_of_buffers fs (edit.CreateConvolver buffer) = refl
part_of_buffers fs (edit.Connect edge) = refl
part_of_buffers fs (edit.Disconnect from form) = refl
part_of_buffers fs (edit.Source node e) = refl
part_of_buffers fs (edit.Param id e) = refl
part_of_buffers fs (edit.Attribute node e) = refl
part_of_buffers fs (edit.SetCurve node curve) = refl
part_of_buffers fs (edit.Buffers e) = refl

never_unheard : (fs : Flags) (whole : Machine) (e : Edit) → is_of_buffers e ≡ true → IsUnheardEdit fs whole.world e → ⊥
never_unheard fs whole (edit.Buffers e) is un = un
never_unheard fs whole other is un = absurd cc

-- ---- a call

-- a call as it stands in the pruned script
abbrev pub part_call : (ℕ → ℕ) → Call → Call
part_call place call = record call { ordinal = place call.ordinal; holder = place call.holder }

module _ (fs : Flags) (live : ℕ → Bool) (place : ℕ → ℕ) (earlier : List Call) (whole part : Machine) (alike : AreAlike fs live place earlier whole part) (held : Paths) (call : Call) (new : creates_node call.op ≡ true → is_kept fs (length whole.world.nodes) ≡ live call.ordinal) where
  abbrev Names : Decided → Type 0
  Names d = (name : List ℕ) → new_name call.op ≡ Some name → IsNaming (creates_node call.op) d

  abbrev Then : Machine → Machine → Type 0
  Then = AreAlike fs live place (call ∷ earlier)

  still_told : new_name call.op ≡ None → (q : List ℕ) → IsTold fs live place (object_of whole.bindings q) (creator_named (call ∷ earlier) q)
  still_told none q = subst (IsTold fs live place (object_of whole.bindings q)) (sym (told_still call earlier q none)) (alike.told q)

  unnamed : (d : Decided) → Names d → ((nodes : Bool) → IsNaming nodes d → ⊥) → new_name call.op ≡ None
  unnamed d names never = by_name (new_name call.op) refl
    where
      by_name : (o : Option (List ℕ)) → new_name call.op ≡ o → o ≡ None
      by_name None is = refl
      by_name (Some name) is = absurd (never (creates_node call.op) (names name is))

  -- what the whole creates, as the calls tell of it
  new_told : (e : Edit) (b : Bool) → creates_node call.op ≡ b → is_of_buffers e ≡ not b → IsTold fs live place (Some (created_by whole e)) (if creates_node call.op then Some call.ordinal else None)
  new_told e true is of = subst (λ o. IsTold fs live place (Some o) (if creates_node call.op then Some call.ordinal else None)) (sym (of_nodes whole e of)) (call.ordinal, rw is refl, new is)
  new_told e false is of = subst (λ o. IsTold fs live place (Some o) (if creates_node call.op then Some call.ordinal else None)) (sym (of_buffers whole e of)) tt

  new_same : (e : Edit) (b : Bool) → is_of_buffers e ≡ not b → IsSameObject fs live place (Some (created_by whole e)) (Some (created_by part (part_edit fs e)))
  new_same e true of =
      subst (λ o. IsSameObject fs live place (Some o) (Some (created_by part (part_edit fs e)))) (sym (of_nodes whole e of))
      (λ kept. ap (λ (o : Object). Some o) (of_nodes part (part_edit fs e) (part_of_buffers fs e ∙ of) ∙ ap (λ k. object.Node (record { 0 = k })) (nodes_count fs part.world whole.world alike.world)))
  new_same e false of =
      subst (λ o. IsSameObject fs live place (Some o) (Some (created_by part (part_edit fs e)))) (sym (of_buffers whole e of))
      (ap (λ (o : Object). Some o) (of_buffers part (part_edit fs e) (part_of_buffers fs e ∙ of) ∙ ap (λ k. object.Buffer (record { 0 = k })) (buffers_count fs part.world whole.world alike.world)))

  -- ---- where it is heard

  edit_in_both : (e : Edit) → IsHeardEdit fs whole.world e → IsWithout fs (edited part.world part.context.time (part_edit fs e)) (edited whole.world whole.context.time e)
  edit_in_both e heard =
      subst (λ t. IsWithout fs (edited part.world t (part_edit fs e)) (edited whole.world whole.context.time e)) (sym (same_time fs live place earlier whole part alike))
      (heard_edit fs part.world whole.world whole.context.time e alike.world alike.steady.valid heard)

  both_edited : (e : Edit) (o : Option (List ℕ)) → new_name call.op ≡ o → Names (comes_to.Change e) → IsHeardEdit fs whole.world e → IsSteady (with_edit whole e o) → Then (with_edit whole e o) (with_edit part (part_edit fs e) o)
  both_edited e None is names heard steady = record {
    world = edit_in_both e heard;
    names = alike.names;
    told = still_told is;
    context = alike.context;
    steady = steady;
  }
  both_edited e (Some name) is names heard steady = record {
    world = edit_in_both e heard;
    names = same_bound fs live place whole.bindings part.bindings name (created_by whole e) (created_by part (part_edit fs e)) alike.names (new_same e (creates_node call.op) (names name is));
    told = bound_told fs live place whole.bindings call earlier name (created_by whole e) is alike.told (new_told e (creates_node call.op) refl (names name is));
    context = alike.context;
    steady = steady;
  }

  heard_settled : (d other : Decided) → Names d → is_fine d ≡ true → IsSteady (settled whole call d).machine → IsSame fs whole d other
      → Then (settled whole call d).machine (settled part (part_call place call) other).machine × (is_refusal (settled part (part_call place call) other).answer ≡ false)
  heard_settled (comes_to.Answer said) other names fine steady same =
      subst (λ d. Then whole (settled part (part_call place call) d).machine × (is_refusal (settled part (part_call place call) d).answer ≡ false)) (sym same) (
        record { world = alike.world; names = alike.names; told = still_told (unnamed (comes_to.Answer said) names (λ nodes refused. absurd (let k : is_refusal said ≡ true = refused in cc))); context = alike.context; steady = steady },
        unfine_of (is_refusal said) fine,
      )
  heard_settled comes_to.Start other names fine steady same =
      subst (λ d. Then (settled whole call comes_to.Start).machine (settled part (part_call place call) d).machine × (is_refusal (settled part (part_call place call) d).answer ≡ false)) (sym same) (
        record {
          world = alike.world;
          names = alike.names;
          told = still_told (unnamed comes_to.Start names (λ nodes never. never));
          context = ap (λ c. with_start c (place call.ordinal)) alike.context;
          steady = steady;
        },
        refl,
      )
  heard_settled (comes_to.Suspend frame) other names fine steady same =
      subst (λ d. Then (settled whole call (comes_to.Suspend frame)).machine (settled part (part_call place call) d).machine × (is_refusal (settled part (part_call place call) d).answer ≡ false)) (sym same) (
        record {
          world = alike.world;
          names = alike.names;
          told = still_told (unnamed (comes_to.Suspend frame) names (λ nodes never. never));
          context = ap (λ c. with_suspension c frame (place call.ordinal)) alike.context ∙ suspension_placed place whole.context frame call.ordinal;
          steady = steady;
        },
        refl,
      )
  heard_settled comes_to.Resume other names fine steady same =
      subst (λ d. Then (settled whole call comes_to.Resume).machine (settled part (part_call place call) d).machine × (is_refusal (settled part (part_call place call) d).answer ≡ false)) (sym same) (
        record {
          world = alike.world;
          names = alike.names;
          told = still_told (unnamed comes_to.Resume names (λ nodes never. never));
          context = ap resumed alike.context;
          steady = steady;
        },
        refl,
      )
  heard_settled (comes_to.Change e) other names fine steady same =
      subst (λ d. Then (settled whole call (comes_to.Change e)).machine (settled part (part_call place call) d).machine × (is_refusal (settled part (part_call place call) d).answer ≡ false)) (sym same.1)
      (both_edited e (new_name call.op) refl names same.0 steady, done_fine call.op)

  -- ---- where it is not

  whole_edited : (e : Edit) (o : Option (List ℕ)) → new_name call.op ≡ o → Names (comes_to.Change e) → IsUnheardEdit fs whole.world e → (creates_node call.op ≡ true → is_kept fs (length whole.world.nodes) ≡ false)
      → IsSteady (with_edit whole e o) → Then (with_edit whole e o) part
  whole_edited e None is names un gone steady = record {
    world = unheard_edit fs part.world whole.world whole.context.time e alike.world alike.steady.valid un;
    names = alike.names;
    told = still_told is;
    context = alike.context;
    steady = steady;
  }
  whole_edited e (Some name) is names un gone steady = record {
    world = unheard_edit fs part.world whole.world whole.context.time e alike.world alike.steady.valid un;
    names = same_dropped fs live place whole.bindings part.bindings name (created_by whole e) alike.names (not_same (creates_node call.op) refl (names name is));
    told = bound_told fs live place whole.bindings call earlier name (created_by whole e) is alike.told (new_told e (creates_node call.op) refl (names name is));
    context = alike.context;
    steady = steady;
  }
    where
      not_same : (b : Bool) → creates_node call.op ≡ b → is_of_buffers e ≡ not b → (other : Option Object) → IsSameObject fs live place (Some (created_by whole e)) other
      not_same true created of other = subst (λ o. IsSameObject fs live place (Some o) other) (sym (of_nodes whole e of)) (λ kept. absurd (let k = gone created in cc))
      not_same false created of other = absurd (never_unheard fs whole e of un)

  unheard_settled : (d : Decided) → Names d → is_fine d ≡ true → IsSteady (settled whole call d).machine → IsUnheard fs whole d → (creates_node call.op ≡ true → is_kept fs (length whole.world.nodes) ≡ false)
      → Then (settled whole call d).machine part
  unheard_settled (comes_to.Answer said) names fine steady un gone =
      record { world = alike.world; names = alike.names; told = still_told (unnamed (comes_to.Answer said) names (λ nodes refused. absurd (let k : is_refusal said ≡ true = refused in cc))); context = alike.context; steady = steady }
  unheard_settled comes_to.Start names fine steady un gone = absurd un
  unheard_settled (comes_to.Suspend frame) names fine steady un gone = absurd un
  unheard_settled comes_to.Resume names fine steady un gone = absurd un
  unheard_settled (comes_to.Change e) names fine steady un gone = whole_edited e (new_name call.op) refl names un gone steady

  -- what only reads comes to an answer
  read_unheard : (o : Op) → is_read o ≡ true → IsUnheard fs whole (decided_with whole held o)
  unfolding decided
  read_unheard (op.ReadValue node param) read = by_param (param_at whole (node_named whole node) param)
    where
      by_refusal : (r : Option Exc) (said : Answer) → IsUnheard fs whole (unless_refused r (comes_to.Answer said))
      by_refusal None said = tt
      by_refusal (Some exception) said = tt

      by_param : (o : Option ParamId) → IsUnheard fs whole (on_param o (λ id. comes_to.Answer (answer.Value (slot_of whole.world id))))
      by_param None = tt
      by_param (Some id) = by_refusal (name_refusal id.name) (answer.Value (slot_of whole.world id))
  read_unheard op.ReadState read = tt
  read_unheard op.ReadTime read = tt
  read_unheard other read = absurd cc

  -- ---- a call

  -- whether it does more than read, and touches live nodes alone
  abbrev pub is_heard_here : Bool
  is_heard_here = not (is_read call.op) && not (list_any (λ node. not (live node)) (touched_nodes earlier call))

  abbrev d : Decided
  d = decided_with whole held call.op

  pub was_fine : is_refusal (step whole held call).answer ≡ false → is_fine d ≡ true
  was_fine accepted = fine_of (is_fine d) (sym (answer_fine whole call d) ∙ accepted)

  names_d : Names d
  names_d name is = naming whole held call.op name is

  pub step_heard : is_refusal (step whole held call).answer ≡ false → IsSteady (step whole held call).machine → is_heard_here ≡ true
      → Then (step whole held call).machine (step part held (part_call place call)).machine × (is_refusal (step part held (part_call place call)).answer ≡ false)
  step_heard accepted steady heard =
      let both = and_parts (not (is_read call.op)) (not (list_any (λ node. not (live node)) (touched_nodes earlier call))) heard in
      heard_settled d (decided_with part held call.op) names_d (was_fine accepted) steady
      (heard_decided fs live place earlier whole part alike held call.ordinal call.op (unfine_of (is_read call.op) both.0)
      (unfine_of (list_any (λ node. not (live node)) (touched_nodes earlier call)) both.1) new (was_fine accepted))

  abbrev pub Closed : Type 0
  Closed = (from to : ℕ) → IsIn (from, to) (connections_of earlier call) → live to ≡ true → live from ≡ true

  closes : Closed → is_connect call.op ≡ true → (from to : ℕ) → filter_map (creator_named earlier) (node_names call.op) ≡ from ∷ to ∷ [] → live to ≡ true → live from ≡ true
  closes closed is from to named = closed from to (subst (λ (made : List (ℕ × ℕ)). IsIn (from, to) made) (sym (ap (λ b. if b then first_two (named_nodes earlier call) else []) is ∙ ap first_two named)) (inl refl))

  pub unheard_d : Closed → is_heard_here ≡ false → IsUnheard fs whole d
  unheard_d closed not_heard = by_read (is_read call.op) (list_any (λ node. not (live node)) (touched_nodes earlier call)) refl refl not_heard
    where
      by_read : (a b : Bool) → is_read call.op ≡ a → list_any (λ node. not (live node)) (touched_nodes earlier call) ≡ b → (not a && not b) ≡ false → IsUnheard fs whole d
      by_read true b read dead not_both = read_unheard call.op read
      by_read false true read dead not_both = unheard_decided fs live place earlier whole part alike held call.ordinal call.op dead new (closes closed)
      by_read false false read dead not_both = absurd cc

  gone_d : is_heard_here ≡ false → creates_node call.op ≡ true → is_kept fs (length whole.world.nodes) ≡ false
  gone_d not_heard created = new created ∙ by_dead (is_read call.op) (live call.ordinal) (never_reads call.op created) (subst (λ b. (not (is_read call.op) && not (list_any (λ node. not (live node)) (if b then call.ordinal ∷ [] else named_nodes earlier call))) ≡ false) created not_heard)
    where
      never_reads : (o : Op) → creates_node o ≡ true → is_read o ≡ false
      never_reads (op.ReadValue node param) is = absurd cc
      never_reads op.ReadState is = absurd cc
      never_reads op.ReadTime is = absurd cc
      never_reads other is = refl

      by_dead : (a b : Bool) → a ≡ false → (not a && not (not b || false)) ≡ false → b ≡ false
      by_dead true b read e = absurd cc
      by_dead false true read e = absurd cc
      by_dead false false read e = refl

  pub step_unheard : is_refusal (step whole held call).answer ≡ false → IsSteady (step whole held call).machine → is_heard_here ≡ false → Closed → Then (step whole held call).machine part
  step_unheard accepted steady not_heard closed =
      unheard_settled d names_d (was_fine accepted) steady (unheard_d closed not_heard) (gone_d not_heard)
