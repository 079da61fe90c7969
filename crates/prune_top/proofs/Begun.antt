-- What a call and a turn leave of a context: its numbers, its time, and that rendering was started.
use Rattle.std.proofs.Common.{ℕ, ◌≡◌, List, [], ◌∷◌, length, true, Option, None, Some, refl, ◌∙◌, ap}
use Rattle.std.specs.Prelude.{is_some}
use Rattle.wa_base.specs.declared.contexts.State.TheVariants.{Closed}
use Rattle.script_ast.specs.Operations.{new_name}
use Rattle.script_ast.specs.declared.call_list.Call.{Call}
use Rattle.ctx_state.specs.Context.{ContextView, next, turn_of, turned_by, after_turn as context_after}
use Rattle.ctx_state.specs.declared.context.Turn.{Turn}
use Rattle.ctx_state.specs.declared.context.Turn.TheVariants.{Went, Due, Done}
use Rattle.control_side.specs.declared.decide.Decided.{Decided}
use Rattle.control_side.specs.declared.decide.Decided.TheVariants as comes_to
use Rattle.control_side.specs.Machine.{Machine}
use Rattle.control_side.specs.Step.{decided_with, settled, with_edit}
use Rattle.session.specs.Folders.{Folder}
use Rattle.session.specs.Session.{Told, after_call, after_calls, after_turn}

-- a context keeps its numbers and its time, and stays started
pub record Keeps (old new : ContextView) : Type 0 where
  pub spec : new.spec ≡ old.spec
  pub time : new.time ≡ old.time
  pub begun : is_some old.started ≡ true → is_some new.started ≡ true

same_context : (c : ContextView) → Keeps c c
same_context c = record { spec = refl; time = refl; begun = λ is. is }

pub settled_begun : (m : Machine) (call : Call) (d : Decided) → Keeps m.context (settled m call d).machine.context
settled_begun m call (comes_to.Answer said) = same_context m.context
settled_begun m call comes_to.Start = record { spec = refl; time = refl; begun = λ is. refl }
settled_begun m call (comes_to.Suspend frame) = record { spec = refl; time = refl; begun = λ is. is }
settled_begun m call comes_to.Resume = record { spec = refl; time = refl; begun = λ is. is }
settled_begun m call (comes_to.Change e) = by_name (new_name call.op)
  where
    by_name : (o : Option (List ℕ)) → Keeps m.context (with_edit m e o).context
    by_name None = same_context m.context
    by_name (Some name) = same_context m.context

pub list_keeps : (folder : Folder) (cs : List Call) (told : Told) → Keeps told.machine.context (after_calls folder told cs).machine.context
list_keeps folder [] told = same_context told.machine.context
list_keeps folder (c ∷ cs) told =
    let held = folder (length told.lines) in
    let one = settled_begun told.machine c (decided_with told.machine held c.op) in
    let rest = list_keeps folder cs (after_call told held c) in
    record { spec = rest.spec ∙ one.spec; time = rest.time ∙ one.time; begun = λ is. rest.begun (one.begun is) }

pub list_begun : (folder : Folder) (cs : List Call) (told : Told) → is_some told.machine.context.started ≡ true → is_some (after_calls folder told cs).machine.context.started ≡ true
list_begun folder cs told is = (list_keeps folder cs told).begun is

turned_started : (t : Turn) (c : ContextView) → (turned_by t c).started ≡ c.started
turned_started Went c = refl
turned_started (Due ordinal) c = refl
turned_started (Done ordinal) c = refl

pub turn_started : (c : ContextView) → (context_after c).started ≡ c.started
unfolding context_after
turn_started c = turned_started (turn_of c) (record c { time = next c })

pub turn_begun : (told : Told) → is_some told.machine.context.started ≡ true → is_some (after_turn told).machine.context.started ≡ true
turn_begun told is = ap is_some (turn_started told.machine.context) ∙ is

turned_spec : (t : Turn) (c : ContextView) → (turned_by t c).spec ≡ c.spec
turned_spec Went c = refl
turned_spec (Due ordinal) c = refl
turned_spec (Done ordinal) c = refl

turned_time : (t : Turn) (c : ContextView) → (turned_by t c).time ≡ c.time
turned_time Went c = refl
turned_time (Due ordinal) c = refl
turned_time (Done ordinal) c = refl

pub turn_spec : (c : ContextView) → (context_after c).spec ≡ c.spec
unfolding context_after
turn_spec c = turned_spec (turn_of c) (record c { time = next c })

pub turn_time : (c : ContextView) → (context_after c).time ≡ next c
unfolding context_after
turn_time c = turned_time (turn_of c) (record c { time = next c })

-- the last turn closes the context
pub done_closes : (c : ContextView) (ordinal : ℕ) → turn_of c ≡ Done ordinal → (context_after c).state ≡ Closed
unfolding context_after
done_closes c ordinal is = ap (λ t. (turned_by t (record c { time = next c })).state) is
