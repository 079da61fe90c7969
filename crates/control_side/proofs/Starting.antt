-- What calls do to a context: which start the rendering, and which let it go on.
use Rattle.std.proofs.Common.{ℕ, ◌≡◌, List, [], ◌∷◌, Bool, true, false, ◌||◌, Option, Some, None, refl, ◌∙◌, ap}
use Rattle.std.specs.Prelude.{is_some, not, ◌&&◌, IsSome, if◌then◌else◌}
use Rattle.std.specs.List.{list_any}
use Rattle.io_edge.specs.Paths.{Paths}
use Rattle.wa_base.specs.declared.exceptions.Exc.{Exc}
use Rattle.wa_base.specs.declared.exceptions.Exc.TheVariants.{InvalidState}
use Rattle.wa_base.specs.declared.contexts.State.{State}
use Rattle.wa_base.specs.declared.contexts.State.TheVariants as state
use Rattle.ctx_state.specs.Context.{ContextView, is_closed, start_refusal, with_start, resume_refusal, resumed, suspend_refusal, suspend_frame, with_suspension}
use Rattle.script_ast.specs.Operations.{new_name}
use Rattle.script_ast.specs.declared.call_list.Call.{Call}
use Rattle.script_ast.specs.declared.operations.Op.{Op}
use Rattle.script_ast.specs.declared.operations.Op.TheVariants as op
use Rattle.meaning.specs.declared.change.Edit.{Edit}
use Rattle.meaning.specs.declared.change.Edit.TheVariants as edit
use Rattle.meaning.specs.declared.world.World.{World}
use Rattle.meaning.specs.Changes.{edited}
use Rattle.control_side.specs.declared.decide.Decided.{Decided}
use Rattle.control_side.specs.declared.decide.Decided.TheVariants as comes_to
use Rattle.control_side.specs.Contexts.{changed_unless, operated, context_after_calls}
use Rattle.control_side.specs.Machine.{Machine}
use Rattle.control_side.specs.Step.{is_start, is_resume, promises, decided, decided_with, settled, with_edit}
use Rattle.control_side.proofs.Leaving.{op_leaves}

-- ---- from a machine to its context

module _ (machine : Machine) (call : Call) where
  -- a promise that is not kept leaves the context alone
  promise_context : (r : Option Exc) (d : Decided) (new : ContextView) → (settled machine call d).machine.context ≡ new
      → (settled machine call (promises r d)).machine.context ≡ changed_unless r machine.context new
  promise_context None d new is = is
  promise_context (Some exception) d new is = refl

  -- what an operation comes to does to the context what `operated` says
  pub op_context : (held : Paths) (o : Op) → (settled machine call (decided_with machine held o)).machine.context ≡ operated machine.context call.ordinal o
  unfolding decided
  op_context held op.StartRendering = promise_context (start_refusal machine.context) comes_to.Start (with_start machine.context call.ordinal) refl
  op_context held (op.Suspend time) =
      promise_context (suspend_refusal machine.context time) (comes_to.Suspend (suspend_frame machine.context time)) (with_suspension machine.context (suspend_frame machine.context time) call.ordinal) refl
  op_context held op.Resume = promise_context (resume_refusal machine.context) comes_to.Resume (resumed machine.context) refl
  op_context held other = op_leaves machine call held other refl

  -- and the numbers of the context stay
  edit_spec : (w : World) (now : ℕ) (e : Edit) → (edited w now e).spec ≡ w.spec
  edit_spec w now (edit.Create kind) = refl
  edit_spec w now (edit.CreateBufferSource rate buffer points) = refl
  edit_spec w now (edit.CreateConvolver buffer) = refl
  edit_spec w now (edit.Connect edge) = refl
  edit_spec w now (edit.Disconnect from form) = refl
  edit_spec w now (edit.Source node e) = refl
  edit_spec w now (edit.Param id e) = refl
  edit_spec w now (edit.Attribute node e) = refl
  edit_spec w now (edit.SetCurve node curve) = refl
  edit_spec w now (edit.Buffers e) = refl

  named_spec : (e : Edit) (name : Option (List ℕ)) → (with_edit machine e name).world.spec ≡ machine.world.spec
  named_spec e None = edit_spec machine.world machine.context.time e
  named_spec e (Some name) = edit_spec machine.world machine.context.time e

  pub settled_spec : (d : Decided) → (settled machine call d).machine.world.spec ≡ machine.world.spec
  settled_spec (comes_to.Answer said) = refl
  settled_spec comes_to.Start = refl
  settled_spec (comes_to.Suspend frame) = refl
  settled_spec comes_to.Resume = refl
  settled_spec (comes_to.Change e) = named_spec e (new_name call.op)

-- ---- a context after calls

-- the state of a context that was started, after calls that resume it or not: closed where it was, else running where it was or is resumed
abbrev pub state_after : Bool → State → State
state_after resumes state.Closed = state.Closed
state_after resumes state.Running = state.Running
state_after resumes state.Suspended = if resumes then state.Running else state.Suspended

same_state : (s : State) → s ≡ state_after false s
same_state state.Suspended = refl
same_state state.Running = refl
same_state state.Closed = refl

module _ (context : ContextView) (ordinal : ℕ) where
  -- what a call does not change, refused or not
  kept_by : {A : Type 0} (part : ContextView → A) (r : Option Exc) (new : ContextView) → part new ≡ part context → part (changed_unless r context new) ≡ part context
  kept_by part None new kept = kept
  kept_by part (Some exception) new kept = refl

  op_time : (o : Op) → (operated context ordinal o).time ≡ context.time
  op_time op.StartRendering = kept_by (λ c. c.time) (start_refusal context) (with_start context ordinal) refl
  op_time (op.Suspend time) = kept_by (λ c. c.time) (suspend_refusal context time) (with_suspension context (suspend_frame context time) ordinal) refl
  op_time op.Resume = kept_by (λ c. c.time) (resume_refusal context) (resumed context) refl
  op_time other = refl

  start_starts : (s : Option ℕ) → context.started ≡ s → is_some (changed_unless (if is_some s then Some InvalidState else None) context (with_start context ordinal)).started ≡ true
  start_starts None is = refl
  start_starts (Some first) is = rw is refl

  -- after a call rendering was started where it was before, or where the call starts it
  op_starts : (o : Op) → is_some (operated context ordinal o).started ≡ (is_start o || is_some context.started)
  op_starts op.StartRendering = start_starts context.started refl
  op_starts (op.Suspend time) = ap (λ s. is_some s) (kept_by (λ c. c.started) (suspend_refusal context time) (with_suspension context (suspend_frame context time) ordinal) refl)
  op_starts op.Resume = ap (λ s. is_some s) (kept_by (λ c. c.started) (resume_refusal context) (resumed context) refl)
  op_starts other = refl

  start_state : (s : Option ℕ) → IsSome s → (changed_unless (if is_some s then Some InvalidState else None) context (with_start context ordinal)).state ≡ context.state
  start_state None some = absurd cc
  start_state (Some first) some = refl

  resume_state : (begun : Bool) (s : State) → begun ≡ true → context.state ≡ s
      → (changed_unless (if begun && not (is_closed s) then None else Some InvalidState) context (resumed context)).state ≡ state_after true s
  resume_state false s on is = absurd cc
  resume_state true state.Suspended on is = refl
  resume_state true state.Running on is = refl
  resume_state true state.Closed on is = is

  op_state : (o : Op) → IsSome context.started → (operated context ordinal o).state ≡ state_after (is_resume o) context.state
  op_state op.StartRendering begun = start_state context.started begun ∙ same_state context.state
  op_state (op.Suspend time) begun = kept_by (λ c. c.state) (suspend_refusal context time) (with_suspension context (suspend_frame context time) ordinal) refl ∙ same_state context.state
  op_state op.Resume begun = resume_state (is_some context.started) context.state begun refl
  op_state other begun = same_state context.state

pub calls_time : (calls : List Call) (context : ContextView) → (context_after_calls context calls).time ≡ context.time
calls_time [] context = refl
calls_time (call ∷ calls) context = calls_time calls (operated context call.ordinal call.op) ∙ op_time context call.ordinal call.op

-- after a list of calls rendering was started where it was before, or where one of them starts it
pub calls_start : (calls : List Call) (context : ContextView) → is_some (context_after_calls context calls).started ≡ (list_any (λ (call : Call). is_start call.op) calls || is_some context.started)
calls_start [] context = refl
calls_start (call ∷ calls) context =
    calls_start calls (operated context call.ordinal call.op)
    ∙ ap (λ b. list_any (λ (c : Call). is_start c.op) calls || b) (op_starts context call.ordinal call.op)
    ∙ turned (list_any (λ (c : Call). is_start c.op) calls) (is_start call.op) (is_some context.started)
  where
    turned : (a b d : Bool) → (a || (b || d)) ≡ ((b || a) || d)
    turned true true d = refl
    turned true false d = refl
    turned false true d = refl
    turned false false d = refl

-- after a list of calls that comes once rendering was started, the context is closed where it was, and else it is running where it was or where one of them resumes it
pub calls_state : (calls : List Call) (context : ContextView) → IsSome context.started
    → (context_after_calls context calls).state ≡ state_after (list_any (λ (call : Call). is_resume call.op) calls) context.state
calls_state [] context begun = same_state context.state
calls_state (call ∷ calls) context begun =
    let next = operated context call.ordinal call.op in
    let still : IsSome next.started = op_starts context call.ordinal call.op ∙ ap (λ b. is_start call.op || b) begun ∙ or_true (is_start call.op) in
    calls_state calls next still
    ∙ ap (state_after (list_any (λ (c : Call). is_resume c.op) calls)) (op_state context call.ordinal call.op begun)
    ∙ turned (list_any (λ (c : Call). is_resume c.op) calls) (is_resume call.op) context.state
  where
    or_true : (b : Bool) → (b || true) ≡ true
    or_true true = refl
    or_true false = refl

    turned : (later now : Bool) (s : State) → state_after later (state_after now s) ≡ state_after (now || later) s
    turned later true state.Suspended = refl
    turned later false state.Suspended = refl
    turned later now state.Running = refl
    turned later now state.Closed = refl
