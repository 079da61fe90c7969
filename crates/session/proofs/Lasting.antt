-- What lists of calls leave of a session: its numbers, and a context that is not closed.
use Rattle.std.proofs.Common.{ℕ, ◌≡◌, List, [], ◌∷◌, length, false, Option, Some, None, refl, ◌∙◌, ap}
use Rattle.wa_base.specs.declared.exceptions.Exc.{Exc}
use Rattle.ctx_state.specs.Context.{ContextView, start_refusal, with_start, resume_refusal, resumed, suspend_refusal, suspend_frame, with_suspension, is_closed}
use Rattle.script_ast.specs.declared.call_list.Call.{Call}
use Rattle.script_ast.specs.declared.operations.Op.{Op}
use Rattle.script_ast.specs.declared.operations.Op.TheVariants as op
use Rattle.control_side.specs.Contexts.{changed_unless, operated, context_after_calls}
use Rattle.control_side.specs.Step.{decided_with}
use Rattle.control_side.proofs.Starting.{op_context, settled_spec}
use Rattle.session.specs.Folders.{Folder}
use Rattle.session.specs.Session.{Told, after_calls, after_call}

-- the context after calls does not depend on what else they come to
pub calls_context : (folder : Folder) (calls : List Call) (told : Told) → (after_calls folder told calls).machine.context ≡ context_after_calls told.machine.context calls
calls_context folder [] told = refl
calls_context folder (call ∷ calls) told =
    let held = folder (length told.lines) in
    calls_context folder calls (after_call told held call) ∙ ap (λ c. context_after_calls c calls) (op_context told.machine call held call.op)

pub calls_spec : (folder : Folder) (calls : List Call) (told : Told) → (after_calls folder told calls).machine.world.spec ≡ told.machine.world.spec
calls_spec folder [] told = refl
calls_spec folder (call ∷ calls) told =
    let held = folder (length told.lines) in
    calls_spec folder calls (after_call told held call) ∙ settled_spec told.machine call (decided_with told.machine held call.op)

module _ (context : ContextView) (ordinal : ℕ) where
  -- no call closes the context
  open_by : (r : Option Exc) (new : ContextView) → is_closed context.state ≡ false → is_closed new.state ≡ false → is_closed (changed_unless r context new).state ≡ false
  open_by None new stays kept = kept
  open_by (Some exception) new stays kept = stays

  op_open : (o : Op) → is_closed context.state ≡ false → is_closed (operated context ordinal o).state ≡ false
  op_open op.StartRendering stays = open_by (start_refusal context) (with_start context ordinal) stays refl
  op_open (op.Suspend time) stays = open_by (suspend_refusal context time) (with_suspension context (suspend_frame context time) ordinal) stays stays
  op_open op.Resume stays = open_by (resume_refusal context) (resumed context) stays refl
  op_open other stays = stays

pub calls_open : (calls : List Call) (context : ContextView) → is_closed context.state ≡ false → is_closed (context_after_calls context calls).state ≡ false
calls_open [] context stays = stays
calls_open (call ∷ calls) context stays = calls_open calls (operated context call.ordinal call.op) (op_open context call.ordinal call.op stays)
