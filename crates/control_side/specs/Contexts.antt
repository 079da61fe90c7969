-- What calls do to a context, whatever else they come to.
use Rattle.std.specs.Prelude.{ℕ, List, [], ◌∷◌, Option, Some, None}
use Rattle.wa_base.specs.declared.exceptions.Exc.{Exc}
use Rattle.ctx_state.specs.Context.{ContextView, start_refusal, with_start, resume_refusal, resumed, suspend_refusal, suspend_frame, with_suspension}
use Rattle.script_ast.specs.declared.call_list.Call.{Call}
use Rattle.script_ast.specs.declared.operations.Op.{Op}
use Rattle.script_ast.specs.declared.operations.Op.TheVariants as op

-- a context is changed, unless the call is refused: then it stays
abbrev pub changed_unless : Option Exc → ContextView → ContextView → ContextView
changed_unless None old new = new
changed_unless (Some exception) old new = old

-- the context after a call with this ordinal: it is started, resumed, or to be suspended at a frame, and any other operation leaves it
abbrev pub operated : ContextView → ℕ → Op → ContextView
operated context ordinal op.StartRendering = changed_unless (start_refusal context) context (with_start context ordinal)
operated context ordinal (op.Suspend time) = changed_unless (suspend_refusal context time) context (with_suspension context (suspend_frame context time) ordinal)
operated context ordinal op.Resume = changed_unless (resume_refusal context) context (resumed context)
operated context ordinal other = context

-- and after calls, in their order
abbrev pub context_after_calls : ContextView → List Call → ContextView
context_after_calls context [] = context
context_after_calls context (call ∷ calls) = context_after_calls (operated context call.ordinal call.op) calls
