-- What a turn, and the list that is done after it, make of the context.
use Rattle.std.proofs.Common.{ℕ, ◌≡◌, List, Bool, true, false, ◌||◌, refl, sym, ◌∙◌, ap, subst}
use Rattle.std.specs.Prelude.{is_some, IsSome, if◌then◌else◌}
use Rattle.std.specs.List.{list_any}
use Rattle.wa_base.specs.declared.contexts.State.TheVariants.{Suspended}
use Rattle.ctx_state.specs.Context.{ContextView, turn_of, after_turn as turned, is_closed}
use Rattle.ctx_state.specs.declared.context.Turn.TheVariants.{Due, Done}
use Rattle.script_ast.specs.declared.call_list.Call.{Call}
use Rattle.transcript.specs.declared.lines.EndWord.TheVariants.{Completed, Stalled, Idle}
use Rattle.session.specs.Folders.{Folder}
use Rattle.control_side.specs.Contexts.{context_after_calls}
use Rattle.session.specs.Session.{Told, held_by, after_turn, after_list, is_running, end_of}
use Rattle.control_side.specs.Step.{is_start}
use Rattle.replay_top.specs.Laws.{has_resume}
use Rattle.control_side.proofs.Starting.{calls_start, calls_state, state_after}
use Rattle.session.proofs.Lasting.{calls_context}
use Rattle.control_side.proofs.Stepping.{turned_started, due_suspends, done_closes}

-- a session ends Completed where its context is closed
pub closed_completes : (c : ContextView) → is_closed c.state ≡ true → end_of c ≡ Completed
closed_completes c closed = ap (λ b. if b then Completed else if is_some c.started then Stalled c.time else Idle) closed

pub completed_closed : (c : ContextView) → end_of c ≡ Completed → is_closed c.state ≡ true
completed_closed c is = by_test (is_closed c.state) (is_some c.started) is
  where
    by_test : (closed started : Bool) → (if closed then Completed else if started then Stalled c.time else Idle) ≡ Completed → closed ≡ true
    by_test true started is = refl
    by_test false true is = absurd cc
    by_test false false is = absurd cc

-- ---- a context that was started

-- after a turn, and after the list that is done then
abbrev pub listed : List Call → ContextView → ℕ → ContextView
listed calls context ordinal = context_after_calls (turned context) (held_by ordinal calls)

module _ (calls : List Call) (context : ContextView) (begun : IsSome context.started) where
  pub still : IsSome (turned context).started
  still = subst IsSome (sym (turned_started context)) begun

  pub listed_still : (ordinal : ℕ) → IsSome (listed calls context ordinal).started
  listed_still ordinal = calls_start (held_by ordinal calls) (turned context) ∙ ap (λ b. list_any (λ (c : Call). is_start c.op) (held_by ordinal calls) || b) still ∙ or_true _
    where
      or_true : (b : Bool) → (b || true) ≡ true
      or_true true = refl
      or_true false = refl

  due_state : (ordinal : ℕ) → turn_of context ≡ Due ordinal → (listed calls context ordinal).state ≡ state_after (has_resume (held_by ordinal calls)) Suspended
  due_state ordinal due = calls_state (held_by ordinal calls) (turned context) still ∙ ap (state_after (has_resume (held_by ordinal calls))) (due_suspends context ordinal due)

  -- a suspended context goes on where its list has a resume
  pub runs_on : (ordinal : ℕ) → turn_of context ≡ Due ordinal → is_running (listed calls context ordinal).state ≡ has_resume (held_by ordinal calls)
  runs_on ordinal due = ap is_running (due_state ordinal due) ∙ resumed_runs (has_resume (held_by ordinal calls))
    where
      resumed_runs : (b : Bool) → is_running (state_after b Suspended) ≡ b
      resumed_runs true = refl
      resumed_runs false = refl

  pub waits : (ordinal : ℕ) → turn_of context ≡ Due ordinal → is_closed (listed calls context ordinal).state ≡ false
  waits ordinal due = ap is_closed (due_state ordinal due) ∙ resumed_waits (has_resume (held_by ordinal calls))
    where
      resumed_waits : (b : Bool) → is_closed (state_after b Suspended) ≡ false
      resumed_waits true = refl
      resumed_waits false = refl

  -- a closed one stays so
  pub stays_closed : (ordinal : ℕ) → turn_of context ≡ Done ordinal → is_closed (listed calls context ordinal).state ≡ true
  stays_closed ordinal done = ap is_closed (calls_state (held_by ordinal calls) (turned context) still ∙ ap (state_after (has_resume (held_by ordinal calls))) (done_closes context ordinal done))

-- the context of a session there
pub listed_context : (folder : Folder) (calls : List Call) (told : Told) (ordinal : ℕ) → (after_list folder calls (after_turn told) ordinal).machine.context ≡ listed calls told.machine.context ordinal
listed_context folder calls told ordinal = calls_context folder (held_by ordinal calls) (after_turn told)
