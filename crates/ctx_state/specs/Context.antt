-- When an offline context renders: its state, its time and its suspensions (the recommendation's section on OfflineAudioContext).
use Rattle.std.specs.Prelude.{ℕ, ◌≡◌, ◌<◌, ◌≤◌, ◌+◌, ◌-◌, ◌*◌, ◌/◌, ◌&&◌, ◌⊎◌, nat_le, nat_lt, not, ℤ, pos, negsuc, List, [], Bool, true, false, if◌then◌else◌, is_some, unwrap_or, IsSome, Option, Some, None}
use Rattle.std.specs.Ordering.{nat_cmp}
use Rattle.std.specs.BTreeMap.{insert_entry, is_at}
use Rattle.std.specs.Map.{lookup, remove_entry}
use Rattle.wa_base.specs.Contexts.{quantum_of, IsSupported}
use Rattle.wa_base.specs.declared.contexts.ContextSpec.{ContextSpec}
use Rattle.wa_base.specs.declared.contexts.State.{State}
use Rattle.wa_base.specs.declared.contexts.State.TheVariants.{Suspended, Running, Closed}
use Rattle.wa_base.specs.declared.exceptions.Exc.{Exc}
use Rattle.wa_base.specs.declared.exceptions.Exc.TheVariants.{InvalidState}
use Rattle.ctx_state.specs.declared.context.Turn.{Turn}
use Rattle.ctx_state.specs.declared.context.Turn.TheVariants.{Went, Due, Done}

pub record ContextView : Type 0 where
  pub spec : ContextSpec
  pub state : State
  -- the first frame of the next quantum
  pub time : ℕ
  -- the ordinal of the accepted startRendering
  pub started : Option ℕ
  -- the frames at which rendering is to be suspended, in ascending order, each with the ordinal of the suspend that asked for it
  pub suspensions : List (ℕ × ℕ)

-- a context before its first call
abbrev pub first_context : ContextSpec → ContextView
first_context spec = record { spec = spec; state = Suspended; time = 0; started = None; suspensions = [] }

-- ---- startRendering and resume

-- rendering is started once
abbrev pub start_refusal : ContextView → Option Exc
start_refusal c = if is_some c.started then Some InvalidState else None

abbrev pub with_start : ContextView → ℕ → ContextView
with_start c ordinal = record c { state = Running; started = Some ordinal }

abbrev pub is_closed : State → Bool
is_closed Suspended = false
is_closed Running = false
is_closed Closed = true

-- what was not started, or is closed, is not resumed
abbrev pub resume_refusal : ContextView → Option Exc
resume_refusal c = if is_some c.started && not (is_closed c.state) then None else Some InvalidState

-- a running context is resumed without effect
abbrev pub resumed : ContextView → ContextView
resumed c = record c { state = Running }

-- ---- suspend

-- a time in frames, moved up to the next boundary of quanta; none where that is negative
abbrev pub quantised : ℕ → ℤ → Option ℕ
quantised quantum (pos n) = Some ((n + (quantum - 1)) / quantum * quantum)
quantised quantum (negsuc n) = if nat_lt (n + 1) quantum then Some 0 else None

-- the ordinal of the suspend that is scheduled at a frame
abbrev pub ordinal_at : ℕ → List (ℕ × ℕ) → Option ℕ
ordinal_at frame suspensions = lookup (is_at (nat_cmp frame)) suspensions

-- a suspension is to come before the length, one at a frame
abbrev pub may_suspend : ContextView → ℕ → Bool
may_suspend c frame = nat_lt c.time frame && nat_lt frame c.spec.length && not (is_some (ordinal_at frame c.suspensions))

abbrev pub frame_refusal : ContextView → Option ℕ → Option Exc
frame_refusal c None = Some InvalidState
frame_refusal c (Some frame) = if may_suspend c frame then None else Some InvalidState

-- why a suspend at a time is refused
abbrev pub suspend_refusal : ContextView → ℤ → Option Exc
suspend_refusal c time = frame_refusal c (quantised (quantum_of c.spec) time)

-- the frame at which a suspend at a time takes effect
abbrev pub suspend_frame : ContextView → ℤ → ℕ
suspend_frame c time = unwrap_or (quantised (quantum_of c.spec) time) 0

abbrev pub with_suspension : ContextView → ℕ → ℕ → ContextView
with_suspension c frame ordinal = record c { suspensions = insert_entry nat_cmp c.suspensions frame ordinal }

-- ---- quanta

abbrev pub next : ContextView → ℕ
next c = c.time + quantum_of c.spec

abbrev pub due_or_not : Option ℕ → Turn
due_or_not None = Went
due_or_not (Some ordinal) = Due ordinal

-- what the next quantum leads to: the length is reached, or a suspension is due, or rendering goes on
abbrev pub turn_of : ContextView → Turn
turn_of c = if nat_le c.spec.length (next c) then Done (unwrap_or c.started 0) else due_or_not (ordinal_at (next c) c.suspensions)

abbrev pub turned_by : Turn → ContextView → ContextView
turned_by Went c = c
turned_by (Due ordinal) c = record c { state = Suspended; suspensions = remove_entry (is_at (nat_cmp c.time)) c.suspensions }
turned_by (Done ordinal) c = record c { state = Closed }

-- a context after its next quantum
unfoldable pub after_turn : ContextView → ContextView
after_turn c = turned_by (turn_of c) (record c { time = next c })

-- After a turn that is not the last one there are frames left; where rendering goes on the context is running. The last one has the ordinal of the startRendering.
abbrev pub IsTurned : Turn → ContextView → ContextView → Type 0
IsTurned Went old new = (new.state ≡ Running) × (new.time < new.spec.length)
IsTurned (Due ordinal) old new = (new.state ≡ Suspended) × (new.time < new.spec.length)
IsTurned (Done ordinal) old new = (old.started ≡ Some ordinal) × (old.spec.length ≤ new.time)

-- ---- what holds of every context

-- A suspended context was not started and stands at frame 0, or was started and has frames left, as a running one; a closed one has none left.
abbrev pub IsInState : State → Option ℕ → ℕ → ℕ → Type 0
IsInState Suspended started time length = ((started ≡ None) × (time ≡ 0)) ⊎ (IsSome started × (time < length))
IsInState Running started time length = IsSome started × (time < length)
IsInState Closed started time length = IsSome started × (length ≤ time)

pub record IsContext (c : ContextView) : Type 0 where
  pub in_state : IsInState c.state c.started c.time c.spec.length
  pub spec : IsSupported c.spec
  pub short : c.time ≤ 33555456
