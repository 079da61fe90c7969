-- A whole session, without a sample in it.
use Rattle.std.specs.Prelude.{ℕ, zero, suc, ◌≡◌, ◌⊎◌, ◌+◌, ◌-◌, ◌/◌, ◌==◌, List, [], ◌∷◌, ◌++◌, length, filter, if◌then◌else◌, Bool, true, false, None, is_some, IsTrue, IsSome}
use Rattle.std.specs.List.{list_any}
use Rattle.wa_base.specs.declared.contexts.ContextSpec.{ContextSpec}
use Rattle.wa_base.specs.Contexts.{quantum_of, is_supported}
use Rattle.wa_base.specs.declared.contexts.State.{State}
use Rattle.wa_base.specs.declared.contexts.State.TheVariants as state
use Rattle.wa_base.specs.declared.exceptions.Exc.TheVariants.{NotSupported}
use Rattle.io_edge.specs.Paths.{Paths}
use Rattle.ctx_state.specs.Context.{ContextView, is_closed, next, turn_of, after_turn as context_after}
use Rattle.ctx_state.specs.declared.context.Turn.{Turn}
use Rattle.ctx_state.specs.declared.context.Turn.TheVariants.{Went, Due, Done}
use Rattle.control_msgs.specs.Messages.{after}
use Rattle.script_ast.specs.declared.call_list.Call.{Call}
use Rattle.script_ast.specs.declared.call_list.Script.{Script}
use Rattle.transcript.specs.declared.lines.Line.{Line}
use Rattle.transcript.specs.declared.lines.Line.TheVariants as line
use Rattle.transcript.specs.declared.lines.EndWord.{EndWord}
use Rattle.transcript.specs.declared.lines.EndWord.TheVariants.{Completed, Stalled, Idle, Refused}
use Rattle.meaning.specs.declared.world.World.{World}
use Rattle.session.specs.Folders.{Folder}
use Rattle.control_side.specs.Machine.{Machine, first_machine}
use Rattle.control_side.specs.Step.{step, is_decode}
use Rattle.control_side.specs.Turns.{ended_lines}

-- a machine, and the lines so far
pub record Told : Type 0 where
  pub machine : Machine
  pub lines : List Line

-- ---- calls

-- after a call, where the paths of the folder hold this; each call adds a line
abbrev pub after_call : Told → Paths → Call → Told
after_call told held call = record {
  machine = (step told.machine held call).machine;
  lines = told.lines ++ line.Call call.ordinal (step told.machine held call).answer ∷ [];
}

-- after calls, each of which finds the folder as it is at that moment
abbrev pub after_calls : Folder → Told → List Call → Told
after_calls folder told [] = told
after_calls folder told (call ∷ calls) = after_calls folder (after_call told (folder (length told.lines)) call) calls

-- the calls of the list that a call holds; 0 holds the main list
abbrev pub held_by : ℕ → List Call → List Call
held_by holder calls = filter (λ call. call.holder == holder) calls

-- after the list that a call holds
abbrev pub after_list : Folder → List Call → Told → ℕ → Told
after_list folder calls told ordinal = after_calls folder told (held_by ordinal calls)

-- ---- a turn

-- a promise resolves where a suspension is due, and at the length
abbrev pub promise_lines : Turn → List Line
promise_lines Went = []
promise_lines (Due ordinal) = line.Resolved ordinal ∷ []
promise_lines (Done ordinal) = line.Resolved ordinal ∷ []

-- the lines that a turn adds
abbrev pub lines_after : Machine → List Line
lines_after machine = ended_lines machine.first_names (next machine.context) machine.world.scheds.items ++ promise_lines (turn_of machine.context)

-- the machine after a turn: one render quantum, and what it leads to
abbrev pub machine_after : Machine → Machine
machine_after machine = record machine {
  context = context_after machine.context;
  world = after machine.context.time (next machine.context) machine.world;
}

abbrev pub after_turn : Told → Told
after_turn told = record { machine = machine_after told.machine; lines = told.lines ++ lines_after told.machine }

-- ---- the end

-- a session's lines, its end, and the world of each of its quanta
pub record Played : Type 0 where
  pub lines : List Line
  pub end : EndWord
  pub tape : List World

-- how a session ends: it completed; it stalled, where a suspension was not resumed; or rendering was never started
abbrev pub end_of : ContextView → EndWord
end_of c = if is_closed c.state then Completed else if is_some c.started then Stalled c.time else Idle

-- the complete event comes last
abbrev pub lines_at_end : Told → List Line
lines_at_end told = if is_closed told.machine.context.state then told.lines ++ line.Complete told.machine.world.spec.length ∷ [] else told.lines

abbrev pub finished : Told → List World → Played
finished told tape = record { lines = lines_at_end told; end = end_of told.machine.context; tape = tape }

-- ---- turn by turn

-- as many quanta as reach the length from a frame on
abbrev pub quanta_from : ℕ → ContextSpec → ℕ
quanta_from frame spec = (spec.length - frame + (quantum_of spec - 1)) / quantum_of spec

-- as many quanta as are left
abbrev pub quanta_left : Machine → ℕ
quanta_left machine = quanta_from machine.context.time machine.world.spec

-- whether rendering goes on
abbrev pub is_running : State → Bool
is_running state.Suspended = false
is_running state.Running = true
is_running state.Closed = false

abbrev pub by_turn : Turn → Played → (ℕ → Played) → (ℕ → Played) → Played
by_turn Went went due done = went
by_turn (Due ordinal) went due done = due ordinal
by_turn (Done ordinal) went due done = done ordinal

-- A turn puts the world in force onto the tape and renders a quantum of it. Where a suspension is due its list runs, and the session is at its end unless that resumed it. Where the length is reached the list of startRendering runs. There are no more turns than quanta left.
abbrev pub turns : ℕ → Folder → List Call → Told → List World → Played
turns zero folder calls told tape = finished told tape
turns (suc left) folder calls told tape =
    let tape = tape ++ told.machine.world ∷ [] in
    let turn = turn_of told.machine.context in
    let told = after_turn told in
    by_turn turn
    (turns left folder calls told tape)
    (λ ordinal.
    let told = after_list folder calls told ordinal in
    if is_running told.machine.context.state then turns left folder calls told tape else finished told tape)
    (λ ordinal. finished (after_list folder calls told ordinal) tape)

-- rendering that was started goes on to its end
abbrev pub rendered : Folder → List Call → Told → Played
rendered folder calls told = if is_some told.machine.context.started then turns (quanta_left told.machine) folder calls told [] else finished told []

-- ---- the session

abbrev pub first_told : ContextSpec → Told
first_told spec = record { machine = first_machine spec; lines = [] }

-- the main list runs first
abbrev pub main_list : Folder → List Call → Told → Told
main_list folder calls told = after_list folder calls told 0

abbrev pub replayed : Folder → List Call → Told → Played
replayed folder calls told = rendered folder calls (main_list folder calls told)

-- a session, over a folder of assets
unfoldable pub session_of : Folder → Script → Played
session_of folder script =
    if is_supported script.context then replayed folder script.calls (first_told script.context)
    else record { lines = []; end = Refused (NotSupported None); tape = [] }

-- ---- which sessions look into the folder

abbrev pub HasDecode : List Call → Type 0
HasDecode calls = list_any (λ (call : Call). is_decode call.op) calls ≡ true

abbrev pub ByTurn : Turn → Type 0 → (ℕ → Type 0) → (ℕ → Type 0) → Type 0
ByTurn Went went due done = went
ByTurn (Due ordinal) went due done = due ordinal
ByTurn (Done ordinal) went due done = done ordinal

-- a decodeAudioData is in a list that runs in one of the turns
abbrev pub TurnsDecode : ℕ → Folder → List Call → Told → Type 0
TurnsDecode zero folder calls told = ⊥
TurnsDecode (suc left) folder calls told =
    let turn = turn_of told.machine.context in
    let told = after_turn told in
    ByTurn turn
    (TurnsDecode left folder calls told)
    (λ ordinal.
    let list = held_by ordinal calls in
    let told = after_calls folder told list in
    HasDecode list ⊎ (IsTrue (is_running told.machine.context.state) × TurnsDecode left folder calls told))
    (λ ordinal. HasDecode (held_by ordinal calls))

-- a decodeAudioData is in the main list, or in a list that runs later
abbrev pub Decodes : Folder → List Call → Told → Type 0
Decodes folder calls told =
    let list = held_by 0 calls in
    let told = after_calls folder told list in
    HasDecode list ⊎ (IsSome told.machine.context.started × TurnsDecode (quanta_left told.machine) folder calls told)

-- The session of a script looks into the folder. That of a context that is not supported calls nothing.
abbrev pub SessionDecodes : Folder → Script → Type 0
SessionDecodes folder script = IsTrue (is_supported script.context) × Decodes folder script.calls (first_told script.context)
