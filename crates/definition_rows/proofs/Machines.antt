-- How rows are written: machines on which calls are made, and what each call is answered.
use Rattle.std.specs.Prelude.{◌-◌, length}
pub use Rattle.std.specs.Prelude.{ℕ, ℤ, pos, neg_ℤ, ◌≡◌, List, [], ◌∷◌, ◌++◌, map, replicate, codes, true, false, Option, None, Some, refl}
use Rattle.wa_base.specs.declared.contexts.ContextSpec.{ContextSpec}
use Rattle.wa_base.specs.declared.contexts.State.TheVariants.{Running}
use Rattle.wa_base.specs.declared.exceptions.Exc.{Exc}
pub use Rattle.wa_base.specs.declared.exceptions.Exc.TheVariants.{NotSupported, InvalidState, InvalidAccess, IndexSize, Range, WrongType, NotFound, Encoding}
use Rattle.wa_base.specs.declared.features.Feature.{Feature}
use Rattle.param_events.specs.Edits.{time_refusal, in_curve, curve_over, event_refusal, span_refusal}
use Rattle.param_events.specs.Values.{value_at}
use Rattle.buffer_store.specs.Buffers.{with_written}
use Rattle.name_book.specs.Book.{destination}
use Rattle.node_table.specs.Nodes.{node_of}
use Rattle.node_table.specs.declared.kinds.Kind.TheVariants as kind
use Rattle.script_ast.specs.declared.call_list.Call.{Call}
pub use Rattle.script_ast.specs.declared.operations.Op.{Op}
use Rattle.script_ast.specs.declared.operations.Op.TheVariants as op
use Rattle.script_ast.specs.declared.operations.Oversample.TheVariants.{Off}
pub use Rattle.transcript.specs.declared.lines.Answer.{Answer}
use Rattle.transcript.specs.declared.lines.Answer.TheVariants as answer
pub use Rattle.control_side.specs.Machine.{Machine, first_machine}
use Rattle.control_side.specs.Params.{param_named}
use Rattle.control_side.specs.Step.{Stepped, decided, step}

-- the seventh call of a script's main list
abbrev pub call : Op → Call
call operation = record { ordinal = 7; holder = 0; op = operation }

-- what a call leaves, and its answer, where the folder has no file
unfoldable pub stepped : Machine → Op → Stepped
unfolding decided param_named destination time_refusal in_curve curve_over event_refusal span_refusal value_at with_written
stepped machine operation = step machine (λ path. None) (call operation)

-- the machine after calls, in their order
unfoldable pub after : Machine → List Op → Machine
after machine [] = machine
after machine (operation ∷ operations) = after (stepped machine operation).machine operations

-- a row: an operation, and what it is answered
infix 75 ◌gives◌
abbrev pub ◌gives◌ : Op → Answer → Op × Answer
operation gives said = (operation, said)

-- each operation is answered so on this machine, whatever the others do
abbrev pub Answers : Machine → List (Op × Answer) → Type 0
Answers machine rows = map (λ (row : Op × Answer). (stepped machine row.0).answer) rows ≡ map (λ (row : Op × Answer). row.1) rows

abbrev pub throw : Exc → Answer
throw exception = answer.Throw exception

-- a refusal that names a feature of the profile
abbrev pub profile : Feature → Answer
profile feature = answer.Throw (NotSupported (Some feature))

-- names: those of the machine below, of parameters, and one that nothing has
abbrev pub dest : List ℕ
dest = codes "destination"

abbrev pub c : List ℕ
c = codes "c"

abbrev pub g : List ℕ
g = codes "g"

abbrev pub s : List ℕ
s = codes "s"

abbrev pub d : List ℕ
d = codes "d"

abbrev pub w : List ℕ
w = codes "w"

abbrev pub p : List ℕ
p = codes "p"

abbrev pub m : List ℕ
m = codes "m"

abbrev pub b : List ℕ
b = codes "b"

abbrev pub o : List ℕ
o = codes "o"

abbrev pub x : List ℕ
x = codes "x"

abbrev pub nobody : List ℕ
nobody = codes "nobody"

abbrev pub offset : List ℕ
offset = codes "offset"

abbrev pub gain : List ℕ
gain = codes "gain"

abbrev pub delay_time : List ℕ
delay_time = codes "delayTime"

abbrev pub playback_rate : List ℕ
playback_rate = codes "playbackRate"

abbrev pub detune : List ℕ
detune = codes "detune"

abbrev pub one : ℤ
one = pos 16777216

-- one channel of eight quanta at so many frames a second
abbrev pub context : ℕ → ContextSpec
context rate = record { channels = 1; length = 1024; rate = rate; quantum = 128 }

-- Behind the destination a constant source c, a gain g, a buffer source s without a buffer, a delay d, a shaper w without a curve, a splitter p with
-- three outputs and a merger m with three inputs; and two mono buffers of four frames, b at the context's rate and o at another.
unfoldable pub studio : Machine
studio = after (first_machine (context 48000)) (
    op.Create c (kind.Constant one) ∷ op.Create g (kind.Gain one) ∷ op.CreateBufferSource s None false (pos 0) (pos 0) one ∷ op.CreateDelay d one (pos 0) ∷ op.CreateWaveShaper w None Off
    ∷ op.Create p (kind.Splitter 3) ∷ op.Create m (kind.Merger 3) ∷ op.CreateBuffer b 1 4 48000 ∷ op.CreateBuffer o 1 4 44100 ∷ [])

-- the machine with gains without names beside its nodes, so that there are so many
abbrev pub crowded : Machine → ℕ → Machine
crowded machine count =
    record machine { world = record machine.world { nodes = machine.world.nodes ++ replicate (count - length machine.world.nodes) (node_of (kind.Gain one) 0) } }

-- the machine while it renders, with this frame as the first of the next quantum
abbrev pub at_frame : ℕ → Machine → Machine
at_frame frame machine = record machine { context = record machine.context { state = Running; time = frame; started = Some 6 } }
