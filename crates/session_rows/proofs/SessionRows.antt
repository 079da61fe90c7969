-- Whole sessions (docs/PROFILE.md, "A session"): their lines, their end and the number of their quanta.
use Rattle.std.specs.Prelude.{ℕ, ℤ, pos, ◌≡◌, List, [], ◌∷◌, map, length, codes, true, Option, None, Some, refl}
use Rattle.wa_base.specs.Contexts.{is_supported}
use Rattle.wa_base.specs.declared.contexts.ContextSpec.{ContextSpec}
use Rattle.wa_base.specs.declared.contexts.State.TheVariants.{Suspended, Running, Closed}
use Rattle.wa_base.specs.declared.exceptions.Exc.TheVariants.{NotSupported, InvalidState, NotFound}
use Rattle.wa_base.specs.declared.features.Feature.TheVariants.{BufferAcquired}
use Rattle.ctx_state.specs.Context.{after_turn as context_after}
use Rattle.buffer_store.specs.Buffers.{with_written}
use Rattle.param_events.specs.Edits.{time_refusal, in_curve, event_refusal}
use Rattle.param_events.specs.Values.{value_at}
use Rattle.name_book.specs.Book.{destination}
use Rattle.node_table.specs.declared.kinds.Kind.TheVariants as kind
use Rattle.script_ast.specs.declared.call_list.Call.{Call}
use Rattle.script_ast.specs.declared.operations.Op.{Op}
use Rattle.script_ast.specs.declared.operations.Op.TheVariants as op
use Rattle.transcript.specs.declared.lines.Answer.{Answer}
use Rattle.transcript.specs.declared.lines.Answer.TheVariants.{Ok, Throw, Pending, Resolved as ResolvedNow, Rejected, Value, State, Time}
use Rattle.transcript.specs.declared.lines.EndWord.{EndWord}
use Rattle.transcript.specs.declared.lines.EndWord.TheVariants.{Completed, Stalled, Idle, Refused}
use Rattle.transcript.specs.declared.lines.Line.{Line}
use Rattle.transcript.specs.declared.lines.Line.TheVariants as line
use Rattle.meaning.specs.declared.world.World.{World}
use Rattle.control_side.specs.Params.{param_named}
use Rattle.control_side.specs.Step.{decided}
use Rattle.session.specs.Session.{Played, session_of}

abbrev spec : ℕ → ℕ → ContextSpec
spec channels length = record { channels = channels; length = length; rate = 48000; quantum = 128 }

-- a call of the main list, and one of the list that a call holds
abbrev main : ℕ → Op → Call
main ordinal operation = record { ordinal = ordinal; holder = 0; op = operation }

abbrev held : ℕ → ℕ → Op → Call
held holder ordinal operation = record { ordinal = ordinal; holder = holder; op = operation }

-- a session over a folder without a file
unfoldable played : ContextSpec → List Call → Played
unfolding is_supported context_after time_refusal in_curve event_refusal value_at with_written destination param_named decided session_of
played context calls = session_of (λ moment path. None) (record { context = context; calls = calls })

-- it has these lines, this end and so many quanta
abbrev Tells : Played → List Line → EndWord → ℕ → Type 0
Tells session lines end quanta = (session.lines ≡ lines) × (session.end ≡ end) × (length session.tape ≡ quanta)

abbrev says : ℕ → Answer → Line
says ordinal answer = line.Call ordinal answer

abbrev rejected : Answer
rejected = Rejected InvalidState

abbrev c : List ℕ
c = codes "c"

abbrev create : Op
create = op.Create c (kind.Constant (pos 16777216))

abbrev suspend : ℕ → Op
suspend time = op.Suspend (pos time)

abbrev read : Op
read = op.ReadValue c (codes "offset")

-- the context is refused, and no call is run; or rendering was not started
unrendered : Tells (played (spec 33 128) (main 1 op.ReadState ∷ main 2 op.StartRendering ∷ [])) [] (Refused (NotSupported None)) 0
    × Tells (played (spec 1 128) (main 1 op.ReadState ∷ main 2 (suspend 1) ∷ main 3 op.Resume ∷ [])) (says 1 (State Suspended) ∷ says 2 rejected ∷ says 3 rejected ∷ []) Idle 0
    × Tells (played (spec 1 128) []) [] Idle 0
unfolding played
unrendered = ((refl, refl, refl), (refl, refl, refl), (refl, refl, refl))

-- ---- it was started, and the length is reached

-- the last quantum may go past the length; what ends in it is told before the promise resolves
completed : Tells (played (spec 1 128) (main 1 op.StartRendering ∷ [])) (says 1 Pending ∷ line.Resolved 1 ∷ line.Complete 128 ∷ []) Completed 1
    × Tells (played (spec 1 130) (main 1 create ∷ main 2 (op.Connect c 0 (codes "destination") 0) ∷ main 3 (op.Start c (pos 0) (pos 0) None) ∷ main 4 (op.Stop c (pos 129)) ∷ main 5 op.StartRendering ∷ []))
    (says 1 Ok ∷ says 2 Ok ∷ says 3 Ok ∷ says 4 Ok ∷ says 5 Pending ∷ line.Ended (record { 0 = 1 }) c ∷ line.Resolved 5 ∷ line.Complete 130 ∷ []) Completed 2
unfolding played
completed = ((refl, refl, refl), (refl, refl, refl))

-- the same of quanta of other sizes: so many as reach the length, and a suspension is due at one of their boundaries
abbrev sized : ℕ → ContextSpec → ContextSpec
sized quantum context = record context { quantum = quantum }

other_quanta : Tells (played (sized 32 (spec 1 130)) (main 1 (suspend 33) ∷ held 1 2 op.ReadTime ∷ held 1 3 op.Resume ∷ main 4 op.StartRendering ∷ []))
    (says 1 Pending ∷ says 4 Pending ∷ line.Resolved 1 ∷ says 2 (Time 64) ∷ says 3 ResolvedNow ∷ line.Resolved 4 ∷ line.Complete 130 ∷ []) Completed 5
    × Tells (played (sized 1024 (spec 1 1025)) (main 1 (suspend 1) ∷ main 2 op.StartRendering ∷ [])) (says 1 Pending ∷ says 2 Pending ∷ line.Resolved 1 ∷ []) (Stalled 1024) 1
    × Tells (played (sized 100 (spec 1 128)) (main 1 op.StartRendering ∷ [])) [] (Refused (NotSupported None)) 0
unfolding played
other_quanta = ((refl, refl, refl), (refl, refl, refl), (refl, refl, refl))

-- the main list is run whole at frame 0, also behind startRendering, and rendering is started once
started_once : Tells (played (spec 1 129) (main 1 op.StartRendering ∷ main 2 op.StartRendering ∷ main 3 op.ReadTime ∷ main 4 op.ReadState ∷ main 5 op.Resume ∷ []))
    (says 1 Pending ∷ says 2 rejected ∷ says 3 (Time 0) ∷ says 4 (State Running) ∷ says 5 ResolvedNow ∷ line.Resolved 1 ∷ line.Complete 129 ∷ []) Completed 2
unfolding played
started_once = (refl, refl, refl)

-- the list of startRendering is run at the end, between its promise and the complete event; it renders nothing any more
at_the_end : Tells (played (spec 1 200) (
    main 1 op.StartRendering ∷ held 1 2 op.ReadState ∷ held 1 3 op.ReadTime ∷ held 1 4 op.Resume ∷ held 1 5 (suspend 256) ∷ held 1 6 op.StartRendering ∷ held 1 7 create ∷ held 1 8 read ∷ main 9 op.ReadState ∷ []))
    (says 1 Pending ∷ says 9 (State Running) ∷ line.Resolved 1 ∷ says 2 (State Closed) ∷ says 3 (Time 256) ∷ says 4 rejected ∷ says 5 rejected ∷ says 6 rejected ∷ says 7 Ok ∷ says 8 (Value (pos 16777216)) ∷ line.Complete 200 ∷ []) Completed 2
unfolding played
at_the_end = (refl, refl, refl)

-- ---- a suspension is due

-- the list of the suspension is run and resumes; the source that ended is told before, and each quantum has the nodes of its time
abbrev changed : Played
changed = played (spec 1 384) (
    main 1 create ∷ main 2 (op.Start c (pos 0) (pos 0) None) ∷ main 3 (op.Stop c (pos 128)) ∷ main 4 (suspend 100) ∷ held 4 5 op.ReadState ∷ held 4 6 op.ReadTime ∷ held 4 7 create ∷ held 4 8 op.Resume ∷ held 4 9 op.ReadState ∷ main 10 op.StartRendering ∷ [])

resumed : Tells changed (
    says 1 Ok ∷ says 2 Ok ∷ says 3 Ok ∷ says 4 Pending ∷ says 10 Pending ∷ line.Ended (record { 0 = 1 }) c ∷ line.Resolved 4 ∷ says 5 (State Suspended)
    ∷ says 6 (Time 128) ∷ says 7 Ok ∷ says 8 ResolvedNow ∷ says 9 (State Running) ∷ line.Resolved 10 ∷ line.Complete 384 ∷ []) Completed 3
    × (map (λ (w : World). length w.nodes) changed.tape ≡ 2 ∷ 3 ∷ 3 ∷ [])
unfolding played
resumed = ((refl, refl, refl), refl)

-- its list is empty, or does not resume: the session is stalled, and the list of startRendering is not run
stalled : Tells (played (spec 1 256) (main 1 (suspend 0) ∷ main 2 (suspend 1) ∷ main 3 (suspend 128) ∷ main 4 (suspend 129) ∷ main 5 op.StartRendering ∷ held 5 6 op.ReadTime ∷ []))
    (says 1 rejected ∷ says 2 Pending ∷ says 3 rejected ∷ says 4 rejected ∷ says 5 Pending ∷ line.Resolved 2 ∷ []) (Stalled 128) 1
    × Tells (played (spec 1 512) (main 1 (suspend 256) ∷ held 1 2 op.ReadState ∷ main 3 (suspend 128) ∷ held 3 4 op.Resume ∷ main 5 op.StartRendering ∷ []))
    (says 1 Pending ∷ says 3 Pending ∷ says 5 Pending ∷ line.Resolved 3 ∷ says 4 ResolvedNow ∷ line.Resolved 1 ∷ says 2 (State Suspended) ∷ []) (Stalled 256) 2
unfolding played
stalled = ((refl, refl, refl), (refl, refl, refl))

-- a list within a list: a suspension that a list asks for is due later, and one that is rejected runs no list
within : Tells (played (spec 1 384) (
    main 1 (suspend 128) ∷ held 1 2 (suspend 128) ∷ held 2 3 op.ReadTime ∷ held 1 4 (suspend 256) ∷ held 4 5 op.ReadTime ∷ held 4 6 op.Resume ∷ held 1 7 op.Resume ∷ main 8 (suspend 384) ∷ held 8 9 op.ReadTime ∷ main 10 op.StartRendering ∷ []))
    (says 1 Pending ∷ says 8 rejected ∷ says 10 Pending ∷ line.Resolved 1 ∷ says 2 rejected ∷ says 4 Pending ∷ says 7 ResolvedNow ∷ line.Resolved 4 ∷ says 5 (Time 256) ∷ says 6 ResolvedNow ∷ line.Resolved 10 ∷ line.Complete 384 ∷ []) Completed 3
unfolding played
within = (refl, refl, refl)

-- what is read of a parameter is its value at the first frame of the quantum that was rendered last
ramp_read : Tells (played (spec 1 384) (
    main 1 create ∷ main 2 (op.SetValueAtTime c (codes "offset") (pos 0) (pos 0)) ∷ main 3 (op.LinearRampToValueAtTime c (codes "offset") (pos 1280) (pos 1280)) ∷ main 4 read ∷ main 5 (suspend 128) ∷ held 5 6 read ∷ held 5 7 op.Resume
    ∷ main 8 (suspend 256) ∷ held 8 9 read ∷ held 8 10 (op.SetValue c (codes "offset") (pos 5)) ∷ held 8 11 read ∷ main 12 op.StartRendering ∷ []))
    (says 1 Ok ∷ says 2 Ok ∷ says 3 Ok ∷ says 4 (Value (pos 16777216)) ∷ says 5 Pending ∷ says 8 Pending ∷ says 12 Pending ∷ line.Resolved 5 ∷ says 6 (Value (pos 0)) ∷ says 7 ResolvedNow
    ∷ line.Resolved 8 ∷ says 9 (Value (pos 128)) ∷ says 10 Ok ∷ says 11 (Value (pos 5)) ∷ []) (Stalled 256) 2
unfolding played
ramp_read = (refl, refl, refl)

-- a convolver that is created at a suspension acquires its buffer there
acquired : Tells (played (spec 1 256) (
    main 1 (op.CreateBuffer c 1 2 48000) ∷ main 2 (suspend 128) ∷ held 2 3 (op.CreateConvolver (codes "v") (Some c) true) ∷ held 2 4 (op.CopyToChannel c 0 [] 0) ∷ held 2 5 op.Resume ∷ main 6 (op.CopyToChannel c 0 [] 0)
    ∷ main 7 op.StartRendering ∷ []))
    (says 1 Ok ∷ says 2 Pending ∷ says 6 Ok ∷ says 7 Pending ∷ line.Resolved 2 ∷ says 3 Ok ∷ says 4 (Throw (NotSupported (Some BufferAcquired))) ∷ says 5 ResolvedNow ∷ line.Resolved 7 ∷ line.Complete 256 ∷ []) Completed 2
unfolding played
acquired = (refl, refl, refl)

-- a file that is not there, in the main list and at a suspension
no_file : Tells (played (spec 1 256) (main 1 (op.DecodeAudioData c c) ∷ main 2 (suspend 128) ∷ held 2 3 (op.DecodeAudioData c c) ∷ main 4 op.StartRendering ∷ []))
    (says 1 (Rejected NotFound) ∷ says 2 Pending ∷ says 4 Pending ∷ line.Resolved 2 ∷ says 3 (Rejected NotFound) ∷ []) (Stalled 128) 1
unfolding played
no_file = (refl, refl, refl)
