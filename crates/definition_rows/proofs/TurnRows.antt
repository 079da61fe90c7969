-- Turns: what a render quantum leads to (OfflineAudioContext), which sources end in it (AudioScheduledSourceNode, event `ended`), and what a summary counts.
use Rattle.wa_base.specs.declared.contexts.State.TheVariants.{Suspended, Running, Closed}
use Rattle.ctx_state.specs.Context.{ContextView, turn_of, after_turn}
use Rattle.ctx_state.specs.declared.context.Turn.TheVariants.{Went, Due, Done}
use Rattle.control_msgs.specs.Messages.{after as after_quantum}
use Rattle.node_table.specs.declared.kinds.Kind.TheVariants as kind
use Rattle.script_ast.specs.declared.operations.Op.TheVariants as op
use Rattle.transcript.specs.declared.lines.Line.{Line}
use Rattle.transcript.specs.declared.lines.Answer.TheVariants as answer
use Rattle.transcript.specs.declared.lines.Line.TheVariants.{Call, Ended, Resolved, Complete}
use Rattle.transcript.specs.Summary.{count, is_call, is_end, is_refusal}
use Rattle.meaning.specs.declared.params.Param.{Param}
use Rattle.meaning.specs.declared.scheds.Play.{Play}
use Rattle.control_side.specs.Turns.{ended_lines}
use Rattle.definition_rows.proofs.Machines.{ℕ, pos, ◌≡◌, List, [], ◌∷◌, map, codes, None, Some, refl, NotSupported, InvalidState, Machine, stepped, after, one, context, studio, c, g, s, b, gain}

-- ---- what a quantum leads to

-- a running context of so many frames at a frame, whose startRendering had the ordinal 6
abbrev running : ℕ → ℕ → List (ℕ × ℕ) → ContextView
running length time suspensions = record { spec = record (context 48000) { length = length }; state = Running; time = time; started = Some 6; suspensions = suspensions }

-- at the length, or past it where that is within the quantum, it is done, whatever is scheduled there; before, it is suspended where that is due
turns : map turn_of (running 128 0 [] ∷ running 129 0 [] ∷ running 130 128 [] ∷ running 384 0 ((128, 3) ∷ (256, 4) ∷ []) ∷ running 384 128 ((256, 4) ∷ []) ∷ running 384 0 ((256, 4) ∷ []) ∷ running 200 128 ((256, 4) ∷ []) ∷ [])
    ≡ Done 6 ∷ Went ∷ Done 6 ∷ Due 3 ∷ Due 4 ∷ Went ∷ Done 6 ∷ []
turns = refl

-- the same of quanta of other sizes
abbrev sized : ℕ → ContextView → ContextView
sized quantum c = record c { spec = record c.spec { quantum = quantum } }

sized_turns : map turn_of (
    sized 1024 (running 1024 0 []) ∷ sized 1024 (running 1025 0 []) ∷ sized 1024 (running 2048 0 ((1024, 3) ∷ [])) ∷ sized 1024 (running 1025 1024 []) ∷ sized 32 (running 128 0 []) ∷ sized 32 (running 128 0 ((32, 3) ∷ [])) ∷ sized 32 (running 128 96 []) ∷ [])
    ≡ Done 6 ∷ Went ∷ Due 3 ∷ Done 6 ∷ Went ∷ Due 3 ∷ Done 6 ∷ []
sized_turns = refl

-- a suspension that is due is scheduled no more
afterwards : (after_turn (running 384 0 ((256, 4) ∷ [])) ≡ running 384 128 ((256, 4) ∷ []))
    × (after_turn (running 384 0 ((128, 3) ∷ (256, 4) ∷ [])) ≡ record (running 384 128 ((256, 4) ∷ [])) { state = Suspended })
    × (after_turn (running 130 128 []) ≡ record (running 130 256 []) { state = Closed })
    × (after_turn (sized 1024 (running 1025 1024 [])) ≡ record (sized 1024 (running 1025 2048 [])) { state = Closed })
unfolding after_turn
afterwards = (refl, refl, refl, refl)

-- ---- which sources end: those whose end is reached at the next quantum's first frame, in order of node number
abbrev k : List ℕ
k = codes "k"

-- c sounds from frame 0 to a frame, and so does k, which is created behind; s plays its buffer's four frames, from frame 125 on
abbrev playing : ℕ → Machine
playing end = after studio (
    op.Create k (kind.Constant one) ∷ op.Start k (pos 0) (pos 0) None ∷ op.Stop k (pos 128) ∷ op.Start c (pos 0) (pos 0) None ∷ op.Stop c (pos end)
    ∷ op.SetBuffer s (Some b) ∷ op.Start s (pos 125) (pos 0) None ∷ op.Create c (kind.Gain one) ∷ [])

abbrev ended : ℕ → List ℕ → Line
ended node name = Ended (record { 0 = node }) name

abbrev ends_at : ℕ → Machine → List Line
ends_at frame machine = ended_lines machine.first_names frame machine.world.scheds.items

-- a machine after the quantum before a frame
abbrev after_quantum_to : ℕ → ℕ → Machine → Machine
after_quantum_to first next machine = record machine { world = after_quantum first next machine.world }

-- The name is that of the creation, whatever it stands for by then. A source ends once, and not where it was not started or has no end.
ends : (ends_at 128 (playing 128) ≡ ended 1 c ∷ ended 8 k ∷ [])
    × (ends_at 128 (playing 129) ≡ ended 8 k ∷ [])
    × (ends_at 256 (after_quantum_to 0 128 (playing 129)) ≡ ended 1 c ∷ ended 3 s ∷ [])
    × (ends_at 384 (after_quantum_to 128 256 (after_quantum_to 0 128 (playing 129))) ≡ [])
    × (ends_at 1024 (after studio (op.Start c (pos 0) (pos 0) None ∷ [])) ≡ [])
unfolding stepped after studio
ends = (refl, refl, refl, refl, refl)

-- a stop changes nothing once the source has ended
stopped_after_end : map (λ (play : Play). play.sched.stop) (after (after_quantum_to 0 128 (playing 128)) (op.Stop k (pos 900) ∷ op.Stop s (pos 900) ∷ [])).world.scheds.items ≡ Some 128 ∷ Some 900 ∷ Some 128 ∷ []
unfolding stepped after studio
stopped_after_end = refl

-- ---- the current value of each parameter is that of the quantum's first frame
ramp : Machine
ramp = after studio (op.SetValueAtTime g gain (pos 0) (pos 0) ∷ op.LinearRampToValueAtTime g gain (pos 1280) (pos 1280) ∷ [])

slots_set : (map (λ (p : Param). p.line.slot) (after_quantum_to 0 128 ramp).world.params.items ≡ one ∷ pos 0 ∷ pos 0 ∷ [])
    × (map (λ (p : Param). p.line.slot) (after_quantum_to 128 256 ramp).world.params.items ≡ one ∷ pos 128 ∷ pos 0 ∷ [])
unfolding stepped after studio ramp
slots_set = (refl, refl)

-- ---- a summary counts each call as run, and both what threw and what was rejected as refused; a promise that resolves later is no call
lines : List Line
lines =
    Call 1 answer.Ok ∷ Call 2 (answer.Throw (NotSupported None)) ∷ Call 3 answer.Pending ∷ Call 4 (answer.Rejected InvalidState) ∷ Call 5 (answer.Rejected (NotSupported None)) ∷ Call 6 (answer.Value (pos 5))
    ∷ Call 7 (answer.State Running) ∷ Call 8 (answer.Time 128) ∷ Call 9 answer.Resolved ∷ ended 12 c ∷ Resolved 3 ∷ Complete 130 ∷ []

summary : (count is_call lines ≡ 9) × (count is_end lines ≡ 1) × (count is_refusal lines ≡ 3)
unfolding lines is_call is_end is_refusal
summary = (refl, refl, refl)
