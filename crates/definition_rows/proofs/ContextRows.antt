-- The context (BaseAudioContext, OfflineAudioContext): which ones are rendered, and startRendering, suspend, resume, readState and readTime.
use Rattle.wa_base.specs.Contexts.{is_supported}
use Rattle.wa_base.specs.declared.contexts.ContextSpec.{ContextSpec}
use Rattle.wa_base.specs.declared.contexts.State.TheVariants.{Suspended, Running, Closed}
use Rattle.script_ast.specs.declared.operations.Op.TheVariants as op
use Rattle.transcript.specs.declared.lines.Answer.TheVariants.{Pending, Resolved, Rejected, State, Time}
use Rattle.definition_rows.proofs.Machines.{ℕ, pos, neg_ℤ, ◌≡◌, [], ◌∷◌, map, true, false, refl, InvalidState, Answer, Machine, first_machine, stepped, after, ◌gives◌, Answers, context, at_frame}

-- ---- 1 to 32 channels, 1 to 33,554,432 frames, 8,000 to 96,000 frames a second, at most 67,108,864 samples, and quanta of 32, 64, 128, 256, 512 or 1,024 frames
abbrev spec : ℕ → ℕ → ℕ → ContextSpec
spec channels length rate = record { channels = channels; length = length; rate = rate; quantum = 128 }

-- 67,108,864 is 2 times 33,554,432 and 32 times 2,097,152; 67,108,865 is 5 times 13,421,773
contexts : (map (λ n. is_supported (spec n 1 48000)) (0 ∷ 1 ∷ 32 ∷ 33 ∷ []) ≡ false ∷ true ∷ true ∷ false ∷ [])
    × (map (λ n. is_supported (spec 1 n 48000)) (0 ∷ 1 ∷ 33554432 ∷ 33554433 ∷ []) ≡ false ∷ true ∷ true ∷ false ∷ [])
    × (map (λ n. is_supported (spec 1 1 n)) (7999 ∷ 8000 ∷ 96000 ∷ 96001 ∷ []) ≡ false ∷ true ∷ true ∷ false ∷ [])
    × (map is_supported (spec 2 33554432 48000 ∷ spec 32 2097152 48000 ∷ spec 5 13421773 48000 ∷ spec 5 13421772 48000 ∷ spec 32 2097153 48000 ∷ []) ≡ true ∷ true ∷ false ∷ true ∷ false ∷ [])
    × (map (λ n. is_supported (record { channels = 1; length = 1; rate = 48000; quantum = n })) (32 ∷ 64 ∷ 128 ∷ 256 ∷ 512 ∷ 1024 ∷ []) ≡ true ∷ true ∷ true ∷ true ∷ true ∷ true ∷ [])
    × (map (λ n. is_supported (record { channels = 1; length = 1; rate = 48000; quantum = n })) (0 ∷ 1 ∷ 31 ∷ 33 ∷ 100 ∷ 127 ∷ 129 ∷ 2048 ∷ []) ≡ false ∷ false ∷ false ∷ false ∷ false ∷ false ∷ false ∷ false ∷ [])
unfolding is_supported
contexts = (refl, refl, refl, refl, refl, refl)

-- ---- before the start, while it renders, at a suspension and at the end; the length is 1,024
abbrev rejected : Answer
rejected = Rejected InvalidState

new : Machine
new = first_machine (context 48000)

-- suspend: rounded up to a quantum, behind now and before the length
before_start : Answers new (
    op.ReadState gives State Suspended ∷ op.ReadTime gives Time 0 ∷ op.Resume gives rejected ∷ op.Suspend (neg_ℤ (pos 128)) gives rejected ∷ op.Suspend (neg_ℤ (pos 1)) gives rejected ∷ op.Suspend (pos 0) gives rejected
    ∷ op.Suspend (pos 1) gives Pending ∷ op.Suspend (pos 128) gives Pending ∷ op.Suspend (pos 896) gives Pending ∷ op.Suspend (pos 897) gives rejected ∷ op.Suspend (pos 1024) gives rejected ∷ op.StartRendering gives Pending ∷ [])
unfolding new stepped
before_start = refl

-- one suspension for each frame
scheduled : Answers (after new (op.Suspend (pos 129) ∷ [])) (op.Suspend (pos 128) gives Pending ∷ op.Suspend (pos 130) gives rejected ∷ op.Suspend (pos 256) gives rejected ∷ op.Suspend (pos 257) gives Pending ∷ [])
    × ((after new (op.Suspend (pos 500) ∷ op.Suspend (pos 1) ∷ [])).context.suspensions ≡ (128, 7) ∷ (512, 7) ∷ [])
unfolding new stepped after
scheduled = (refl, refl)

-- of quanta of other sizes: the first boundary behind the start is at 1,024, and that behind it is the length; or they are at 32, 64 and so on
sized : ℕ → Machine
sized quantum = first_machine (record (context 48000) { length = 2048; quantum = quantum })

scheduled_sized : Answers (sized 1024) (
    op.Suspend (pos 0) gives rejected ∷ op.Suspend (pos 1) gives Pending ∷ op.Suspend (pos 1024) gives Pending ∷ op.Suspend (pos 1025) gives rejected ∷ op.Suspend (pos 2047) gives rejected ∷ [])
    × ((after (sized 1024) (op.Suspend (pos 1) ∷ [])).context.suspensions ≡ (1024, 7) ∷ [])
    × ((after (sized 32) (op.Suspend (pos 33) ∷ op.Suspend (pos 1) ∷ op.Suspend (pos 2016) ∷ [])).context.suspensions ≡ (32, 7) ∷ (64, 7) ∷ (2016, 7) ∷ [])
unfolding sized stepped after
scheduled_sized = (refl, refl, refl)

abbrev suspended : Machine
suspended = record new { context = record (at_frame 256 new).context { state = Suspended } }

abbrev closed : Machine
closed = record new { context = record (at_frame 1024 new).context { state = Closed } }

-- rendering is started once, goes on from a suspension, and does not from the end
started : Answers (after new (op.StartRendering ∷ [])) (
    op.ReadState gives State Running ∷ op.ReadTime gives Time 0 ∷ op.StartRendering gives rejected ∷ op.Resume gives Resolved ∷ op.Suspend (pos 0) gives rejected ∷ op.Suspend (pos 1) gives Pending ∷ [])
    × Answers suspended (
    op.ReadState gives State Suspended ∷ op.ReadTime gives Time 256 ∷ op.StartRendering gives rejected ∷ op.Suspend (pos 128) gives rejected ∷ op.Suspend (pos 256) gives rejected ∷ op.Suspend (pos 257) gives Pending ∷ op.Resume gives Resolved ∷ [])
    × Answers (after suspended (op.Resume ∷ [])) (op.ReadState gives State Running ∷ op.Resume gives Resolved ∷ [])
    × Answers closed (op.ReadState gives State Closed ∷ op.ReadTime gives Time 1024 ∷ op.Resume gives rejected ∷ op.StartRendering gives rejected ∷ op.Suspend (pos 2000) gives rejected ∷ [])
unfolding new stepped after
started = (refl, refl, refl, refl)
