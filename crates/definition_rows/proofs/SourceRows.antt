-- Sources (AudioScheduledSourceNode, AudioBufferSourceNode) and the buffers that they play (AudioBuffer).
use Rattle.wa_base.specs.declared.features.Feature.TheVariants as feature
use Rattle.script_ast.specs.declared.operations.Op.TheVariants as op
use Rattle.transcript.specs.declared.lines.Answer.TheVariants.{Ok}
use Rattle.meaning.specs.declared.scheds.Play.{Play}
use Rattle.definition_rows.proofs.Machines.{ℕ, ℤ, pos, neg_ℤ, ◌≡◌, List, [], ◌∷◌, map, codes, Option, None, Some, true, false, refl, InvalidState, IndexSize, Range, WrongType, Op, Machine, stepped, after, ◌gives◌, Answers, throw, profile, one, studio, at_frame, c, g, s, b, o, nobody}

abbrev less : ℤ
less = neg_ℤ (pos 1)

abbrev begin : Op
begin = op.Start s (pos 0) (pos 0) None

abbrev give : List ℕ → Op
give buffer = op.SetBuffer s (Some buffer)

abbrev take_away : Op
take_away = op.SetBuffer s None

-- ---- setBuffer: a buffer source and a buffer, then no second buffer, then none after the start, then the context's rate
set_buffers : Answers studio (
    op.SetBuffer nobody (Some b) gives throw WrongType ∷ op.SetBuffer c (Some b) gives throw WrongType ∷ op.SetBuffer g None gives throw WrongType ∷ op.SetBuffer b (Some b) gives throw WrongType ∷ give nobody gives throw WrongType
    ∷ give g gives throw WrongType ∷ give o gives profile feature.Resampling ∷ give b gives Ok ∷ take_away gives Ok ∷ [])
    × Answers (after studio (give b ∷ [])) (give nobody gives throw WrongType ∷ give b gives throw InvalidState ∷ give o gives throw InvalidState ∷ take_away gives Ok ∷ [])
    × Answers (after studio (give b ∷ take_away ∷ [])) (give b gives throw InvalidState ∷ give o gives throw InvalidState ∷ take_away gives Ok ∷ [])
    × Answers (after studio (begin ∷ [])) (give nobody gives throw WrongType ∷ give b gives profile feature.LateBuffer ∷ give o gives profile feature.LateBuffer ∷ take_away gives profile feature.LateBuffer ∷ [])
    × Answers (after studio (give b ∷ begin ∷ [])) (give b gives throw InvalidState ∷ give o gives throw InvalidState ∷ take_away gives profile feature.LateBuffer ∷ [])
    × Answers (after studio (op.CreateBufferSource (codes "t") (Some b) false (pos 0) (pos 0) one ∷ [])) (op.SetBuffer (codes "t") (Some b) gives throw InvalidState ∷ op.SetBuffer (codes "t") None gives Ok ∷ [])
unfolding stepped after studio
set_buffers = (refl, refl, refl, refl, refl, refl)

-- ---- setLoop, setLoopStart, setLoopEnd: a buffer source, then none after the start
loops : Answers studio (
    op.SetLoop c true gives throw WrongType ∷ op.SetLoopStart c (pos 1) gives throw WrongType ∷ op.SetLoopEnd nobody (pos 1) gives throw WrongType ∷ op.SetLoop s true gives Ok ∷ op.SetLoopStart s less gives Ok
    ∷ op.SetLoopEnd s less gives Ok ∷ [])
    × Answers (after studio (begin ∷ op.Start c (pos 0) (pos 0) None ∷ [])) (
    op.SetLoop c true gives throw WrongType ∷ op.SetLoop s true gives profile feature.LoopChange ∷ op.SetLoopStart s (pos 0) gives profile feature.LoopChange ∷ op.SetLoopEnd s (pos 0) gives profile feature.LoopChange ∷ [])
unfolding stepped after studio
loops = (refl, refl)

-- ---- start: a source, then one that was not started, then no negative when, offset or duration; of a constant source when alone
starts : Answers studio (
    op.Start nobody (pos 0) (pos 0) None gives throw WrongType ∷ op.Start g less (pos 0) None gives throw WrongType ∷ op.Start b (pos 0) (pos 0) None gives throw WrongType ∷ op.Start s less (pos 0) None gives throw Range
    ∷ op.Start s (pos 0) less None gives throw Range ∷ op.Start s (pos 0) (pos 0) (Some less) gives throw Range ∷ op.Start s (pos 0) (pos 0) (Some (pos 0)) gives Ok ∷ op.Start c less (pos 0) None gives throw Range
    ∷ op.Start c (pos 0) less (Some less) gives Ok ∷ [])
    × Answers (after studio (begin ∷ op.Start c (pos 0) (pos 0) None ∷ [])) (begin gives throw InvalidState ∷ op.Start s less less (Some less) gives throw InvalidState ∷ op.Start c less (pos 0) None gives throw InvalidState ∷ [])
unfolding stepped after studio
starts = (refl, refl)

-- ---- stop: a source, then one that was started, then no negative when
stops : Answers (after studio (begin ∷ [])) (
    op.Stop nobody (pos 0) gives throw WrongType ∷ op.Stop g less gives throw WrongType ∷ op.Stop c (pos 0) gives throw InvalidState ∷ op.Stop c less gives throw InvalidState ∷ op.Stop s less gives throw Range
    ∷ op.Stop s (pos 0) gives Ok ∷ [])
unfolding stepped after studio
stops = refl

-- ---- a time before now is now, and of two stops the last counts
abbrev spans : Machine → List (Option ℕ × Option ℕ)
spans machine = map (λ (play : Play). (play.sched.start, play.sched.stop)) machine.world.scheds.items

late : spans (after (at_frame 256 studio) (op.Start c (pos 5) (pos 0) None ∷ op.Stop c (pos 900) ∷ op.Stop c (pos 7) ∷ op.Start s (pos 300) (pos 0) None ∷ []))
    ≡ (Some 256, Some 256) ∷ (Some 300, None) ∷ []
unfolding stepped after studio
late = refl

-- ---- copyToChannel: a buffer, then a channel of it, then none after a source with it was started; what lies past the end is dropped
writes : Answers (after studio (give b ∷ [])) (
    op.CopyToChannel nobody 0 [] 0 gives throw WrongType ∷ op.CopyToChannel g 0 [] 0 gives throw WrongType ∷ op.CopyToChannel b 0 (one ∷ []) 0 gives Ok ∷ op.CopyToChannel b 1 (one ∷ []) 0 gives throw IndexSize
    ∷ op.CopyToChannel b 0 (one ∷ []) 4294967295 gives Ok ∷ [])
    × Answers (after studio (give b ∷ begin ∷ [])) (op.CopyToChannel b 0 [] 0 gives profile feature.BufferAcquired ∷ op.CopyToChannel b 1 [] 0 gives throw IndexSize ∷ op.CopyToChannel o 0 [] 0 gives Ok ∷ [])
    × Answers (after studio (give b ∷ take_away ∷ begin ∷ [])) (op.CopyToChannel b 0 [] 0 gives Ok ∷ [])
    × (map (λ buffer. buffer.samples) (after studio (
    op.CopyToChannel b 0 (pos 1 ∷ pos 2 ∷ pos 3 ∷ []) 2 ∷ op.CopyToChannel b 0 (pos 9 ∷ []) 4 ∷ op.CopyToChannel b 0 (pos 8 ∷ []) 0 ∷ [])).world.store
    ≡ (pos 8 ∷ pos 0 ∷ pos 1 ∷ pos 2 ∷ []) ∷ (pos 0 ∷ pos 0 ∷ pos 0 ∷ pos 0 ∷ []) ∷ [])
unfolding stepped after studio
writes = (refl, refl, refl, refl)
