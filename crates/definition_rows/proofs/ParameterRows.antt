-- Automation of parameters (AudioParam): what is refused, in which order, and what a time before now stands for.
use Rattle.wa_base.specs.declared.features.Feature.TheVariants as feature
use Rattle.wa_base.specs.declared.graph_names.Rate.TheVariants.{A, K}
use Rattle.param_events.specs.Timeline.{Timeline}
use Rattle.param_events.specs.declared.events.Event.{Event}
use Rattle.param_events.specs.declared.events.Event.TheVariants.{Set, Ramp, Curve}
use Rattle.script_ast.specs.declared.operations.Op.TheVariants as op
use Rattle.transcript.specs.declared.lines.Answer.TheVariants.{Ok, Value}
use Rattle.meaning.specs.declared.params.Param.{Param}
use Rattle.definition_rows.proofs.Machines.{ℕ, ℤ, pos, neg_ℤ, ◌≡◌, List, [], ◌∷◌, ◌++◌, map, codes, None, refl, NotSupported, InvalidState, Range, WrongType, Op, Answer, Machine, stepped, after, ◌gives◌, Answers, throw, profile, one, studio, at_frame, dest, c, g, s, d, b, nobody, offset, gain, delay_time, playback_rate, detune}

abbrev less : ℤ
less = neg_ℤ (pos 1)

-- ---- every operation on a parameter: a node with this parameter, and then one of the profile

-- each operation on this parameter of this node, with fields that it refuses itself where it can
abbrev all_on : List ℕ → List ℕ → List Op
all_on node param =
    op.SetValue node param (pos 0) ∷ op.SetValueAtTime node param (pos 0) less ∷ op.LinearRampToValueAtTime node param (pos 0) less
    ∷ op.SetValueCurveAtTime node param [] less less ∷ op.CancelScheduledValues node param less ∷ op.CancelAndHoldAtTime node param less
    ∷ op.SetAutomationRate node param K ∷ op.ExponentialRampToValueAtTime node param ∷ op.SetTargetAtTime node param ∷ op.ReadValue node param ∷ []

abbrev all_answered : Answer → List Op → List (Op × Answer)
all_answered said operations = map (λ operation. operation gives said) operations

all_alike : Answers studio (all_answered (throw WrongType) (all_on nobody gain ++ all_on b gain ++ all_on c gain ++ all_on g (codes "Gain") ++ all_on g playback_rate ++ all_on dest gain))
    × Answers studio (all_answered (profile feature.PlaybackRateAutomation) (all_on s playback_rate))
    × Answers studio (all_answered (profile feature.Detune) (all_on s detune))
unfolding stepped after studio
all_alike = (refl, refl, refl)

-- ---- each operation's own refusals, where a curve of three points lies from frame 10 to before frame 30, and a value is set at frame 40
abbrev set : ℤ → Op
set time = op.SetValueAtTime g gain (pos 5) time

abbrev ramp : ℤ → Op
ramp time = op.LinearRampToValueAtTime g gain (pos 7) time

abbrev curve : List ℤ → ℤ → ℤ → Op
curve values time duration = op.SetValueCurveAtTime g gain values time duration

abbrev two : List ℤ
two = pos 0 ∷ one ∷ []

curved : Machine
curved = after studio (curve (pos 0 ∷ one ∷ pos 0 ∷ []) (pos 10) (pos 20) ∷ set (pos 40) ∷ [])

own_refusals : Answers curved (
    set less gives throw Range ∷ set (pos 9) gives Ok ∷ set (pos 10) gives throw (NotSupported None) ∷ set (pos 29) gives throw (NotSupported None) ∷ set (pos 30) gives Ok ∷ ramp less gives throw Range ∷ ramp (pos 9) gives Ok
    ∷ ramp (pos 10) gives throw (NotSupported None) ∷ ramp (pos 29) gives throw (NotSupported None) ∷ ramp (pos 30) gives Ok ∷ curve (one ∷ []) less (pos 0) gives throw InvalidState
    ∷ curve (one ∷ []) (pos 10) (pos 5) gives throw InvalidState ∷ curve two less (pos 5) gives throw Range ∷ curve two (pos 10) (pos 0) gives throw Range ∷ curve two (pos 50) less gives throw Range
    ∷ curve two (pos 10) (pos 5) gives throw (NotSupported None) ∷ curve two (pos 5) (pos 6) gives throw (NotSupported None) ∷ curve two (pos 5) (pos 5) gives Ok ∷ curve two (pos 30) (pos 10) gives Ok
    ∷ curve two (pos 30) (pos 11) gives throw (NotSupported None) ∷ curve two (pos 40) (pos 1) gives Ok ∷ op.CancelScheduledValues g gain less gives throw Range ∷ op.CancelScheduledValues g gain (pos 10) gives Ok
    ∷ op.CancelAndHoldAtTime g gain less gives throw Range ∷ op.CancelAndHoldAtTime g gain (pos 10) gives Ok ∷ op.SetAutomationRate g gain A gives Ok ∷ op.SetAutomationRate c offset K gives Ok
    ∷ op.ExponentialRampToValueAtTime g gain gives profile feature.ExponentialRamp ∷ op.SetTargetAtTime g gain gives profile feature.SetTarget ∷ op.ReadValue g gain gives Value one ∷ op.ReadValue d delay_time gives Value (pos 0) ∷ [])
unfolding stepped after studio curved
own_refusals = refl

-- setAutomationRate sets the rate of this parameter and of no other
rates : map (λ (p : Param). p.rate) (after studio (op.SetAutomationRate g gain K ∷ [])).world.params.items ≡ A ∷ K ∷ A ∷ []
unfolding stepped after studio
rates = refl

-- ---- now: no event is put into a curve that is under way, whatever time before now is given, and a refusal leaves the current value
now_in_curve : Answers (at_frame 20 curved) (
    op.SetValue g gain (pos 0) gives throw (NotSupported None) ∷ set (pos 9) gives throw (NotSupported None) ∷ set less gives throw Range ∷ ramp (pos 0) gives throw (NotSupported None)
    ∷ curve two (pos 0) (pos 5) gives throw (NotSupported None) ∷ op.CancelScheduledValues g gain (pos 0) gives Ok ∷ op.CancelAndHoldAtTime g gain (pos 0) gives Ok ∷ [])
    × Answers curved (op.SetValue g gain (pos 0) gives Ok ∷ [])
    × Answers (after (at_frame 20 curved) (op.SetValue g gain (pos 0) ∷ [])) (op.ReadValue g gain gives Value one ∷ [])
    × Answers (after curved (op.SetValue g gain (pos 3) ∷ [])) (op.ReadValue g gain gives Value (pos 3) ∷ [])
unfolding stepped after studio curved
now_in_curve = (refl, refl, refl, refl)

-- ---- a time before now stands for now, in each operation that has a time

-- the gain's timeline after an operation at frame 256, with a value at each of frames 100, 200, 256 and 300
abbrev sets : List Op
sets = set (pos 100) ∷ set (pos 200) ∷ set (pos 256) ∷ set (pos 300) ∷ []

abbrev line_after : List Op → Op → List Timeline
line_after first operation = map (λ (p : Param). p.line) (after (at_frame 256 (after studio first)) (operation ∷ [])).world.params.items

-- the offset of c and the delayTime of d stay as they were created
abbrev lines : List Event → List Timeline
lines events = record { base = one; slot = one; events = [] } ∷ record { base = one; slot = one; events = events } ∷ record { base = pos 0; slot = pos 0; events = [] } ∷ []

late : (line_after sets (set (pos 3)) ≡ lines (Set 100 (pos 5) ∷ Set 200 (pos 5) ∷ Set 256 (pos 5) ∷ Set 256 (pos 5) ∷ Set 300 (pos 5) ∷ []))
    × (line_after [] (ramp (pos 3)) ≡ lines (Set 256 one ∷ Ramp 256 (pos 7) ∷ []))
    × (line_after [] (curve two (pos 3) (pos 9)) ≡ lines (Curve 256 9 265 two ∷ []))
unfolding stepped after studio
late = (refl, refl, refl)

cancel_late : line_after sets (op.CancelScheduledValues g gain (pos 150)) ≡ lines (Set 100 (pos 5) ∷ Set 200 (pos 5) ∷ [])
unfolding stepped after studio
cancel_late = refl

-- a ramp from 5 at frame 0 to 7 at frame 512 is held at 6 now, and a curve over frames 200 to 299 ends now
hold_late : (line_after sets (op.CancelAndHoldAtTime g gain (pos 150)) ≡ lines (Set 100 (pos 5) ∷ Set 200 (pos 5) ∷ Set 256 (pos 5) ∷ []))
    × (line_after (set (pos 0) ∷ ramp (pos 512) ∷ []) (op.CancelAndHoldAtTime g gain (pos 100)) ≡ lines (Set 0 (pos 5) ∷ Ramp 256 (pos 6) ∷ []))
    × (line_after (curve two (pos 200) (pos 100) ∷ []) (op.CancelAndHoldAtTime g gain (pos 100)) ≡ lines (Curve 200 100 256 two ∷ []))
unfolding stepped after studio
hold_late = (refl, refl, refl)

-- where nothing is left that begins by now, the current value becomes the base
cancel_of_all : Answers (after (at_frame 256 studio) (op.SetValue g gain (pos 9) ∷ op.CancelScheduledValues g gain (pos 0) ∷ ramp (pos 512) ∷ op.CancelAndHoldAtTime g gain (pos 256) ∷ [])) (op.ReadValue g gain gives Value (pos 9) ∷ [])
    × (map (λ (p : Param). p.line.base) (after (at_frame 256 studio) (op.SetValue g gain (pos 9) ∷ op.CancelScheduledValues g gain (pos 0) ∷ [])).world.params.items ≡ one ∷ pos 9 ∷ pos 0 ∷ [])
unfolding stepped after studio
cancel_of_all = (refl, refl)
