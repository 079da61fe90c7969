-- Attributes that are set: those of every node (AudioNode), and those of a shaper (WaveShaperNode).
use Rattle.wa_base.specs.declared.features.Feature.TheVariants as feature
use Rattle.wa_base.specs.declared.graph_names.Interp.TheVariants.{Speakers, Discrete}
use Rattle.wa_base.specs.declared.graph_names.Mode.TheVariants.{Max, ClampedMax, Explicit}
use Rattle.node_table.specs.Nodes.{attrs_at}
use Rattle.script_ast.specs.declared.operations.Op.TheVariants as op
use Rattle.script_ast.specs.declared.operations.Oversample.TheVariants.{Off, Two, Four}
use Rattle.transcript.specs.declared.lines.Answer.TheVariants.{Ok}
use Rattle.definition_rows.proofs.Machines.{ℕ, ℤ, ◌≡◌, List, [], ◌∷◌, replicate, codes, Option, None, Some, refl, NotSupported, InvalidState, WrongType, stepped, after, ◌gives◌, Answers, throw, profile, one, studio, dest, g, w, p, m, b, nobody}

-- ---- setChannelCount: 1 to 32, then no other count where it is fixed
counts : Answers studio (
    op.SetChannelCount nobody 0 gives throw WrongType ∷ op.SetChannelCount b 1 gives throw WrongType ∷ op.SetChannelCount g 0 gives throw (NotSupported None) ∷ op.SetChannelCount g 1 gives Ok ∷ op.SetChannelCount g 32 gives Ok
    ∷ op.SetChannelCount g 33 gives throw (NotSupported None) ∷ op.SetChannelCount p 0 gives throw (NotSupported None) ∷ op.SetChannelCount p 33 gives throw (NotSupported None) ∷ op.SetChannelCount p 2 gives throw InvalidState
    ∷ op.SetChannelCount p 3 gives Ok ∷ op.SetChannelCount m 1 gives Ok ∷ op.SetChannelCount m 2 gives throw InvalidState ∷ op.SetChannelCount dest 1 gives Ok ∷ op.SetChannelCount dest 2 gives throw InvalidState
    ∷ op.SetChannelCount dest 33 gives throw (NotSupported None) ∷ [])
unfolding stepped after studio
counts = refl

-- ---- setChannelCountMode, setChannelInterpretation: no other where it is fixed
modes : Answers studio (
    op.SetChannelCountMode nobody Max gives throw WrongType ∷ op.SetChannelCountMode g Max gives Ok ∷ op.SetChannelCountMode g ClampedMax gives Ok ∷ op.SetChannelCountMode g Explicit gives Ok
    ∷ op.SetChannelCountMode p Explicit gives Ok ∷ op.SetChannelCountMode p Max gives throw InvalidState ∷ op.SetChannelCountMode m Explicit gives Ok ∷ op.SetChannelCountMode m ClampedMax gives throw InvalidState
    ∷ op.SetChannelCountMode dest Explicit gives Ok ∷ op.SetChannelCountMode dest Max gives throw InvalidState ∷ [])
    × Answers studio (
    op.SetChannelInterpretation b Speakers gives throw WrongType ∷ op.SetChannelInterpretation g Speakers gives Ok ∷ op.SetChannelInterpretation g Discrete gives Ok ∷ op.SetChannelInterpretation p Discrete gives Ok
    ∷ op.SetChannelInterpretation p Speakers gives throw InvalidState ∷ op.SetChannelInterpretation m Discrete gives Ok ∷ op.SetChannelInterpretation dest Discrete gives Ok ∷ [])
unfolding stepped after studio
modes = (refl, refl)

-- each sets what it names and nothing else
all_set : attrs_at (after studio (op.SetChannelCount g 5 ∷ op.SetChannelCountMode g ClampedMax ∷ op.SetChannelInterpretation g Discrete ∷ [])).world.nodes 2
    ≡ Some (record { count = 5; mode = ClampedMax; interp = Discrete; birth = 0 })
unfolding stepped after studio
all_set = refl

-- ---- setCurve: a shaper, then at least 2 points, then no second curve; none is always taken
abbrev curve : ℕ → Option (List ℤ)
curve points = Some (replicate points one)

curves : Answers studio (
    op.SetCurve nobody (curve 1) gives throw WrongType ∷ op.SetCurve g (curve 1) gives throw WrongType ∷ op.SetCurve g None gives throw WrongType ∷ op.SetCurve w (curve 0) gives throw InvalidState
    ∷ op.SetCurve w (curve 1) gives throw InvalidState ∷ op.SetCurve w (curve 2) gives Ok ∷ op.SetCurve w None gives Ok ∷ [])
    × Answers (after studio (op.SetCurve w (curve 2) ∷ [])) (op.SetCurve w (curve 1) gives throw InvalidState ∷ op.SetCurve w (curve 2) gives throw InvalidState ∷ op.SetCurve w None gives Ok ∷ [])
    × Answers (after studio (op.SetCurve w (curve 2) ∷ op.SetCurve w None ∷ [])) (op.SetCurve w (curve 2) gives throw InvalidState ∷ [])
    × Answers (after studio (op.SetCurve w None ∷ [])) (op.SetCurve w (curve 2) gives Ok ∷ [])
    × Answers (after studio (op.CreateWaveShaper (codes "v") (curve 2) Off ∷ [])) (op.SetCurve (codes "v") (curve 2) gives throw InvalidState ∷ op.SetCurve (codes "v") None gives Ok ∷ [])
unfolding stepped after studio
curves = (refl, refl, refl, refl, refl)

-- ---- setOversample: a shaper, then none
oversamples : Answers studio (
    op.SetOversample nobody Two gives throw WrongType ∷ op.SetOversample g Off gives throw WrongType ∷ op.SetOversample g Four gives throw WrongType ∷ op.SetOversample w Off gives Ok
    ∷ op.SetOversample w Two gives profile feature.Oversample ∷ op.SetOversample w Four gives profile feature.Oversample ∷ [])
unfolding stepped after studio
oversamples = refl
