-- Convolvers that are created (ConvolverNode): what is refused, in which order, what is there afterwards, and what their attributes may be.
use Rattle.wa_base.specs.declared.features.Feature.TheVariants as feature
use Rattle.wa_base.specs.declared.graph_names.Interp.TheVariants.{Speakers, Discrete}
use Rattle.wa_base.specs.declared.graph_names.Mode.TheVariants.{Max, ClampedMax, Explicit}
use Rattle.node_table.specs.declared.equation.Equation.TheVariants.{Convolution}
use Rattle.node_table.specs.Nodes.{kind_at, attrs_at}
use Rattle.node_table.specs.declared.kinds.Kind.TheVariants as kind
use Rattle.script_ast.specs.declared.operations.Op.TheVariants as op
use Rattle.transcript.specs.declared.lines.Answer.TheVariants.{Ok}
use Rattle.definition_rows.proofs.Machines.{ℕ, ℤ, pos, neg_ℤ, ◌≡◌, List, [], ◌∷◌, map, codes, Option, None, Some, true, false, refl, NotSupported, IndexSize, WrongType, Op, Machine, stepped, after, ◌gives◌, Answers, throw, profile, studio, crowded, c, s, b, o, x, nobody}

-- ---- createConvolver: a buffer, then no normalization, then a mono buffer, then the context's rate, then at most 16,384 samples, then none above 2.0, then room
abbrev plain : Option (List ℕ) → Op
plain buffer = op.CreateConvolver x buffer true

abbrev normalized : Option (List ℕ) → Op
normalized buffer = op.CreateConvolver x buffer false

abbrev stereo : List ℕ
stereo = codes "stereo"

abbrev stereo_at_another_rate : List ℕ
stereo_at_another_rate = codes "stereo-o"

abbrev loud : List ℕ
loud = codes "loud"

abbrev loud_at_another_rate : List ℕ
loud_at_another_rate = codes "loud-o"

-- behind the buffers of the machine a stereo one at each rate, and a mono one at each rate with a sample that is too loud
abbrev hall : Machine
hall = after studio (
    op.CreateBuffer stereo 2 4 48000 ∷ op.CreateBuffer stereo_at_another_rate 2 4 44100 ∷ op.CreateBuffer loud 1 4 48000 ∷ op.CopyToChannel loud 0 (pos 33554433 ∷ []) 3 ∷ op.CreateBuffer loud_at_another_rate 1 4 44100
    ∷ op.CopyToChannel loud_at_another_rate 0 (pos 33554433 ∷ []) 3 ∷ [])

creations : Answers (crowded hall 1023) (
    plain (Some nobody) gives throw WrongType ∷ plain (Some c) gives throw WrongType ∷ normalized (Some b) gives profile feature.Normalization ∷ normalized None gives profile feature.Normalization
    ∷ plain (Some stereo) gives profile feature.ResponseChannels ∷ plain (Some o) gives profile feature.Resampling ∷ plain (Some loud) gives profile feature.LoudResponse ∷ plain (Some b) gives Ok ∷ plain None gives Ok ∷ [])
    × Answers (crowded hall 1024) (plain (Some b) gives profile feature.NodeLimit ∷ plain None gives profile feature.NodeLimit ∷ [])
unfolding stepped after studio
creations = (refl, refl)

-- each refusal comes before the next one, and the first one before all
in_order : Answers (crowded hall 1024) (
    normalized (Some nobody) gives throw WrongType ∷ normalized (Some c) gives throw WrongType ∷ normalized (Some stereo) gives profile feature.Normalization ∷ normalized (Some o) gives profile feature.Normalization
    ∷ normalized (Some loud) gives profile feature.Normalization ∷ normalized None gives profile feature.Normalization ∷ plain (Some nobody) gives throw WrongType ∷ plain (Some stereo_at_another_rate) gives profile feature.ResponseChannels
    ∷ plain (Some stereo) gives profile feature.ResponseChannels ∷ plain (Some loud_at_another_rate) gives profile feature.Resampling ∷ plain (Some o) gives profile feature.Resampling ∷ plain (Some loud) gives profile feature.LoudResponse ∷ [])
unfolding stepped after studio
in_order = refl

-- a sample may be 2.0 away from 0, and no more
abbrev with_samples : List ℤ → Machine
with_samples samples = after studio (op.CopyToChannel b 0 samples 0 ∷ [])

loudest : Answers (with_samples (pos 33554432 ∷ neg_ℤ (pos 33554432) ∷ [])) (plain (Some b) gives Ok ∷ [])
    × Answers (with_samples (pos 33554433 ∷ [])) (plain (Some b) gives profile feature.LoudResponse ∷ [])
    × Answers (with_samples (pos 0 ∷ neg_ℤ (pos 33554433) ∷ [])) (plain (Some b) gives profile feature.LoudResponse ∷ [])
unfolding stepped after studio
loudest = (refl, refl, refl)

-- ---- what is there afterwards: the samples that the buffer had, or none, and attributes of its own
abbrev convolved : Option (List ℕ) → Machine
convolved buffer = after studio (op.CopyToChannel b 0 (pos 1 ∷ neg_ℤ (pos 2) ∷ []) 1 ∷ plain buffer ∷ [])

responses : (map (λ buffer. kind_at (convolved buffer).world.nodes 8) (Some b ∷ None ∷ [])
    ≡ Some (kind.Causal (Convolution (pos 0 ∷ pos 1 ∷ neg_ℤ (pos 2) ∷ pos 0 ∷ []))) ∷ Some (kind.Causal (Convolution [])) ∷ [])
    × (map (λ buffer. attrs_at (convolved buffer).world.nodes 8) (Some b ∷ None ∷ [])
    ≡ Some (record { count = 2; mode = ClampedMax; interp = Speakers; birth = 0 }) ∷ Some (record { count = 2; mode = ClampedMax; interp = Speakers; birth = 0 }) ∷ [])
unfolding stepped after studio
responses = (refl, refl)

-- the buffer is frozen from then on, where the creation is not refused; others may have it too
frozen : Answers (convolved (Some b)) (
    op.CopyToChannel b 0 [] 0 gives profile feature.BufferAcquired ∷ op.CopyToChannel b 1 [] 0 gives throw IndexSize ∷ op.CopyToChannel o 0 [] 0 gives Ok ∷ plain (Some b) gives Ok ∷ op.SetBuffer s (Some b) gives Ok ∷ [])
    × Answers (convolved None) (op.CopyToChannel b 0 [] 0 gives Ok ∷ [])
    × Answers (after studio (normalized (Some b) ∷ [])) (op.CopyToChannel b 0 [] 0 gives Ok ∷ [])
unfolding stepped after studio
frozen = (refl, refl, refl)

-- ---- its attributes: 1 or 2 channels, and no mode `max`; it is no source
attributes : Answers (convolved (Some b)) (
    op.SetChannelCount x 0 gives throw (NotSupported None) ∷ op.SetChannelCount x 1 gives Ok ∷ op.SetChannelCount x 2 gives Ok ∷ op.SetChannelCount x 3 gives throw (NotSupported None)
    ∷ op.SetChannelCount x 32 gives throw (NotSupported None) ∷ op.SetChannelCount x 33 gives throw (NotSupported None) ∷ op.SetChannelCountMode x Max gives throw (NotSupported None)
    ∷ op.SetChannelCountMode x ClampedMax gives Ok ∷ op.SetChannelCountMode x Explicit gives Ok ∷ op.SetChannelInterpretation x Speakers gives Ok ∷ op.SetChannelInterpretation x Discrete gives Ok
    ∷ op.SetBuffer x (Some b) gives throw WrongType ∷ op.Start x (pos 0) (pos 0) None gives throw WrongType ∷ [])
    × (attrs_at (after (convolved None) (op.SetChannelCount x 1 ∷ op.SetChannelCountMode x Explicit ∷ op.SetChannelCountMode x Max ∷ op.SetChannelCount x 3 ∷ [])).world.nodes 8
    ≡ Some (record { count = 1; mode = Explicit; interp = Speakers; birth = 0 }))
unfolding stepped after studio
attributes = (refl, refl)
