-- Nodes and buffers that are created (BaseAudioContext): what is refused, in which order, and what is there afterwards.
use Rattle.wa_base.specs.declared.features.Feature.TheVariants as feature
use Rattle.node_table.specs.declared.equation.Equation.TheVariants.{Filter}
use Rattle.node_table.specs.Nodes.{kind_at}
use Rattle.node_table.specs.declared.kinds.Kind.TheVariants as kind
use Rattle.meaning.specs.declared.buffers.BufferEdit.TheVariants as buffer_edit
use Rattle.meaning.specs.declared.change.Edit.TheVariants as edit
use Rattle.script_ast.specs.declared.left_out.LeftOutName.TheVariants as unbuilt
use Rattle.script_ast.specs.declared.operations.Op.TheVariants as op
use Rattle.script_ast.specs.declared.operations.Oversample.TheVariants.{Off, Two, Four}
use Rattle.transcript.specs.declared.lines.Answer.TheVariants.{Ok}
use Rattle.control_side.specs.Deciding.{refused, unless}
use Rattle.control_side.specs.Step.{decided}
use Rattle.definition_rows.proofs.Machines.{ℕ, ℤ, pos, neg_ℤ, ◌≡◌, List, [], ◌∷◌, map, replicate, Option, None, Some, false, refl, NotSupported, InvalidState, IndexSize, WrongType, Op, Machine, first_machine, stepped, after, ◌gives◌, Answers, throw, profile, one, context, studio, crowded, c, d, b, o, x, nobody}

-- ---- createConstantSource, createGain: there is room for 1,024 nodes, the destination among them
nodes : Answers (crowded studio 1023) (op.Create x (kind.Constant one) gives Ok ∷ op.Create x (kind.Gain one) gives Ok ∷ [])
    × Answers (crowded studio 1024) (op.Create x (kind.Constant one) gives profile feature.NodeLimit ∷ op.Create x (kind.Gain one) gives profile feature.NodeLimit ∷ [])
unfolding stepped after studio
nodes = (refl, refl)

-- ---- createChannelSplitter, createChannelMerger: 1 to 32 ports
ports : Answers studio (
    op.Create x (kind.Splitter 0) gives throw IndexSize ∷ op.Create x (kind.Splitter 1) gives Ok ∷ op.Create x (kind.Splitter 32) gives Ok ∷ op.Create x (kind.Splitter 33) gives throw IndexSize
    ∷ op.Create x (kind.Merger 0) gives throw IndexSize ∷ op.Create x (kind.Merger 1) gives Ok ∷ op.Create x (kind.Merger 32) gives Ok ∷ op.Create x (kind.Merger 33) gives throw IndexSize ∷ [])
    × Answers (crowded studio 1024) (
    op.Create x (kind.Splitter 33) gives throw IndexSize ∷ op.Create x (kind.Splitter 32) gives profile feature.NodeLimit ∷ op.Create x (kind.Merger 0) gives throw IndexSize
    ∷ op.Create x (kind.Merger 1) gives profile feature.NodeLimit ∷ [])
unfolding stepped after studio
ports = (refl, refl)

-- ---- createIIRFilter: 1 to 20 coefficients of each sort, then feedforward that is not all 0, then feedback[0] that is not 0, then room
abbrev filter : List ℤ → List ℤ → Op
filter forward back = op.Create x (kind.Causal (Filter forward back))

abbrev ones : ℕ → List ℤ
ones count = replicate count one

filters : Answers (crowded studio 1023) (
    filter [] (ones 1) gives throw (NotSupported None) ∷ filter (ones 1) [] gives throw (NotSupported None) ∷ filter (ones 20) (ones 20) gives Ok ∷ filter (ones 21) (ones 20) gives throw (NotSupported None)
    ∷ filter (ones 20) (ones 21) gives throw (NotSupported None) ∷ filter (replicate 21 (pos 0)) (ones 1) gives throw (NotSupported None) ∷ filter (pos 0 ∷ []) (replicate 21 (pos 0)) gives throw (NotSupported None)
    ∷ filter (replicate 20 (pos 0)) (ones 1) gives throw InvalidState ∷ filter (ones 1) (pos 0 ∷ one ∷ []) gives throw InvalidState ∷ filter (pos 0 ∷ pos 1 ∷ []) (neg_ℤ (pos 1) ∷ pos 0 ∷ []) gives Ok ∷ [])
    × Answers (crowded studio 1024) (
    filter (ones 21) (ones 1) gives throw (NotSupported None) ∷ filter (pos 0 ∷ []) (ones 1) gives throw InvalidState ∷ filter (ones 1) (pos 0 ∷ []) gives throw InvalidState
    ∷ filter (ones 1) (ones 1) gives profile feature.NodeLimit ∷ [])
unfolding stepped after studio
filters = (refl, refl)

-- ---- createDelay: maxDelayTime above 0, then at most 16 seconds, then room for a node, then for its frames
delays : Answers studio (
    op.CreateDelay x (neg_ℤ (pos 1)) (pos 0) gives throw (NotSupported None) ∷ op.CreateDelay x (pos 0) (pos 0) gives throw (NotSupported None) ∷ op.CreateDelay x (pos 1) (pos 0) gives Ok
    ∷ op.CreateDelay x (pos 268435456) (neg_ℤ one) gives Ok ∷ op.CreateDelay x (pos 268435457) (pos 0) gives profile feature.LongDelay ∷ [])
unfolding stepped after studio
delays = refl

-- At 96,000 frames a second two delays of 16 seconds keep 1,536,000 frames each. There is room for 1,122,304 frames more, and 196,136,927 units are the most that come to them.
two_long : Machine
two_long = after (first_machine (context 96000)) (op.CreateDelay d (pos 268435456) (pos 0) ∷ op.CreateDelay d (pos 268435456) (pos 0) ∷ [])

frames_kept : Answers two_long (
    op.CreateDelay x (pos 196136927) (pos 0) gives Ok ∷ op.CreateDelay x (pos 196136928) (pos 0) gives profile feature.DelayLimit ∷ op.CreateDelay x (pos 268435456) (pos 0) gives profile feature.DelayLimit
    ∷ op.Create x (kind.Gain one) gives Ok ∷ [])
    × Answers (crowded two_long 1024) (
    op.CreateDelay x (pos 0) (pos 0) gives throw (NotSupported None) ∷ op.CreateDelay x (pos 268435457) (pos 0) gives profile feature.LongDelay ∷ op.CreateDelay x (pos 268435456) (pos 0) gives profile feature.NodeLimit ∷ [])
unfolding stepped after two_long
frames_kept = (refl, refl)

-- It keeps as many frames as its longest delay has, to the nearest, and at least those of a quantum, here 128.
kept : map (λ longest. kind_at (stepped studio (op.CreateDelay x longest (pos 0))).machine.world.nodes 8) (pos 1 ∷ pos 44914 ∷ pos 44915 ∷ one ∷ [])
    ≡ Some (kind.Delay (pos 1) (pos 0) 128) ∷ Some (kind.Delay (pos 44914) (pos 0) 128) ∷ Some (kind.Delay (pos 44915) (pos 0) 129)
    ∷ Some (kind.Delay one (pos 0) 48000) ∷ []
unfolding stepped after studio
kept = refl

-- in a context with quanta of so many frames
sized : ℕ → Machine
sized quantum = first_machine (record (context 48000) { quantum = quantum })

kept_sized : map (λ quantum. kind_at (stepped (sized quantum) (op.CreateDelay x (pos 44915) (pos 0))).machine.world.nodes 1) (32 ∷ 64 ∷ 256 ∷ 1024 ∷ [])
    ≡ Some (kind.Delay (pos 44915) (pos 0) 129) ∷ Some (kind.Delay (pos 44915) (pos 0) 129) ∷ Some (kind.Delay (pos 44915) (pos 0) 256) ∷ Some (kind.Delay (pos 44915) (pos 0) 1024) ∷ []
unfolding sized stepped
kept_sized = refl

-- ---- createWaveShaper: no oversampling, then a curve of at least 2 points where there is one, then room
abbrev shaper : Option (List ℤ) → Op
shaper curve = op.CreateWaveShaper x curve Off

shapers : Answers (crowded studio 1023) (
    op.CreateWaveShaper x None Two gives profile feature.Oversample ∷ op.CreateWaveShaper x (Some []) Four gives profile feature.Oversample ∷ shaper (Some []) gives throw InvalidState ∷ shaper (Some (ones 1)) gives throw InvalidState
    ∷ shaper (Some (ones 2)) gives Ok ∷ shaper None gives Ok ∷ [])
    × Answers (crowded studio 1024) (op.CreateWaveShaper x None Two gives profile feature.Oversample ∷ shaper (Some (ones 1)) gives throw InvalidState ∷ shaper (Some (ones 2)) gives profile feature.NodeLimit ∷ [])
unfolding stepped after studio
shapers = (refl, refl)

-- ---- createBufferSource: a buffer, then a playbackRate of whole frames, then the context's rate, then room
abbrev source : Option (List ℕ) → ℤ → Op
source buffer rate = op.CreateBufferSource x buffer false (pos 0) (pos 0) rate

sources : Answers (crowded studio 1023) (
    source (Some nobody) (pos 0) gives throw WrongType ∷ source (Some c) (pos 0) gives throw WrongType ∷ source (Some o) (pos 0) gives profile feature.PlaybackRate ∷ source None (neg_ℤ one) gives profile feature.PlaybackRate
    ∷ source None (pos 16777215) gives profile feature.PlaybackRate ∷ source None (pos 16777217) gives profile feature.PlaybackRate ∷ source None (pos 2147483647) gives profile feature.PlaybackRate
    ∷ source (Some o) one gives profile feature.Resampling ∷ source (Some b) one gives Ok ∷ source None (pos 2130706432) gives Ok ∷ [])
    × Answers (crowded studio 1024) (
    source (Some nobody) one gives throw WrongType ∷ source None (pos 0) gives profile feature.PlaybackRate ∷ source (Some o) one gives profile feature.Resampling ∷ source (Some b) one gives profile feature.NodeLimit ∷ [])
unfolding stepped after studio
sources = (refl, refl)

-- ---- createBuffer: 1 to 32 channels, some frames, and 8,000 to 96,000 of them a second
buffers : Answers studio (
    op.CreateBuffer x 0 1 48000 gives throw (NotSupported None) ∷ op.CreateBuffer x 1 1 48000 gives Ok ∷ op.CreateBuffer x 32 1 48000 gives Ok ∷ op.CreateBuffer x 33 1 48000 gives throw (NotSupported None)
    ∷ op.CreateBuffer x 1 0 48000 gives throw (NotSupported None) ∷ op.CreateBuffer x 1 1 7999 gives throw (NotSupported None) ∷ op.CreateBuffer x 1 1 8000 gives Ok ∷ op.CreateBuffer x 1 1 96000 gives Ok
    ∷ op.CreateBuffer x 1 1 96001 gives throw (NotSupported None) ∷ [])
unfolding stepped after studio
buffers = refl

-- All buffers have at most 134,217,728 samples, and two have 8 already. What is accepted is not done here, since its samples would be written out.
samples : (decided studio (op.CreateBuffer x 1 134217720 48000) ≡ unless None (edit.Buffers (buffer_edit.Create 1 134217720 48000)))
    × (decided studio (op.CreateBuffer x 1 134217721 48000) ≡ refused (NotSupported (Some feature.BufferLimit)))
    × (decided (first_machine (context 48000)) (op.CreateBuffer x 32 4194304 48000) ≡ unless None (edit.Buffers (buffer_edit.Create 32 4194304 48000)))
    × (decided (first_machine (context 48000)) (op.CreateBuffer x 32 4194305 48000) ≡ refused (NotSupported (Some feature.BufferLimit)))
    × Answers studio (op.CreateBuffer x 33 134217728 48000 gives throw (NotSupported None) ∷ op.CreateBuffer x 1 134217728 7999 gives throw (NotSupported None) ∷ [])
unfolding decided stepped after studio
samples = (refl, refl, refl, refl, refl)

-- ---- names: one that is bound already is bound anew, and stays where the creation is refused
bound_anew : Answers (after studio (op.Create b (kind.Gain one) ∷ [])) (op.CopyToChannel b 0 [] 0 gives throw WrongType ∷ [])
    × Answers (after studio (op.CreateDelay b (pos 0) (pos 0) ∷ [])) (op.CopyToChannel b 0 [] 0 gives Ok ∷ [])
unfolding stepped after studio
bound_anew = (refl, refl)

-- ---- what the profile leaves out is refused for its feature, with its fields unread
left_out : Answers studio (op.LeftOut unbuilt.CreateOscillator gives profile feature.Oscillator ∷ op.LeftOut unbuilt.CreatePanner gives profile feature.Panner ∷ op.LeftOut unbuilt.CreateAudioWorkletNode gives profile feature.AudioWorklet ∷ [])
unfolding stepped after studio
left_out = refl
