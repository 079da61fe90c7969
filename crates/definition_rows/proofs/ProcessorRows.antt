-- Processors that are created (this profile's answer to AudioWorkletNode): what is refused, in which order, and what is there afterwards.
use Rattle.wa_base.specs.declared.features.Feature.TheVariants as feature
use Rattle.wa_base.specs.declared.graph_names.Interp.TheVariants.{Speakers}
use Rattle.wa_base.specs.declared.graph_names.Mode.TheVariants.{Max}
use Rattle.node_table.specs.declared.code.Instr.{Instr}
use Rattle.node_table.specs.declared.code.Instr.TheVariants.{Input, Push, Load, Store, Add, Div, Dup, Skip, Skipz}
use Rattle.node_table.specs.declared.equation.Equation.TheVariants.{Processor}
use Rattle.node_table.specs.Kinds.{inputs, outputs}
use Rattle.node_table.specs.Nodes.{kind_at, attrs_at}
use Rattle.node_table.specs.declared.kinds.Kind.TheVariants as kind
use Rattle.script_ast.specs.declared.operations.Op.TheVariants as op
use Rattle.transcript.specs.declared.lines.Answer.TheVariants.{Ok}
use Rattle.definition_rows.proofs.Machines.{pos, ◌≡◌, List, [], ◌∷◌, None, Some, refl, WrongType, Op, Machine, stepped, after, ◌gives◌, Answers, throw, profile, studio, crowded, b, x}

abbrev processor : List Instr → Op
processor code = op.CreateProcessor x code

-- half of the sum of its input and of its output before
abbrev smoother : List Instr
smoother = Load 0 ∷ Input ∷ Add ∷ Div 2 ∷ Dup ∷ Store 0 ∷ []

-- ---- createProcessor: a program that is accepted, then room
creations : Answers (crowded studio 1023) (
    processor [] gives profile feature.Program ∷ processor (Add ∷ []) gives profile feature.Program ∷ processor (Input ∷ Skipz 1 ∷ Push (pos 5) ∷ []) gives profile feature.Program
    ∷ processor (Input ∷ Load 16 ∷ Add ∷ []) gives profile feature.Program ∷ processor (Input ∷ Div 0 ∷ []) gives profile feature.Program ∷ processor (Input ∷ Input ∷ []) gives profile feature.Program
    ∷ processor (Input ∷ Skip 1 ∷ []) gives profile feature.Program ∷ processor (Input ∷ []) gives Ok ∷ processor smoother gives Ok ∷ [])
    × Answers (crowded studio 1024) (processor (Add ∷ []) gives profile feature.Program ∷ processor smoother gives profile feature.NodeLimit ∷ [])
unfolding stepped after studio
creations = (refl, refl)

-- ---- what is there afterwards: one input and one output, two channels at first, as many as its input has
abbrev smoothed : Machine
smoothed = after studio (processor smoother ∷ [])

node : (kind_at smoothed.world.nodes 8 ≡ Some (kind.Causal (Processor smoother)))
    × (attrs_at smoothed.world.nodes 8 ≡ Some (record { count = 2; mode = Max; interp = Speakers; birth = 0 }))
    × (inputs (kind.Causal (Processor smoother)) ≡ 1) × (outputs (kind.Causal (Processor smoother)) ≡ 1)
unfolding stepped after studio
node = (refl, refl, refl, refl)

-- ---- its attributes are free, and it is no source
attributes : Answers smoothed (
    op.SetChannelCount x 1 gives Ok ∷ op.SetChannelCount x 32 gives Ok ∷ op.SetChannelCountMode x Max gives Ok ∷ op.SetBuffer x (Some b) gives throw WrongType ∷ op.Start x (pos 0) (pos 0) None gives throw WrongType ∷ [])
unfolding stepped after studio
attributes = refl
