-- What the operations on wave shapers come to (the WaveShaperNode interface).
use Rattle.std.specs.Prelude.{ℤ, List, Bool, true, false, if◌then◌else◌, is_some, Option, Some, None}
use Rattle.wa_base.specs.declared.exceptions.Exc.{Exc}
use Rattle.wa_base.specs.declared.exceptions.Exc.TheVariants.{NotSupported, WrongType}
use Rattle.wa_base.specs.declared.features.Feature.TheVariants as feature
use Rattle.wa_base.specs.declared.graph_names.NodeId.{NodeId}
use Rattle.node_table.specs.declared.kinds.Kind.{Kind}
use Rattle.node_table.specs.declared.kinds.Kind.TheVariants.{Shaper}
use Rattle.script_ast.specs.declared.operations.Oversample.{Oversample}
use Rattle.script_ast.specs.declared.operations.Oversample.TheVariants.{Off, Two, Four}
use Rattle.transcript.specs.declared.lines.Answer.TheVariants as answer
use Rattle.meaning.specs.World.{kind_of}
use Rattle.meaning.specs.declared.change.Edit.TheVariants as edit
use Rattle.control_side.specs.declared.decide.Decided.{Decided}
use Rattle.control_side.specs.declared.decide.Decided.TheVariants as comes_to
use Rattle.control_side.specs.Deciding.{refused, edits}
use Rattle.control_side.specs.Machine.{Machine}
use Rattle.control_side.specs.Params.{unless_refused}

-- the profile has no oversampling
abbrev pub oversample_refusal : Oversample → Option Exc
oversample_refusal Off = None
oversample_refusal Two = Some (NotSupported (Some feature.Oversample))
oversample_refusal Four = Some (NotSupported (Some feature.Oversample))

-- a shaper is created with a curve, or without one
abbrev pub creates_shaper : Machine → Option (List ℤ) → Oversample → Decided
creates_shaper machine curve oversample = unless_refused (oversample_refusal oversample) (edits machine (edit.Create (Shaper curve (is_some curve))))

abbrev pub is_shaper : Kind → Bool
is_shaper (Shaper curve was_set) = true
is_shaper other = false

-- the oversampling of a node, which is to be a shaper, is set: what is not refused changes nothing
abbrev pub sets_oversample : Machine → Option NodeId → Oversample → Decided
sets_oversample machine None value = refused WrongType
sets_oversample machine (Some node) value = if is_shaper (kind_of machine.world node.0) then unless_refused (oversample_refusal value) (comes_to.Answer answer.Ok) else refused WrongType
