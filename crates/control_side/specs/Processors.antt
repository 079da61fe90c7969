-- What the creation of a processor comes to (this profile's answer to the AudioWorkletNode interface).
use Rattle.std.specs.Prelude.{List, if◌then◌else◌, Option, Some, None}
use Rattle.wa_base.specs.declared.exceptions.Exc.{Exc}
use Rattle.wa_base.specs.declared.exceptions.Exc.TheVariants.{NotSupported}
use Rattle.wa_base.specs.declared.features.Feature.TheVariants as feature
use Rattle.node_table.specs.declared.code.Instr.{Instr}
use Rattle.node_table.specs.declared.equation.Equation.TheVariants.{Processor}
use Rattle.node_table.specs.declared.kinds.Kind.TheVariants.{Causal}
use Rattle.worklet.specs.Decision.{is_accepted}
use Rattle.meaning.specs.declared.change.Edit.TheVariants as edit
use Rattle.control_side.specs.declared.decide.Decided.{Decided}
use Rattle.control_side.specs.Deciding.{edits}
use Rattle.control_side.specs.Machine.{Machine}
use Rattle.control_side.specs.Params.{unless_refused}

-- a program that is not accepted makes no processor
abbrev pub program_refusal : List Instr → Option Exc
program_refusal code = if is_accepted code then None else Some (NotSupported (Some feature.Program))

-- a processor is created with a program
abbrev pub creates_processor : Machine → List Instr → Decided
creates_processor machine code = unless_refused (program_refusal code) (edits machine (edit.Create (Causal (Processor code))))
