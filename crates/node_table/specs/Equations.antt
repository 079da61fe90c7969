-- The equations of the nodes that hear their input from their creation on.
use Rattle.std.specs.Prelude.{ℤ, Bool, true, false, List, All, Option, None}
use Rattle.wa_base.specs.Numbers.{IsFix}
use Rattle.wa_base.specs.declared.exceptions.Exc.{Exc}
use Rattle.node_table.specs.declared.equation.Equation.{Equation}
use Rattle.node_table.specs.declared.equation.Equation.TheVariants.{Filter, Convolution, Processor}
use Rattle.node_table.specs.Convolutions.{convolution, response_refusal}
use Rattle.node_table.specs.Filters.{filter_value, filter_refusal}
use Rattle.node_table.specs.Instructions.{HasFixValue}
use Rattle.node_table.specs.Machine.{program_value}

-- the output after the frames heard, the newest first
abbrev pub equation_value : Equation → List ℤ → ℤ
equation_value (Filter forward back) frames = filter_value forward back frames
equation_value (Convolution response) frames = convolution response frames
equation_value (Processor program) frames = program_value program frames

-- why no node has an equation; a program was accepted before
abbrev pub equation_refusal : Equation → Option Exc
equation_refusal (Filter forward back) = filter_refusal forward back
equation_refusal (Convolution response) = response_refusal response
equation_refusal (Processor program) = None

-- whether it stands for one or two channels at most
abbrev pub is_at_most_stereo : Equation → Bool
is_at_most_stereo (Filter forward back) = false
is_at_most_stereo (Convolution response) = true
is_at_most_stereo (Processor program) = false

-- what an equation is told is in units of 2^-24
abbrev pub HasFixValues : Equation → Type 0
HasFixValues (Filter forward back) = All IsFix forward × All IsFix back
HasFixValues (Convolution response) = All IsFix response
HasFixValues (Processor program) = All HasFixValue program
