-- What nodes remember of all that their inputs took in, by their equations.
use Rattle.std.specs.Prelude.{ℕ, ℤ, length, List, []}
use Rattle.node_table.specs.declared.equation.Equation.{Equation}
use Rattle.node_table.specs.declared.equation.Equation.TheVariants as equation
use Rattle.convolve.specs.Convolver.{ConvolverStands}
use Rattle.node_table.specs.Machine.{cells_at_birth}
use Rattle.shaper_iir.specs.Filter.{FilterStands}
use Rattle.worklet.specs.Processor.{ProcessorStands}
use Rattle.filter_bank.specs.declared.state.State.{State}
use Rattle.filter_bank.specs.declared.state.State.TheVariants.{Filter, Convolution, Processor}

-- a state stands for the frames that a channel has heard, the newest first
abbrev pub stands : State → ℕ → List ℤ → Type 0
stands (Filter filter) channel frames = FilterStands filter channel frames
stands (Convolution convolver) channel frames = ConvolverStands convolver channel frames
stands (Processor processor) channel frames = ProcessorStands processor channel frames

-- the equation that it goes by
abbrev pub equation_of : State → Equation
equation_of (Filter filter) = equation.Filter filter.forward filter.back
equation_of (Convolution convolver) = equation.Convolution convolver.response
equation_of (Processor processor) = equation.Processor processor.code

-- for so many channels there is room
abbrev pub room : State → ℕ
room (Filter filter) = length filter.channels
room (Convolution convolver) = length convolver.channels
room (Processor processor) = length processor.channels

-- the state of a node that has heard nothing
abbrev pub first_state : Equation → State
first_state (equation.Filter forward back) = Filter (record { forward = forward; back = back; channels = [] })
first_state (equation.Convolution response) = Convolution (record { response = response; channels = [] })
first_state (equation.Processor program) = Processor (record { code = program; channels = []; others = cells_at_birth })
