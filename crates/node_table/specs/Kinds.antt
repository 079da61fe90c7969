-- What the kinds of nodes have: a row for each.
use Rattle.std.specs.Prelude.{ℕ, ℤ, ◌≡◌, ◌≤◌, ◌&&◌, ◌||◌, nat_le, int_le, int_lt, pos, List, All, Bool, true, false, if◌then◌else◌, Option, Some, None, IfSome, is_some, option_map}
use Rattle.wa_base.specs.Numbers.{IsFix}
use Rattle.wa_base.specs.declared.exceptions.Exc.{Exc}
use Rattle.wa_base.specs.declared.exceptions.Exc.TheVariants.{IndexSize, NotSupported, WrongType}
use Rattle.wa_base.specs.declared.features.Feature.TheVariants.{PlaybackRate, LongDelay}
use Rattle.wa_base.specs.declared.graph_names.Interp.{Interp}
use Rattle.wa_base.specs.declared.graph_names.Interp.TheVariants.{Speakers, Discrete}
use Rattle.wa_base.specs.declared.graph_names.Mode.{Mode}
use Rattle.wa_base.specs.declared.graph_names.Mode.TheVariants.{Max, ClampedMax, Explicit}
use Rattle.wa_base.specs.declared.graph_names.ParamName.{ParamName}
use Rattle.wa_base.specs.declared.graph_names.ParamName.TheVariants as param
use Rattle.node_table.specs.Curves as curves
use Rattle.node_table.specs.Equations.{equation_refusal, is_at_most_stereo, HasFixValues}
use Rattle.node_table.specs.declared.kinds.Kind.{Kind}
use Rattle.node_table.specs.declared.kinds.Kind.TheVariants.{Destination, Constant, Buffer, Gain, Delay, Splitter, Merger, Shaper, Causal}
use Rattle.node_table.specs.declared.rows.Row.{Row}
use Rattle.node_table.specs.declared.rows.Channels.TheVariants.{Always, OfBuffer}
use Rattle.node_table.specs.declared.rows.Range.TheVariants.{UpTo}
use Rattle.node_table.specs.declared.rows.Plays.TheVariants.{Value, Content}
use Rattle.node_table.specs.declared.rows.Keeps.TheVariants.{Heard, Written}
use Rattle.node_table.specs.Rows.{effect, fixed_mixing, all_fixed, any_value, mode_heard, is_written, frames_written, is_heard}

-- ---- the table of nodes

-- Each kind by what it has other than a node with one input and one output, which has as many channels as come in.
abbrev pub row : Kind → Row
row Destination = record effect { mode = Explicit; fixed = fixed_mixing }
row (Constant offset) = record effect { inputs = 0; channels = Always 1; param = any_value param.Offset offset; plays = Some Value }
row (Buffer rate) = record effect { inputs = 0; channels = OfBuffer; plays = Some (Content rate) }
row (Gain gain) = record effect { param = any_value param.Gain gain }
row (Delay longest time capacity) = record effect { param = Some (record { name = param.DelayTime; value = time; range = UpTo longest }); keeps = Written capacity }
row (Splitter ports) = record effect { outputs = ports; channels = Always 1; count = ports; mode = Explicit; interp = Discrete; fixed = all_fixed }
row (Merger ports) = record effect { inputs = ports; channels = Always ports; count = 1; mode = Explicit; fixed = fixed_mixing }
row (Shaper curve was_set) = effect
row (Causal equation) = record effect { mode = mode_heard (is_at_most_stereo equation); at_most_stereo = is_at_most_stereo equation; keeps = Heard }

abbrev pub is_destination : Kind → Bool
is_destination Destination = true
is_destination other = false

-- the number of inputs, and of outputs
abbrev pub inputs : Kind → ℕ
inputs kind = (row kind).inputs

abbrev pub outputs : Kind → ℕ
outputs kind = (row kind).outputs

-- whether a node gives later what it wrote
abbrev pub is_delay_kind : Kind → Bool
is_delay_kind kind = is_written (row kind).keeps

-- how many frames a node keeps of what it wrote: a delay keeps as many as its longest delay has
abbrev pub capacity_of : Kind → ℕ
capacity_of kind = frames_written (row kind).keeps

-- whether all that the input of a node took in since its birth matters to later quanta; of a delay what it wrote matters
abbrev pub remembers : Kind → Bool
remembers kind = is_heard (row kind).keeps

-- the name of the parameter that a kind has
abbrev pub param_name : Kind → Option ParamName
param_name kind = option_map (λ p. p.name) (row kind).param

-- each value and each count that a node is created with has 32 bits
abbrev pub IsOf32Bits : Kind → Type 0
IsOf32Bits Destination = Unit {0}
IsOf32Bits (Constant offset) = IsFix offset
IsOf32Bits (Buffer rate) = rate ≤ 4294967295
IsOf32Bits (Gain gain) = IsFix gain
IsOf32Bits (Delay longest time capacity) = IsFix longest × IsFix time
IsOf32Bits (Splitter ports) = ports ≤ 4294967295
IsOf32Bits (Merger ports) = ports ≤ 4294967295
IsOf32Bits (Shaper curve was_set) = IfSome curve (λ points. All IsFix points)
IsOf32Bits (Causal equation) = HasFixValues equation

-- a script creates it by its numbers alone: it is not the destination, and what it keeps does not hang on the context
abbrev pub IsCreatable : Kind → Type 0
IsCreatable kind = (is_destination kind ≡ false) × (is_delay_kind kind ≡ false)

-- what of a kind stays as long as its node is there: all but the curve of a shaper
abbrev pub lasting : Kind → Kind
lasting (Shaper curve was_set) = Shaper None false
lasting kind = kind

abbrev pub same_mode : Mode → Mode → Bool
same_mode Max Max = true
same_mode ClampedMax ClampedMax = true
same_mode Explicit Explicit = true
same_mode _ _ = false

abbrev pub same_interp : Interp → Interp → Bool
same_interp Speakers Speakers = true
same_interp Discrete Discrete = true
same_interp _ _ = false

-- ---- in which limits it is created

-- a node cannot have so many outputs, or so many inputs
abbrev pub port_refusal : ℕ → Option Exc
port_refusal ports = if nat_le 1 ports && nat_le ports 32 then None else Some IndexSize

-- a source moves on by whole frames of its buffer, forward, and by one or more of them
abbrev pub rate_refusal : ℕ → Option Exc
rate_refusal rate = if nat_le 1 rate then None else Some (NotSupported (Some PlaybackRate))

-- a delay has a longest delay of more than nothing, and of at most 16 seconds
abbrev pub delay_refusal : ℤ → Option Exc
delay_refusal longest =
    if int_le longest (pos 0) then Some (NotSupported None) else
    if int_lt (pos 268435456) longest then Some (NotSupported (Some LongDelay)) else
    None

-- why a node of a kind is refused because of what it would be created with
abbrev pub range_refusal : Kind → Option Exc
range_refusal Destination = None
range_refusal (Constant offset) = None
range_refusal (Buffer rate) = rate_refusal rate
range_refusal (Gain gain) = None
range_refusal (Delay longest time capacity) = delay_refusal longest
range_refusal (Splitter ports) = port_refusal ports
range_refusal (Merger ports) = port_refusal ports
range_refusal (Shaper curve was_set) = curves.curve_refusal curve false
range_refusal (Causal equation) = equation_refusal equation

-- what a node was created with is not refused
abbrev pub IsInLimits : Kind → Type 0
IsInLimits kind = range_refusal kind ≡ None

-- ---- the curve of a shaper

-- a kind with another curve, or with none; that it had one is remembered
abbrev pub with_curve : Option (List ℤ) → Kind → Kind
with_curve curve (Shaper old was_set) = Shaper curve (was_set || is_some curve)
with_curve curve kind = kind

-- why a kind refuses a curve, or none: it is no shaper, or the curve is refused where one was set before or not
abbrev pub set_curve_refusal : Option (List ℤ) → Kind → Option Exc
set_curve_refusal curve (Shaper old was_set) = curves.curve_refusal curve was_set
set_curve_refusal curve kind = Some WrongType
