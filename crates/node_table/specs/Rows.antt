-- What the rows of the table of nodes say.
use Rattle.std.specs.Prelude.{ℕ, ℤ, Bool, true, false, if◌then◌else◌, Option, Some, None}
use Rattle.wa_base.specs.declared.graph_names.Interp.TheVariants.{Speakers}
use Rattle.wa_base.specs.declared.graph_names.Mode.{Mode}
use Rattle.wa_base.specs.declared.graph_names.Mode.TheVariants.{Max, ClampedMax}
use Rattle.wa_base.specs.declared.graph_names.ParamName.{ParamName}
use Rattle.node_table.specs.declared.rows.Row.{Row}
use Rattle.node_table.specs.declared.rows.Fixed.{Fixed}
use Rattle.node_table.specs.declared.rows.ParamRow.{ParamRow}
use Rattle.node_table.specs.declared.rows.Channels.TheVariants.{OfInput}
use Rattle.node_table.specs.declared.rows.Range.TheVariants.{Any}
use Rattle.node_table.specs.declared.rows.Keeps.{Keeps}
use Rattle.node_table.specs.declared.rows.Keeps.TheVariants.{Nothing, Heard, Written}

-- all attributes may be set; the count and the mode may not; none may
abbrev pub free : Fixed
free = record { count = false; mode = false; interp = false }

abbrev pub fixed_mixing : Fixed
fixed_mixing = record { count = true; mode = true; interp = false }

abbrev pub all_fixed : Fixed
all_fixed = record { count = true; mode = true; interp = true }

-- the most channels that a channelCount may ask for
abbrev pub most_channels : Row → ℕ
most_channels row = if row.at_most_stereo then 2 else 32

-- the channelCountMode at the creation of a node that hears what its input took in, by whether it has at most two channels
abbrev pub mode_heard : Bool → Mode
mode_heard at_most_stereo = if at_most_stereo then ClampedMax else Max

-- a node with one input and one output, which has as many channels as come in
abbrev pub effect : Row
effect = record {
  inputs = 1;
  outputs = 1;
  channels = OfInput;
  count = 2;
  mode = Max;
  interp = Speakers;
  fixed = free;
  at_most_stereo = false;
  param = None;
  plays = None;
  keeps = Nothing;
}

-- a parameter of any value, with the one that it is created with
abbrev pub any_value : ParamName → ℤ → Option ParamRow
any_value name value = Some (record { name = name; value = value; range = Any })

-- whether a node gives later what it wrote
abbrev pub is_written : Keeps → Bool
is_written (Written frames) = true
is_written Heard = false
is_written Nothing = false

-- how many frames it keeps of that
abbrev pub frames_written : Keeps → ℕ
frames_written (Written frames) = frames
frames_written Heard = 0
frames_written Nothing = 0

-- whether all that its input took in since its birth matters to later quanta
abbrev pub is_heard : Keeps → Bool
is_heard (Written frames) = false
is_heard Heard = true
is_heard Nothing = false
