-- How many channels an input has: its computed number of channels, from the channels of its connections.
use Rattle.std.specs.Prelude.{ℕ, max, min, List, [], ◌∷◌}
use Rattle.wa_base.specs.declared.graph_names.Mode.{Mode}
use Rattle.wa_base.specs.declared.graph_names.Mode.TheVariants.{Max, ClampedMax, Explicit}

-- the greatest of the numbers, and at least 1: an input with no connection has one silent channel
abbrev pub greatest : List ℕ → ℕ
greatest [] = 1
greatest (n ∷ ns) = max n (greatest ns)

-- by the mode, the channelCount and the number of channels of each connection
abbrev pub input_count : Mode → ℕ → List ℕ → ℕ
input_count Max channel_count counts = greatest counts
input_count ClampedMax channel_count counts = min (greatest counts) channel_count
input_count Explicit channel_count counts = channel_count
