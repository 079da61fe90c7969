-- What the connections of a list bring to a target, connection by connection.
use Rattle.std.specs.Prelude.{ℕ, ℤ, pos, if◌then◌else◌}
use Rattle.conn_graph.specs.declared.edges.Edge.{Edge}
use Rattle.conn_graph.specs.declared.edges.Target.{Target}
use Rattle.conn_graph.specs.Edges.{same_target}
use Rattle.conn_graph.specs.Ends.{reader_of}
use Rattle.meaning.specs.Counts.{Counts}
use Rattle.meaning.specs.Values.{Frame, part}
use Rattle.equations.specs.declared.sums.Lane.{Lane}

-- a lane of what a connection carries, where it leads to the target
abbrev pub led_part : Target → Frame → Lane → Edge → ℤ
led_part target x lane e = if same_target target e.to then part x lane.interp lane.channels lane.channel e else pos 0

-- how many channels it has
abbrev pub led_count : Target → Counts → Edge → ℕ
led_count target counts e = if same_target target e.to then counts (reader_of e.from.0) else 1
