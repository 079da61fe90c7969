-- How many channels each end has in each quantum.
use Rattle.std.specs.Prelude.{ℕ, ◌+◌, ◌-◌, ◌*◌, ◌/◌, ◌==◌, ◌&&◌, not, List, map, slice_index_or, nat_lt, if◌then◌else◌}
use Rattle.wa_base.specs.declared.graph_names.End.{End}
use Rattle.law_base.specs.Heights.{Scheme, at_moment}
use Rattle.mix_rules.specs.Counts.{greatest, input_count}
use Rattle.node_table.specs.declared.kinds.Kind.{Kind}
use Rattle.node_table.specs.declared.rows.Channels.{Channels}
use Rattle.node_table.specs.declared.rows.Channels.TheVariants.{Always, OfInput, OfBuffer}
use Rattle.node_table.specs.Kinds.{row, is_delay_kind}
use Rattle.conn_graph.specs.Graph.{edges_to_input}
use Rattle.conn_graph.specs.Ends.{writer_of, reader_of, in_cycle, height, muted}
use Rattle.meaning.specs.declared.world.World.{World}
use Rattle.meaning.specs.Lists.{since}
use Rattle.meaning.specs.World.{sounding, no_world, node_at, kind_of, played_channels}

-- the world in force in a quantum, as it sounds
abbrev pub world_in : List World → ℕ → World
world_in tape j = sounding (slice_index_or tape j no_world)

abbrev pub Counts : Type 0
Counts = End → ℕ

-- the computed number of channels of a node's input
abbrev pub input_channels : World → Counts → ℕ → ℕ → ℕ
input_channels w counts n i = input_count (node_at w n).attrs.mode (node_at w n).attrs.count (map (λ e. counts (reader_of e.from.0)) (edges_to_input w.graph.value n i))

-- the counts of quantum k, as the rule of quantum j sees them
abbrev pub seen_counts : ℕ → (ℕ → Counts) → Counts → ℕ → Counts
seen_counts j past now k = if k == j then now else past k

-- How many channels the reader of a delay has in quantum j: the most that its writer had in a quantum from the delay's birth up to this one, and in a cycle up to the one before.
abbrev pub reader_channels : ℕ → World → ℕ → (ℕ → Counts) → Counts → ℕ → ℕ
reader_channels q w j past now n =
    let birth = (node_at w n).attrs.birth / q in
    let end = if in_cycle w.graph.value n then j else j + 1 in
    greatest (since (λ k. seen_counts j past now k (writer_of n)) birth (end - birth))

-- how many channels the outputs of a node have in quantum j of q frames, by its row
abbrev pub output_channels : ℕ → World → ℕ → Counts → Channels → ℕ → ℕ
output_channels q w j now (Always channels) n = channels
output_channels q w j now OfInput n = input_channels w now n 0
output_channels q w j now OfBuffer n = played_channels w n q (q * j)

-- by the kind of an end's node, from the counts of the quanta before and of this one: the reader of a delay gives what its writer had
abbrev pub count_by_kind : ℕ → World → ℕ → (ℕ → Counts) → Counts → Kind → End → ℕ
count_by_kind q w j past now kind e =
    if is_delay_kind kind && not e.writer then reader_channels q w j past now e.node.0
    else output_channels q w j now (row kind).channels e.node.0

-- the counts one height up; a muted end has one channel
unfoldable pub count_rule : ℕ → World → ℕ → (ℕ → Counts) → Counts → Counts
count_rule q w j past now = λ e. if muted w.graph.value e then 1 else count_by_kind q w j past now (kind_of w e.node.0) e

abbrev pub count_scheme : ℕ → Scheme World Counts Counts
count_scheme q = record { silence = λ e. 1; rule = count_rule q; full = λ w. height w.graph.value; seen_as = λ w counts. counts; nothing = λ e. 1 }

-- at height h in quantum j
unfoldable pub count_at : ℕ → List World → ℕ → ℕ → Counts
unfolding at_moment
count_at q tape j h = at_moment (count_scheme q) (world_in tape) j h

-- at full height
unfoldable pub count : ℕ → List World → ℕ → Counts
unfolding count_at
count q tape j = count_at q tape j (height (world_in tape j).graph.value)

-- what the counts of quantum j see of the tape: the quanta before j, each at its full height
abbrev pub counts_before : ℕ → List World → ℕ → ℕ → Counts
counts_before q tape j k = if nat_lt k j then count q tape k else λ e. 1
