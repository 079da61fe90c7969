-- The needs of a key in groups: those of a connection, of a quantum or of a frame are one group.
use Rattle.std.specs.Prelude.{ℕ, zero, suc, ◌+◌, ◌-◌, ◌*◌, ◌/◌, nat_lt, ◌&&◌, not, List, [], ◌∷◌, ◌++◌, slice_get, if◌then◌else◌, filter}
use Rattle.std.specs.Option.{option_map_or}
use Rattle.wa_base.specs.declared.graph_names.End.{End}
use Rattle.wa_base.specs.declared.graph_names.ParamName.{ParamName}
use Rattle.node_table.specs.Kinds.{row, is_delay_kind}
use Rattle.node_table.specs.declared.kinds.Kind.{Kind}
use Rattle.node_table.specs.declared.kinds.Kind.TheVariants.{Delay}
use Rattle.node_table.specs.declared.rows.Channels.{Channels}
use Rattle.node_table.specs.declared.rows.Channels.TheVariants.{OfInput}
use Rattle.conn_graph.specs.Cells.{enters}
use Rattle.conn_graph.specs.Edges.{same_target}
use Rattle.conn_graph.specs.declared.edges.Edge.{Edge}
use Rattle.conn_graph.specs.declared.edges.Target.{Target}
use Rattle.conn_graph.specs.declared.edges.Target.TheVariants as to
use Rattle.conn_graph.specs.Graph.{Connections}
use Rattle.conn_graph.specs.Ends.{writer_of, reader_of, in_cycle, muted}
use Rattle.meaning.specs.declared.world.World.{World}
use Rattle.meaning.specs.World.{node_at, kind_of, param_id, is_k_rate}
use Rattle.meaning.specs.Counts.{world_in}
use Rattle.meaning.specs.Values.{delay_frames, world_at}
use Rattle.explain.specs.declared.facts.Key.{Key}
use Rattle.explain.specs.declared.facts.Key.TheVariants.{Count, Inlet, Par, Hist, Out}
use Rattle.explain.specs.Accounts.{Account, frame_in, frames_in}
use Rattle.explain.specs.Needs.{carried, hears, feeds_back, heard_needs, needs_ago, output_needs}

-- ---- groups by connections

-- the connections that lead to a node, in the graph's order
abbrev pub arriving : Connections → ℕ → List Edge
arriving g n = filter (enters n) g.edges

-- the keys of a connection, where it leads to a target
abbrev pub led : Target → (Edge → List Key) → Edge → List Key
led target keys x = if same_target target x.to then keys x else []

-- the keys of the connection at a place
abbrev pub edge_group : Target → (Edge → List Key) → List Edge → ℕ → List Key
edge_group target keys edges g = option_map_or (led target keys) (slice_get edges g) []

abbrev pub input_of : ℕ → ℕ → Target
input_of n i = to.Input (record { 0 = n }) i

abbrev pub one : Key → List Key
one key = key ∷ []

-- the frame at which a parameter takes its connections
abbrev pub param_frame : ℕ → List World → ℕ → ℕ → ParamName → ℕ
param_frame q tape f n name = if is_k_rate (world_at q tape f) (param_id n name) then q * (f / q) else f

-- what came of a node at frame g, where its kind reads it so many frames later
abbrev pub result_keys : ℕ → ℕ → ℕ → Kind → ℕ → List Key
result_keys g n c kind ago = if feeds_back kind ago then Hist g (record { 0 = n }) c ∷ [] else []

module _ (q : ℕ) (tape : List World) (a : Account) where
  -- what the source of a connection carries at frame f
  abbrev pub source_keys : ℕ → Edge → List Key
  source_keys f x = carried q tape a f (reader_of x.from.0) x.output

  abbrev pub inlet_group : ℕ → ℕ → ℕ → ℕ → List Key
  inlet_group f n i = edge_group (input_of n i) (source_keys f) (arriving (world_at q tape f).graph.value n)

  abbrev pub param_group : ℕ → ℕ → ParamName → ℕ → List Key
  param_group f n name = edge_group (to.Param (param_id n name)) (source_keys (param_frame q tape f n name)) (arriving (world_at q tape f).graph.value n)

  -- ---- counts

  -- what is connected to a node
  abbrev pub input_count_group : ℕ → ℕ → ℕ → List Key
  input_count_group j n = edge_group (input_of n 0) (λ x. one (Count j (reader_of x.from.0) x.output)) (arriving (world_in tape j).graph.value n)

  -- in how many quanta the writer of a delay is counted, from the delay's birth on
  abbrev pub first_counted : ℕ → ℕ → ℕ
  first_counted j n = (node_at (world_in tape j) n).attrs.birth / q

  abbrev pub quanta_counted : ℕ → ℕ → ℕ
  quanta_counted j n = (if in_cycle (world_in tape j).graph.value n then j else j + 1) - first_counted j n

  -- its writer in a quantum
  abbrev pub writer_count_group : ℕ → ℕ → ℕ → List Key
  writer_count_group j n g = if nat_lt g (quanta_counted j n) then one (Count (first_counted j n + g) (writer_of n) 0) else []

  abbrev pub row_count_group : ℕ → ℕ → Channels → ℕ → List Key
  row_count_group j n OfInput g = input_count_group j n g
  row_count_group j n other g = []

  abbrev pub kind_count_group : ℕ → End → Kind → ℕ → List Key
  kind_count_group j e kind g = if is_delay_kind kind && not e.writer then writer_count_group j e.node.0 g else row_count_group j e.node.0 (row kind).channels g

  abbrev pub count_group : ℕ → End → ℕ → List Key
  count_group j e g = let w = world_in tape j in if muted w.graph.value e then [] else kind_count_group j e (kind_of w e.node.0) g

  -- ---- histories

  -- what a node of a kind reads of frame g, so many frames ago: of what it took in, and of what came of it
  abbrev pub input_keys : ℕ → ℕ → ℕ → Kind → ℕ → List Key
  input_keys g n c kind ago = if hears kind ago then heard_needs q tape a g n c else []

  abbrev pub read_keys : ℕ → ℕ → ℕ → Kind → ℕ → List Key
  read_keys g n c kind ago = input_keys g n c kind ago ++ result_keys g n c kind ago

  abbrev pub history_group : ℕ → ℕ → ℕ → ℕ → List Key
  history_group f n c g =
      let node = node_at (world_at q tape f) n in
      if nat_lt g (f + 1 - node.attrs.birth) then needs_ago q tape a f n c node.kind g else []

  -- ---- outputs

  -- what the writer of a delay took in so many frames before, unless the delay was not born then
  abbrev pub delayed_keys : ℕ → ℕ → List Key
  delayed_keys f n =
      let d = delay_frames q f (frames_in q tape a f) (frame_in q tape a f) n in
      if nat_lt f ((node_at (world_at q tape f) n).attrs.birth + d) then [] else carried q tape a (f - d) (writer_of n) 0

  abbrev pub delay_keys : ℕ → End → Kind → List Key
  delay_keys f e (Delay longest time capacity) = if e.writer then [] else delayed_keys f e.node.0
  delay_keys f e other = []

  abbrev pub tail_keys : ℕ → End → ℕ → List Key
  tail_keys f e c = let w = world_at q tape f in if muted w.graph.value e then [] else if nat_lt c (a.counts (f / q) e) then delay_keys f e (kind_of w e.node.0) else []

  -- the first group is what a delay gives later, and the second one is all that an output needs
  abbrev pub output_group : ℕ → End → ℕ → ℕ → ℕ → List Key
  output_group f e o c zero = tail_keys f e c
  output_group f e o c (suc zero) = output_needs q tape a f e o c
  output_group f e o c (suc (suc g)) = []

  -- ---- all keys

  abbrev pub group : Key → ℕ → List Key
  group (Count j e o) = count_group j e
  group (Inlet f e i c) = inlet_group f e.node.0 i
  group (Par f node name) = param_group f node.0 name
  group (Hist f node c) = history_group f node.0 c
  group (Out f e o c) = output_group f e o c
