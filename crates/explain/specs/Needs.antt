-- What a fact needs: the keys that its equation reads, in order.
use Rattle.std.specs.Prelude.{ℕ, ◌+◌, ◌-◌, ◌*◌, ◌/◌, ◌==◌, nat_lt, nat_le, ◌&&◌, ◌||◌, not, Bool, false, List, [], ◌∷◌, ◌++◌, map, length, if◌then◌else◌, Option, Some, None}
use Rattle.std.specs.List.{flat_map, range_with_len}
use Rattle.wa_base.specs.declared.graph_names.End.{End}
use Rattle.wa_base.specs.declared.graph_names.NodeId.{NodeId}
use Rattle.wa_base.specs.declared.graph_names.ParamName.{ParamName}
use Rattle.wa_base.specs.declared.graph_names.ParamName.TheVariants as param
use Rattle.node_table.specs.Kinds.{row, is_delay_kind}
use Rattle.node_table.specs.declared.equation.Equation.{Equation}
use Rattle.node_table.specs.declared.equation.Equation.TheVariants.{Filter, Convolution, Processor}
use Rattle.node_table.specs.declared.kinds.Kind.{Kind}
use Rattle.node_table.specs.declared.kinds.Kind.TheVariants.{Shaper, Causal}
use Rattle.node_table.specs.declared.rows.Channels.{Channels}
use Rattle.node_table.specs.declared.rows.Channels.TheVariants.{Always, OfInput, OfBuffer}
use Rattle.node_table.specs.declared.rows.Keeps.{Keeps}
use Rattle.node_table.specs.declared.rows.Keeps.TheVariants.{Nothing, Heard, Written}
use Rattle.node_table.specs.declared.rows.ParamRow.{ParamRow}
use Rattle.node_table.specs.declared.rows.Plays.{Plays}
use Rattle.node_table.specs.declared.rows.Plays.TheVariants.{Value, Content}
use Rattle.conn_graph.specs.declared.edges.Edge.{Edge}
use Rattle.conn_graph.specs.Graph.{edges_to_input, edges_to_param}
use Rattle.conn_graph.specs.Ends.{writer_of, reader_of, in_cycle, muted}
use Rattle.meaning.specs.declared.world.World.{World}
use Rattle.meaning.specs.World.{node_at, kind_of, param_id, is_k_rate, sounds_at}
use Rattle.meaning.specs.Counts.{world_in}
use Rattle.meaning.specs.Values.{delay_frames, taken_from, world_at}
use Rattle.explain.specs.declared.facts.Key.{Key}
use Rattle.explain.specs.declared.facts.Key.TheVariants.{Count, Inlet, Par, Hist, Out}
use Rattle.explain.specs.Accounts.{Account, frame_in, frames_in}
use Rattle.explain.specs.Facts.{has_history}

-- whether an equation reads what its node took in so many frames ago: a filter at the place of each coefficient, a convolver of each sample of its response, and a processor at this frame
abbrev pub reads_input : Equation → ℕ → Bool
reads_input (Filter forward back) ago = nat_lt ago (length forward)
reads_input (Convolution response) ago = nat_lt ago (length response)
reads_input (Processor program) ago = ago == 0

-- and whether it reads what came of it then: a filter at the place of each further coefficient, a processor at the frame before
abbrev pub reads_result : Equation → ℕ → Bool
reads_result (Filter forward back) ago = nat_le 1 ago && nat_lt ago (length back)
reads_result (Convolution response) ago = false
reads_result (Processor program) ago = ago == 1

-- a shaper reads what it takes in at this frame
abbrev pub hears : Kind → ℕ → Bool
hears (Shaper curve was_set) ago = ago == 0
hears (Causal equation) ago = reads_input equation ago
hears other ago = false

abbrev pub feeds_back : Kind → ℕ → Bool
feeds_back (Causal equation) ago = reads_result equation ago
feeds_back other ago = false

module _ (q : ℕ) (tape : List World) (a : Account) where
  -- ---- what is carried

  -- an output at frame f: how many channels it has, and then each of them
  abbrev pub carried : ℕ → End → ℕ → List Key
  carried f e o = Count (f / q) e o ∷ map (λ c. Out f e o c) (range_with_len 0 (a.counts (f / q) e))

  -- connections, in their order
  abbrev pub connections_needs : ℕ → List Edge → List Key
  connections_needs f edges = flat_map (λ x. carried f (reader_of x.from.0) x.output) edges

  -- the value of a parameter rests on its connections, at k-rate at the first frame of the quantum
  abbrev pub param_needs : ℕ → ℕ → ParamName → List Key
  param_needs f n name =
      let w = world_at q tape f in
      connections_needs (if is_k_rate w (param_id n name) then q * (f / q) else f) (edges_to_param w.graph.value (param_id n name))

  -- ---- counts

  -- how many channels what is connected to a node has
  abbrev pub input_counts : ℕ → ℕ → List Key
  input_counts j n = map (λ x. Count j (reader_of x.from.0) x.output) (edges_to_input (world_in tape j).graph.value n 0)

  -- how many channels the writer of a delay had from the delay's birth on up to quantum j, and in a cycle up to the one before
  abbrev pub writer_counts : ℕ → ℕ → List Key
  writer_counts j n =
      let w = world_in tape j in
      let birth = (node_at w n).attrs.birth / q in
      let end = if in_cycle w.graph.value n then j else j + 1 in
      map (λ k. Count k (writer_of n) 0) (range_with_len birth (end - birth))

  abbrev pub counts_by_row : ℕ → ℕ → Channels → List Key
  counts_by_row j n (Always channels) = []
  counts_by_row j n OfInput = input_counts j n
  counts_by_row j n OfBuffer = []

  abbrev pub counts_by_kind : ℕ → End → Kind → List Key
  counts_by_kind j e kind = if is_delay_kind kind && not e.writer then writer_counts j e.node.0 else counts_by_row j e.node.0 (row kind).channels

  abbrev pub count_needs : ℕ → End → List Key
  count_needs j e = let w = world_in tape j in if muted w.graph.value e then [] else counts_by_kind j e (kind_of w e.node.0)

  -- ---- histories

  -- what a node took in at frame f on channel c: how many channels it has there, and the input, unless the node is muted or has no such channel there
  abbrev pub heard_needs : ℕ → ℕ → ℕ → List Key
  heard_needs f n c =
      Count (f / q) (reader_of n) 0
      ∷ (if muted (world_at q tape f).graph.value (reader_of n) || not (nat_lt c (a.counts (f / q) (reader_of n))) then [] else Inlet f (reader_of n) 0 c ∷ [])

  -- what a node reads of frame f - ago
  abbrev pub needs_ago : ℕ → ℕ → ℕ → Kind → ℕ → List Key
  needs_ago f n c kind ago =
      (if hears kind ago then heard_needs (f - ago) n c else []) ++ (if feeds_back kind ago then Hist (f - ago) (record { 0 = n }) c ∷ [] else [])

  -- the frames from f back to the node's birth, one after the other
  abbrev pub history_needs : ℕ → ℕ → ℕ → List Key
  history_needs f n c =
      let node = node_at (world_at q tape f) n in
      flat_map (needs_ago f n c node.kind) (range_with_len 0 (f + 1 - node.attrs.birth))

  -- ---- outputs

  -- a reader needs its delayTime, and what its writer took in so many frames before, unless the delay was not born then
  abbrev pub delayed_needs : ℕ → ℕ → List Key
  delayed_needs f n =
      let d = delay_frames q f (frames_in q tape a f) (frame_in q tape a f) n in
      Par f (record { 0 = n }) param.DelayTime
      ∷ (if nat_lt f ((node_at (world_at q tape f) n).attrs.birth + d) then [] else carried (f - d) (writer_of n) 0)

  -- the value of the parameter of a node, where it has one
  abbrev pub level_needs : ℕ → NodeId → Option ParamRow → List Key
  level_needs f node None = []
  level_needs f node (Some row) = Par f node row.name ∷ []

  -- what channel c of output o rests on, of an end whose node keeps nothing
  abbrev pub play_needs : ℕ → End → ℕ → ℕ → Option Plays → Kind → List Key
  play_needs f e o c None kind =
      if has_history kind then Hist f e.node c ∷ [] else
      level_needs f e.node (row kind).param ++ Inlet f e (taken_from kind o c).0 (taken_from kind o c).1 ∷ []
  play_needs f e o c (Some Value) kind = if sounds_at (world_at q tape f) e.node.0 f then level_needs f e.node (row kind).param else []
  play_needs f e o c (Some (Content rate)) kind = []

  abbrev pub row_needs : ℕ → End → ℕ → ℕ → Keeps → Option Plays → Kind → List Key
  row_needs f e o c Nothing plays kind = play_needs f e o c plays kind
  row_needs f e o c Heard plays kind = Hist f e.node c ∷ []
  row_needs f e o c (Written frames) plays kind = if e.writer then Inlet f e 0 c ∷ [] else delayed_needs f e.node.0

  -- channel c of output o of an end, by the row of its node
  abbrev pub output_by_kind : ℕ → End → ℕ → ℕ → Kind → List Key
  output_by_kind f e o c kind = row_needs f e o c (row kind).keeps (row kind).plays kind

  -- a muted end needs nothing, and of a channel that an end lacks the number of its channels is enough
  abbrev pub output_needs : ℕ → End → ℕ → ℕ → List Key
  output_needs f e o c =
      let w = world_at q tape f in
      if muted w.graph.value e then []
      else Count (f / q) e o ∷ (if nat_lt c (a.counts (f / q) e) then output_by_kind f e o c (kind_of w e.node.0) else [])

  -- ---- what each key needs

  unfoldable pub needs : Key → List Key
  needs (Count j e o) = count_needs j e
  needs (Inlet f e i c) = connections_needs f (edges_to_input (world_at q tape f).graph.value e.node.0 i)
  needs (Par f node name) = param_needs f node.0 name
  needs (Hist f node c) = history_needs f node.0 c
  needs (Out f e o c) = output_needs f e o c
