-- What each end carries at each frame.
use Rattle.std.specs.Prelude.{ℕ, ◌+◌, ◌-◌, max, ℤ, pos, ◌+ℤ◌, ◌*◌, ◌/◌, List, [], ◌∷◌, map, Bool, nat_lt, ◌==◌, ◌&&◌, if◌then◌else◌, Option, Some, None}
use Rattle.wa_base.specs.Numbers.{scale}
use Rattle.wa_base.specs.declared.graph_names.End.{End}
use Rattle.wa_base.specs.declared.graph_names.Interp.{Interp}
use Rattle.wa_base.specs.declared.graph_names.Interp.TheVariants.{Speakers}
use Rattle.wa_base.specs.declared.graph_names.ParamId.{ParamId}
use Rattle.wa_base.specs.declared.graph_names.ParamName.TheVariants as param
use Rattle.law_base.specs.Heights.{Scheme, at_moment}
use Rattle.node_table.specs.Curves.{shaper_value}
use Rattle.node_table.specs.Equations.{equation_value}
use Rattle.mix_rules.specs.Mixing.{mix, fan_in}
use Rattle.node_table.specs.Delays.{frames_of}
use Rattle.node_table.specs.Kinds.{row, outputs}
use Rattle.node_table.specs.declared.kinds.Kind.{Kind}
use Rattle.node_table.specs.declared.kinds.Kind.TheVariants.{Gain, Splitter, Merger, Shaper, Causal}
use Rattle.node_table.specs.declared.rows.Keeps.{Keeps}
use Rattle.node_table.specs.declared.rows.Keeps.TheVariants.{Nothing, Heard, Written}
use Rattle.node_table.specs.declared.rows.ParamRow.{ParamRow}
use Rattle.node_table.specs.declared.rows.Plays.{Plays}
use Rattle.node_table.specs.declared.rows.Plays.TheVariants.{Value, Content}
use Rattle.conn_graph.specs.declared.edges.Edge.{Edge}
use Rattle.conn_graph.specs.Graph.{edges_to_input, edges_to_param}
use Rattle.conn_graph.specs.Ends.{writer_of, reader_of, input_end, in_cycle, height, muted}
use Rattle.meaning.specs.declared.world.World.{World}
use Rattle.meaning.specs.Lists.{since}
use Rattle.meaning.specs.World.{no_world, node_at, kind_of, param_id, intrinsic_value, is_k_rate, nominal, sounds_at, played_at}
use Rattle.meaning.specs.Counts.{Counts, world_in, input_channels, count}

-- all values of one frame: for each end, output and channel
abbrev pub Values : Type 0
Values = End → ℕ → ℕ → ℤ

abbrev pub silence : Values
silence = λ e o c. pos 0

-- all that one frame has
pub record Frame : Type 0 where
  pub world : World
  pub counts : Counts
  pub values : Values

abbrev pub no_frame : Frame
no_frame = record { world = no_world; counts = λ e. 1; values = silence }

-- frame g, as an equation of frame f sees it
abbrev pub seen : ℕ → (ℕ → Frame) → Frame → ℕ → Frame
seen f past here g = if g == f then here else past g

-- ---- connections, inputs and parameters

-- channel c of what a connection carries, mixed to so many channels
abbrev pub part : Frame → Interp → ℕ → ℕ → Edge → ℤ
part x interp to c e = mix interp (x.counts (reader_of e.from.0)) to (x.values (reader_of e.from.0) e.output) c

-- the exact sum over connections, saturated once
abbrev pub mixed_sum : Frame → Interp → ℕ → ℕ → List Edge → ℤ
mixed_sum x interp to c edges = fan_in (map (part x interp to c) edges)

-- channel c of input i of node n
unfoldable pub input_value : Frame → ℕ → ℕ → ℕ → ℤ
input_value x n i c =
    let to = input_channels x.world x.counts n i in
    if nat_lt c to then mixed_sum x (node_at x.world n).attrs.interp to c (edges_to_input x.world.graph.value n i) else pos 0

-- channel c of what the input of node n takes in; an end that is muted takes in nothing
abbrev pub taken_in : Frame → ℕ → ℕ → ℤ
taken_in x n c = if muted x.world.graph.value (input_end x.world.graph.value n) then pos 0 else input_value x n 0 c

-- all that the input of node n took in on channel c, from its birth to frame f
abbrev pub frames_heard : ℕ → (ℕ → Frame) → Frame → ℕ → ℕ → List ℤ
frames_heard f past here n c = let birth = (node_at here.world n).attrs.birth in since (λ g. taken_in (seen f past here g) n c) birth (f + 1 - birth)

-- The computed value of a parameter (paramComputedValue): its intrinsic value plus what its connections carry, mixed to one channel, in the nominal range.
-- At k-rate both are taken at the first frame of the quantum.
unfoldable pub computed_value : ℕ → ℕ → (ℕ → Frame) → Frame → ParamId → ℤ
computed_value q f past here id =
    let g = if is_k_rate here.world id then q * (f / q) else f in
    nominal (kind_of here.world id.node.0)
    (intrinsic_value here.world id g +ℤ mixed_sum (seen f past here g) Speakers 1 0 (edges_to_param here.world.graph.value id))

-- ---- delays

-- how many frames a delay lasts at frame f: its delayTime at the context's rate, and in a cycle at least a quantum
abbrev pub delay_frames : ℕ → ℕ → (ℕ → Frame) → Frame → ℕ → ℕ
delay_frames q f past here n =
    let frames = frames_of (computed_value q f past here (param_id n param.DelayTime)) here.world.spec.rate in
    if in_cycle here.world.graph.value n then max q frames else frames

-- Channel c of what a delay's reader gives at frame f: what its writer took in so many frames before. It is mixed from the channels that the writer had then to those that the reader has, by the interpretation in force now. Before the delay's birth there was silence.
abbrev pub delayed : ℕ → ℕ → (ℕ → Frame) → Frame → ℕ → ℕ → ℤ
delayed q f past here n c =
    let node = node_at here.world n in
    let d = delay_frames q f past here n in
    let x = seen f past here (f - d) in
    if nat_lt f (node.attrs.birth + d) then pos 0 else mix node.attrs.interp (x.counts (writer_of n)) (here.counts (reader_of n)) (x.values (writer_of n) 0) c

-- ---- the equations

-- The input of a node, and the channel of it, of which channel c of its output o is made. An output of a splitter is a channel of its input, and a channel of a merger is one of its inputs, mixed to one channel.
abbrev pub taken_from : Kind → ℕ → ℕ → ℕ × ℕ
taken_from (Splitter outputs) o c = (0, o)
taken_from (Merger inputs) o c = (c, 0)
taken_from other o c = (0, c)

-- What a node makes of a value of its input and of the value of its parameter at the same frame. A gain multiplies them, a shaper looks the value up in its curve, and all others hand it on.
abbrev pub made_of : Kind → ℤ → ℤ → ℤ
made_of (Gain gain) value level = scale value level
made_of (Shaper curve was_set) value level = shaper_value curve (value ∷ [])
made_of other value level = value

-- what a causal node puts out, of all that it heard on a channel
abbrev pub causal_value : Kind → List ℤ → ℤ
causal_value (Causal equation) values = equation_value equation values
causal_value other values = pos 0

module _ (q f : ℕ) (past : ℕ → Frame) (here : Frame) where
  -- the computed value of the parameter of node n, where it has one
  abbrev pub level_of : ℕ → Option ParamRow → ℤ
  level_of n None = pos 0
  level_of n (Some row) = computed_value q f past here (param_id n row.name)

  -- channel c of output o of a node that is made of its input at this frame
  abbrev pub effect_value : Kind → ℕ → ℕ → ℕ → ℤ
  effect_value kind n o c = made_of kind (input_value here n (taken_from kind o c).0 (taken_from kind o c).1) (level_of n (row kind).param)

  -- A source gives the value of its parameter while it sounds, or what it plays of its buffer.
  abbrev pub value_by_play : Option Plays → Kind → ℕ → ℕ → ℕ → ℤ
  value_by_play None kind n o c = effect_value kind n o c
  value_by_play (Some Value) kind n o c = if sounds_at here.world n f then level_of n (row kind).param else pos 0
  value_by_play (Some (Content rate)) kind n o c = played_at here.world n c f

  -- The writer of a delay takes in what its reader gives later, and a causal node hears its input from its birth on.
  abbrev pub value_by_row : Keeps → Option Plays → Kind → End → ℕ → ℕ → ℤ
  value_by_row Nothing plays kind e o c = value_by_play plays kind e.node.0 o c
  value_by_row Heard plays kind e o c = causal_value kind (frames_heard f past here e.node.0 c)
  value_by_row (Written frames) plays kind e o c = if e.writer then input_value here e.node.0 0 c else delayed q f past here e.node.0 c

  -- channel c of output o of an end, by the row of its node
  abbrev pub value_by_kind : Kind → End → ℕ → ℕ → ℤ
  value_by_kind kind e o c = value_by_row (row kind).keeps (row kind).plays kind e o c

-- whether an end has channel c of output o
abbrev pub has_channel : World → Counts → End → ℕ → ℕ → Bool
has_channel w counts e o c = nat_lt o (outputs (kind_of w e.node.0)) && nat_lt c (counts e)

-- Each end's equation at frame f, from the frames before and from this frame one height below. A muted end is silent, and so are an output and a channel that an end lacks.
unfoldable pub equation : ℕ → ℕ → (ℕ → Frame) → Frame → Values
equation q f past here = λ e o c.
    if muted here.world.graph.value e then pos 0 else
    if has_channel here.world here.counts e o c then value_by_kind q f past here (kind_of here.world e.node.0) e o c else pos 0

-- ---- the recursion over frame and height

abbrev pub value_scheme : ℕ → Scheme (World × Counts) Values Frame
value_scheme q = record {
  silence = silence;
  rule = λ known f past now. equation q f past (record { world = known.0; counts = known.1; values = now });
  full = λ known. height known.0.graph.value;
  seen_as = λ known values. record { world = known.0; counts = known.1; values = values };
  nothing = no_frame;
}

module _ (q : ℕ) (tape : List World) where
  -- the world of a frame, and with it the counts
  abbrev pub world_at : ℕ → World
  world_at f = world_in tape (f / q)

  abbrev pub known_at : ℕ → World × Counts
  known_at f = (world_at f, count q tape (f / q))

  -- at frame f and height h
  unfoldable pub value_at : ℕ → ℕ → Values
  unfolding at_moment
  value_at f h = at_moment (value_scheme q) known_at f h

  -- at full height
  unfoldable pub value : ℕ → Values
  unfolding value_at
  value f = value_at f (height (world_at f).graph.value)

  -- all of a frame
  abbrev pub frame : ℕ → Frame
  frame f = record { world = world_at f; counts = count q tape (f / q); values = value f }

  -- what an equation of frame f sees of the tape: the frames before f, each at its full height
  abbrev pub frames_before : ℕ → ℕ → Frame
  frames_before f g = if nat_lt g f then frame g else no_frame

  -- frame f, with the values of height h
  abbrev pub frame_at : ℕ → ℕ → Frame
  frame_at f h = record { world = world_at f; counts = count q tape (f / q); values = value_at f h }

  -- the computed value of a parameter at frame f, with all values at full height
  abbrev pub param_value : ℕ → ParamId → ℤ
  param_value f id = computed_value q f (frames_before f) (frame f) id
