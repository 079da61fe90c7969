-- What is in force in one render quantum.
use Rattle.std.specs.Prelude.{ℕ, ℤ, pos, List, [], map, slice_index_or, Bool, true, false, ◌==◌, if◌then◌else◌, slice_get, option_and_then, option_map, min, Option, None, is_some}
use Rattle.std.specs.List.{position}
use Rattle.std.specs.Option.{option_map_or}
use Rattle.wa_base.specs.Numbers.{sat}
use Rattle.wa_base.specs.declared.graph_names.BufId.{BufId}
use Rattle.wa_base.specs.declared.graph_names.ParamId.{ParamId}
use Rattle.wa_base.specs.declared.graph_names.ParamName.{ParamName}
use Rattle.wa_base.specs.declared.graph_names.Mode.TheVariants.{Explicit}
use Rattle.wa_base.specs.declared.graph_names.Interp.TheVariants.{Speakers}
use Rattle.wa_base.specs.declared.graph_names.Rate.{Rate}
use Rattle.wa_base.specs.declared.graph_names.Rate.TheVariants.{A, K}
use Rattle.param_events.specs.Values.{value_at}
use Rattle.sched_source.specs.declared.content.Loop.{Loop}
use Rattle.sched_source.specs.Schedule.{Schedule, plays_at, plays_in, played, constant, buffer}
use Rattle.buffer_store.specs.declared.buffers.Buffer.{Buffer as AudioBuffer}
use Rattle.buffer_store.specs.Buffers.{channel_of}
use Rattle.node_table.specs.declared.kinds.Kind.{Kind}
use Rattle.node_table.specs.declared.kinds.Kind.TheVariants.{Destination}
use Rattle.node_table.specs.declared.rows.Plays.{Plays}
use Rattle.node_table.specs.declared.rows.Plays.TheVariants.{Value, Content}
use Rattle.node_table.specs.declared.rows.Range.{Range}
use Rattle.node_table.specs.declared.rows.Range.TheVariants.{Any, UpTo}
use Rattle.node_table.specs.Kinds.{row}
use Rattle.node_table.specs.declared.nodes.Node.{Node}
use Rattle.conn_graph.specs.Edges.{same_param}
use Rattle.conn_graph.specs.Graph.{Connections, no_connections}
use Rattle.conn_graph.specs.Walks.{GraphView}
use Rattle.meaning.specs.declared.world.World.{World}
use Rattle.meaning.specs.declared.params.Param.{Param}
use Rattle.meaning.specs.declared.scheds.Play.{Play}
use Rattle.meaning.specs.Lists.{listed}

-- ---- a world as the meaning sees it

-- a graph without the cells in which its connections are kept, and without the number of its edits
abbrev pub bare : Connections → GraphView
bare graph = record { value = graph; out_walks = []; in_walks = []; room = 0; edits = 0 }

-- No meaning rests on where connections are kept, on room for more, or on how often there was an edit.
abbrev pub plain : World → World
plain w = record {
  spec = w.spec;
  nodes = w.nodes;
  graph = bare w.graph.value;
  params = listed w.params.items;
  scheds = listed w.scheds.items;
  store = w.store;
}

-- a parameter whose current value slot is not looked at: it is 0
abbrev pub unread : Param → Param
unread p = record p { line = record p.line { slot = pos 0 } }

-- What of a world can be heard: a slot is what a call reads, and no sample comes from it.
abbrev pub sounding : World → World
sounding w = record (plain w) { params = listed (map unread w.params.items) }

-- The world without nodes. It stands for the quanta past the end of a tape, and what is said of other worlds begins with it.
abbrev pub no_world : World
no_world = record {
  spec = record { channels = 1; length = 1; rate = 8000; quantum = 128 };
  nodes = [];
  graph = bare no_connections;
  params = listed [];
  scheds = listed [];
  store = [];
}

-- ---- its nodes

abbrev pub no_node : Node
no_node = record { kind = Destination; attrs = record { count = 1; mode = Explicit; interp = Speakers; birth = 0 } }

abbrev pub node_at : World → ℕ → Node
node_at w i = slice_index_or w.nodes i no_node

abbrev pub kind_of : World → ℕ → Kind
kind_of w i = (node_at w i).kind

-- ---- its parameters

abbrev pub param_id : ℕ → ParamName → ParamId
param_id node name = record { node = record { 0 = node }; name = name }

-- the first item with an identity
abbrev pub find_param : List Param → ParamId → Option Param
find_param params id = option_and_then (slice_get params) (position (λ p. same_param p.id id) params)

-- the intrinsic value at a frame (paramIntrinsicValue)
abbrev pub intrinsic_value : World → ParamId → ℕ → ℤ
intrinsic_value w id frame = option_map_or (λ p. value_at p.line.base p.line.events frame) (find_param w.params.items id) (pos 0)

-- the current value slot, which a script reads as the parameter's `value`
abbrev pub slot_of : World → ParamId → ℤ
slot_of w id = option_map_or (λ p. p.line.slot) (find_param w.params.items id) (pos 0)

abbrev pub is_k : Rate → Bool
is_k A = false
is_k K = true

abbrev pub is_k_rate : World → ParamId → Bool
is_k_rate w id = option_map_or (λ p. is_k p.rate) (find_param w.params.items id) false

-- the number nearest to x from 0 up to another
abbrev pub up_to : ℤ → ℤ → ℤ
up_to (pos most) (pos x) = pos (min x most)
up_to most x = pos 0

-- a value in a nominal range
abbrev pub in_range : Range → ℤ → ℤ
in_range Any x = sat x
in_range (UpTo most) x = up_to most x

-- a value clamped to the nominal range of the parameter that a kind has; 0 where it has none
abbrev pub nominal : Kind → ℤ → ℤ
nominal kind x = option_map_or (λ p. in_range p.range x) (row kind).param (pos 0)

-- ---- its schedules

abbrev pub no_loop : Loop
no_loop = record { on = false; first = pos 0; end = pos 0 }

-- the schedule with which a source is created, by what it plays
abbrev pub sched_of : Plays → Schedule
sched_of Value = constant
sched_of (Content rate) = buffer rate no_loop

abbrev pub first_sched : Kind → Option Schedule
first_sched kind = option_map sched_of (row kind).plays

-- what has a schedule is a source
abbrev pub is_source : Kind → Bool
is_source kind = is_some (first_sched kind)

-- a source that was not started, and has no buffer
abbrev pub not_started : ℕ → Schedule → Play
not_started node sched = record { id = record { 0 = node }; sched = sched; buffer = None; was_set = false }

abbrev pub find_play : List Play → ℕ → Option Play
find_play plays node = option_and_then (slice_get plays) (position (λ p. p.id.0 == node) plays)

-- ---- its buffers

-- what of a buffer is asked for, if there is a buffer and it is in the store
abbrev pub of_buffer : {A : Type 0} → (AudioBuffer → A) → A → List AudioBuffer → Option BufId → A
of_buffer part other store buffer = option_map_or part (option_and_then (λ b. slice_get store b.0) buffer) other

-- its number of frames
abbrev pub frames_in : List AudioBuffer → Option BufId → ℕ
frames_in = of_buffer (λ b. b.shape.frames) 0

-- its number of channels
abbrev pub channels_in : List AudioBuffer → Option BufId → ℕ
channels_in = of_buffer (λ b. b.shape.channels) 1

-- the samples of a channel of it
abbrev pub samples_in : List AudioBuffer → Option BufId → ℕ → List ℤ
samples_in store buffer channel = of_buffer (λ b. channel_of b channel) [] store buffer

-- ---- what its sources do

-- whether a source sounds at a frame
abbrev pub sounds_at : World → ℕ → ℕ → Bool
sounds_at w node frame = option_map_or (λ p. plays_at p.sched frame) (find_play w.scheds.items node) false

-- what a source plays of channel c of its buffer at a frame
abbrev pub played_at : World → ℕ → ℕ → ℕ → ℤ
played_at w node c frame = option_map_or (λ p. played p.sched (samples_in w.store p.buffer c) frame) (find_play w.scheds.items node) (pos 0)

-- how many channels it plays in so many frames from the first on: those of its buffer where it sounds in one of them
abbrev pub played_channels : World → ℕ → ℕ → ℕ → ℕ
played_channels w node count first =
    option_map_or (λ p. if plays_in count p.sched first then channels_in w.store p.buffer else 1) (find_play w.scheds.items node) 1
