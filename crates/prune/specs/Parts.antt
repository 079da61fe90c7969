-- Worlds and tapes that are parts of others: some nodes are left out, and the others are numbered anew.
use Rattle.std.specs.Prelude.{ℕ, ◌≡◌, ◌<◌, ◌↔◌, ◌==◌, ◌&&◌, List, length, map, filter, slice_get, Bool, true, false, Option, option_map, option_and_then}
use Rattle.std.specs.List.{list_any, range_with_len}
use Rattle.wa_base.specs.declared.graph_names.End.{End}
use Rattle.wa_base.specs.declared.graph_names.ParamId.{ParamId}
use Rattle.wa_base.specs.declared.graph_names.ParamName.{ParamName}
use Rattle.law_base.specs.Members.{IsIn}
use Rattle.sched_source.specs.Schedule.{Schedule}
use Rattle.buffer_store.specs.declared.buffers.Buffer.{Buffer as AudioBuffer}
use Rattle.conn_graph.specs.declared.edges.Edge.{Edge}
use Rattle.conn_graph.specs.declared.edges.Target.{Target}
use Rattle.conn_graph.specs.declared.edges.Target.TheVariants.{Input, Param}
use Rattle.conn_graph.specs.Edges.{target_node}
use Rattle.meaning.specs.declared.world.World.{World}
use Rattle.meaning.specs.declared.scheds.Play.{Play}
use Rattle.meaning.specs.World.{node_at, param_id, find_param, find_play}
use Rattle.meaning.specs.Counts.{world_in}

-- ---- nodes, ends and connections numbered as in the whole

-- Node i of the part is node r i of the whole.
abbrev pub Numbering : Type 0
Numbering = ℕ → ℕ

abbrev pub whole_end : Numbering → End → End
whole_end r e = record { node = record { 0 = r e.node.0 }; writer = e.writer }

abbrev pub whole_param : Numbering → ParamId → ParamId
whole_param r id = param_id (r id.node.0) id.name

abbrev pub whole_target : Numbering → Target → Target
whole_target r (Input node input) = Input (record { 0 = r node.0 }) input
whole_target r (Param param) = Param (whole_param r param)

abbrev pub whole_edge : Numbering → Edge → Edge
whole_edge r e = record { from = record { 0 = r e.from.0 }; output = e.output; to = whole_target r e.to }

-- ---- what is kept

-- whether a node of the whole is one of the part, which has so many nodes
abbrev pub is_kept : Numbering → ℕ → ℕ → Bool
is_kept r nodes n = list_any (λ i. r i == n) (range_with_len 0 nodes)

-- whether both nodes of a connection are
abbrev pub is_kept_edge : Numbering → ℕ → Edge → Bool
is_kept_edge r nodes e = is_kept r nodes e.from.0 && is_kept r nodes (target_node e.to)

-- ---- what a source plays

-- Of a source that is not heard: whether its event `ended` was fired, and whether its buffer can still be written.
abbrev pub unfired : Schedule → Schedule
unfired sched = record sched { ended = false }

abbrev pub thawed : AudioBuffer → AudioBuffer
thawed buffer = record buffer { shape = record buffer.shape { frozen = false } }

-- the schedule of a source, and its buffer, if it has one
pub record Performance : Type 0 where
  pub sched : Schedule
  pub buffer : Option AudioBuffer

abbrev pub performance_of : List AudioBuffer → Play → Performance
performance_of store play = record { sched = unfired play.sched; buffer = option_map thawed (option_and_then (λ b. slice_get store b.0) play.buffer) }

-- what a node plays, if it is a source
abbrev pub performance : World → ℕ → Option Performance
performance w n = option_map (performance_of w.store) (find_play w.scheds.items n)

-- ---- parts

-- A world is a part of another one that has all of its nodes, as they are, and more. What is connected to a node of the part, or to a parameter of one, is itself a node of the part.
pub record IsPartOf (r : Numbering) (part whole : World) : Type 0 where
  pub spec : part.spec ≡ whole.spec
  -- each node is there where its counterpart is, and is of the same kind, with the same attributes and birth
  pub there : (i : ℕ) → i < length part.nodes ↔ r i < length whole.nodes
  pub nodes : (i : ℕ) → i < length part.nodes → node_at part i ≡ node_at whole (r i)
  -- no connection comes in from a node that is left out
  pub closed : (e : Edge) → IsIn e whole.graph.value.edges → is_kept r (length part.nodes) (target_node e.to) ≡ true → is_kept r (length part.nodes) e.from.0 ≡ true
  -- the connections between kept nodes are those of the part, in the same order
  pub edges : map (whole_edge r) part.graph.value.edges ≡ filter (is_kept_edge r (length part.nodes)) whole.graph.value.edges
  -- each parameter has the same timeline and the same rate
  pub lines : (i : ℕ) (name : ParamName) → i < length part.nodes
      → option_map (λ p. p.line) (find_param part.params.items (param_id i name)) ≡ option_map (λ p. p.line) (find_param whole.params.items (param_id (r i) name))
  pub rates : (i : ℕ) (name : ParamName) → i < length part.nodes
      → option_map (λ p. p.rate) (find_param part.params.items (param_id i name)) ≡ option_map (λ p. p.rate) (find_param whole.params.items (param_id (r i) name))
  -- each source plays the same
  pub plays : (i : ℕ) → i < length part.nodes → performance part i ≡ performance whole (r i)

-- Tapes of equally many worlds, each a part of its counterpart along one numbering, in which a later node stays a later one.
pub record ArePartsOf (r : Numbering) (part whole : List World) : Type 0 where
  pub rising : (i k : ℕ) → i < k → r i < r k
  pub quanta : length part ≡ length whole
  pub worlds : (j : ℕ) → j < length part → IsPartOf r (world_in part j) (world_in whole j)
