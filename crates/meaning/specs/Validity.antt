-- What holds of every world of a session.
use Rattle.std.specs.Prelude.{ℕ, ◌≡◌, ◌↔◌, ◌<◌, ◌≤◌, List, length, map, Option, None, Some, IsSome, IfSome, true}
use Rattle.std.specs.List.Sorted.{IsStrictlyIncreasing}
use Rattle.wa_base.specs.Contexts.{IsSupported}
use Rattle.wa_base.specs.declared.contexts.ContextSpec.{ContextSpec}
use Rattle.wa_base.specs.declared.graph_names.ParamId.{ParamId}
use Rattle.wa_base.specs.declared.graph_names.ParamName.{ParamName}
use Rattle.wa_base.specs.declared.graph_names.Mode.TheVariants.{Explicit}
use Rattle.law_base.specs.Members.{IsIn}
use Rattle.param_events.specs.Timeline.{IsTimeline}
use Rattle.sched_source.specs.declared.content.Content.{Content}
use Rattle.buffer_store.specs.declared.buffers.Buffer.{Buffer as AudioBuffer}
use Rattle.buffer_store.specs.Buffers.{AreBuffers}
use Rattle.node_table.specs.Kinds.{row, inputs, outputs, is_delay_kind, param_name}
use Rattle.node_table.specs.Nodes.{capacities, IsCreated}
use Rattle.node_table.specs.declared.kinds.Kind.{Kind}
use Rattle.node_table.specs.declared.kinds.Kind.TheVariants.{Destination}
use Rattle.node_table.specs.declared.rows.Plays.{Plays}
use Rattle.node_table.specs.declared.rows.Plays.TheVariants as plays
use Rattle.node_table.specs.declared.nodes.Node.{Node}
use Rattle.conn_graph.specs.declared.edges.Edge.{Edge}
use Rattle.conn_graph.specs.declared.edges.Ports.{Ports}
use Rattle.conn_graph.specs.declared.edges.Target.TheVariants.{Param as to_param}
use Rattle.conn_graph.specs.Graph.{HasPlace, IsGraph}
use Rattle.conn_graph.specs.Ends.{is_delay}
use Rattle.meaning.specs.declared.world.World.{World}
use Rattle.meaning.specs.declared.params.Param.{Param}
use Rattle.meaning.specs.declared.scheds.Play.{Play}
use Rattle.meaning.specs.World.{node_at, kind_of, is_source, param_id, frames_in}

-- node 0 is the destination, whose channelCount and mode are fixed
pub record IsDestination (spec : ContextSpec) (node : Node) : Type 0 where
  pub kind : node.kind ≡ Destination
  pub count : node.attrs.count ≡ spec.channels
  pub mode : node.attrs.mode ≡ Explicit

-- and no other node is one
pub record HasNodes (w : World) : Type 0 where
  pub some : 1 ≤ length w.nodes
  pub few : length w.nodes ≤ 1024
  pub kept : capacities w.nodes ≤ 4194304
  pub first : IsDestination w.spec (node_at w 0)
  pub others : (i : ℕ) → 0 < i → i < length w.nodes → IsCreated (node_at w i)

abbrev pub ports_of : Node → Ports
ports_of node = record { inputs = inputs node.kind; outputs = outputs node.kind; is_delay = is_delay_kind node.kind }

abbrev pub param_ids : World → List ParamId
param_ids w = map (λ (p : Param). p.id) w.params.items

abbrev pub param_nodes : World → List ℕ
param_nodes w = map (λ (p : Param). p.id.node.0) w.params.items

-- Each parameter that a node's kind has stands in the list, and nothing else. They stand in order of their nodes, of which each has one at most. What a connection leads to stands there.
pub record HasParams (w : World) : Type 0 where
  pub each : (i : ℕ) (name : ParamName) → i < length w.nodes → IsIn (param_id i name) (param_ids w) ↔ (param_name (kind_of w i) ≡ Some name)
  pub there : (id : ParamId) → IsIn id (param_ids w) → id.node.0 < length w.nodes
  pub order : IsStrictlyIncreasing (param_nodes w)
  pub lines : (p : Param) → IsIn p w.params.items → IsTimeline p.line.events
  pub targets : (e : Edge) (id : ParamId) → IsIn e w.graph.value.edges → e.to ≡ to_param id → IsIn id (param_ids w)

abbrev pub play_nodes : World → List ℕ
play_nodes w = map (λ (p : Play). p.id.0) w.scheds.items

-- a constant source has no buffer
pub record IsConstantPlay (play : Play) : Type 0 where
  pub content : play.sched.content ≡ None
  pub buffer : play.buffer ≡ None

-- a buffer source has a buffer of the store or none, and once it is started it plays so many frames
pub record IsBufferPlay (store : List AudioBuffer) (rate : ℕ) (play : Play) : Type 0 where
  pub content : Content
  pub plays : play.sched.content ≡ Some content
  pub rate_of : content.rate ≡ rate
  pub there : IfSome play.buffer (λ b. b.0 < length store)
  pub length_of : IsSome play.sched.start → content.length ≡ frames_in store play.buffer

-- a schedule is one of what a node plays, if it plays anything
abbrev pub IsPlay : List AudioBuffer → Option Plays → Play → Type 0
IsPlay store None play = ⊥
IsPlay store (Some plays.Value) play = IsConstantPlay play
IsPlay store (Some (plays.Content rate)) play = IsBufferPlay store rate play

abbrev pub IsPlayOf : List AudioBuffer → Kind → Play → Type 0
IsPlayOf store kind play = IsPlay store (row kind).plays play

-- Each source has a schedule of its kind, and no other node has one. They stand in order of their nodes.
pub record HasScheds (w : World) : Type 0 where
  pub each : (i : ℕ) → IsIn i (play_nodes w) ↔ (i < length w.nodes) × (is_source (kind_of w i) ≡ true)
  pub order : IsStrictlyIncreasing (play_nodes w)
  pub kinds : (p : Play) → IsIn p w.scheds.items → IsPlayOf w.store (kind_of w p.id.0) p

pub record IsValid (w : World) : Type 0 where
  pub spec : IsSupported w.spec
  pub nodes : HasNodes w
  pub graph : IsGraph w.graph.value
  pub ports : w.graph.value.nodes ≡ map ports_of w.nodes
  pub params : HasParams w
  pub scheds : HasScheds w
  pub store : AreBuffers w.store

-- What the laws use of it: each connection has its place, and the delays are those of the graph.
pub record IsJoined (w : World) : Type 0 where
  pub places : (e : Edge) → IsIn e w.graph.value.edges → HasPlace w.graph.value e
  pub delays : (i : ℕ) → is_delay w.graph.value i ≡ is_delay_kind (kind_of w i)
