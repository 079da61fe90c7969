-- A world without some of its nodes, and what is done to both.
use Rattle.std.proofs.Common.{ℕ, ◌≡◌, Bool, true, false, List, map, filter, Option, Some, None, IfSome, ◌⊎◌}
use Rattle.std.specs.Prelude.{◌&&◌, length}
use Rattle.std.specs.List.{AllZip}
use Rattle.wa_base.specs.declared.graph_names.NodeId.{NodeId}
use Rattle.wa_base.specs.declared.graph_names.ParamId.{ParamId}
use Rattle.law_base.specs.Members.{IsIn}
use Rattle.buffer_store.specs.declared.buffers.Buffer.{Buffer as AudioBuffer}
use Rattle.conn_graph.specs.declared.edges.Edge.{Edge}
use Rattle.conn_graph.specs.declared.edges.Form.{Form}
use Rattle.conn_graph.specs.declared.edges.Form.TheVariants as form
use Rattle.conn_graph.specs.declared.edges.Target.{Target}
use Rattle.conn_graph.specs.declared.edges.Target.TheVariants.{Input, Param as to_param}
use Rattle.conn_graph.specs.Edges.{target_node, form_node}
use Rattle.conn_graph.specs.Graph.{Connections}
use Rattle.meaning.specs.declared.change.Edit.{Edit}
use Rattle.meaning.specs.declared.change.Edit.TheVariants as edit
use Rattle.meaning.specs.declared.world.World.{World}
use Rattle.meaning.specs.declared.params.Param.{Param}
use Rattle.meaning.specs.declared.scheds.Play.{Play}
use Rattle.meaning.specs.Lists.{listed}
use Rattle.meaning.specs.World.{bare, param_id}
use Rattle.prune.specs.Parts.{thawed}
use Rattle.prune.proofs.Flags.{Flags, is_kept, part_number}
use Rattle.prune.proofs.Filtered.{kept_of}

-- ---- nodes, parameters and connections by their numbers in the part

abbrev pub part_node : Flags → NodeId → NodeId
part_node fs node = record { 0 = part_number fs node.0 }

abbrev pub part_param : Flags → ParamId → ParamId
part_param fs id = param_id (part_number fs id.node.0) id.name

abbrev pub part_target : Flags → Target → Target
part_target fs (Input node input) = Input (part_node fs node) input
part_target fs (to_param id) = to_param (part_param fs id)

abbrev pub part_edge : Flags → Edge → Edge
part_edge fs e = record { from = part_node fs e.from; output = e.output; to = part_target fs e.to }

abbrev pub part_form : Flags → Form → Form
part_form fs form.All = form.All
part_form fs (form.Output output) = form.Output output
part_form fs (form.Node node) = form.Node (part_node fs node)
part_form fs (form.NodeOutput node output) = form.NodeOutput (part_node fs node) output
part_form fs (form.NodeOutputInput node output input) = form.NodeOutputInput (part_node fs node) output input
part_form fs (form.Param id) = form.Param (part_param fs id)
part_form fs (form.ParamOutput id output) = form.ParamOutput (part_param fs id) output

-- a parameter, and a schedule, of a node by its number in the part
abbrev pub renumbered_param : Flags → Param → Param
renumbered_param fs p = record p { id = part_param fs p.id }

abbrev pub renumbered_play : Flags → Play → Play
renumbered_play fs p = record p { id = part_node fs p.id }

-- an edit that names the nodes by their numbers in the part; buffers keep their numbers
abbrev pub part_edit : Flags → Edit → Edit
part_edit fs (edit.Create kind) = edit.Create kind
part_edit fs (edit.CreateBufferSource rate buffer points) = edit.CreateBufferSource rate buffer points
part_edit fs (edit.CreateConvolver buffer) = edit.CreateConvolver buffer
part_edit fs (edit.Connect edge) = edit.Connect (part_edge fs edge)
part_edit fs (edit.Disconnect from form) = edit.Disconnect (part_node fs from) (part_form fs form)
part_edit fs (edit.Source node e) = edit.Source (part_node fs node) e
part_edit fs (edit.Param id e) = edit.Param (part_param fs id) e
part_edit fs (edit.Attribute node e) = edit.Attribute (part_node fs node) e
part_edit fs (edit.SetCurve node curve) = edit.SetCurve (part_node fs node) curve
part_edit fs (edit.Buffers e) = edit.Buffers e

-- ---- what is left

abbrev pub is_kept_edge : Flags → Edge → Bool
is_kept_edge fs e = is_kept fs e.from.0 && is_kept fs (target_node e.to)

abbrev pub is_kept_param : Flags → Param → Bool
is_kept_param fs p = is_kept fs p.id.node.0

abbrev pub is_kept_play : Flags → Play → Bool
is_kept_play fs p = is_kept fs p.id.0

abbrev pub edges_without : Flags → List Edge → List Edge
edges_without fs edges = map (part_edge fs) (filter (is_kept_edge fs) edges)

abbrev pub connections_without : Flags → Connections → Connections
connections_without fs g = record { nodes = kept_of fs g.nodes; edges = edges_without fs g.edges }

abbrev pub params_without : Flags → List Param → List Param
params_without fs params = map (renumbered_param fs) (filter (is_kept_param fs) params)

abbrev pub plays_without : Flags → List Play → List Play
plays_without fs plays = map (renumbered_play fs) (filter (is_kept_play fs) plays)

-- a world of the kept nodes alone, with all its buffers
abbrev pub world_without : Flags → World → World
world_without fs w = record {
  spec = w.spec;
  nodes = kept_of fs w.nodes;
  graph = bare (connections_without fs w.graph.value);
  params = listed (params_without fs w.params.items);
  scheds = listed (plays_without fs w.scheds.items);
  store = w.store;
}

-- ---- a world, and the one without the nodes that are not kept

-- a buffer is the same as another one, which is frozen where it is, and maybe where it is not
pub record IsLessFrozen (a b : AudioBuffer) : Type 0 where
  pub same : thawed a ≡ thawed b
  pub frozen : a.shape.frozen ≡ true → b.shape.frozen ≡ true

-- The part has the kept nodes, as they are in the whole, with what is theirs. The destination is one of them, and what is connected to one of them is one too.
pub record IsWithout (fs : Flags) (part whole : World) : Type 0 where
  pub first : is_kept fs 0 ≡ true
  pub spec : part.spec ≡ whole.spec
  pub nodes : part.nodes ≡ kept_of fs whole.nodes
  pub graph : part.graph ≡ bare (connections_without fs whole.graph.value)
  pub params : part.params ≡ listed (params_without fs whole.params.items)
  pub scheds : part.scheds ≡ listed (plays_without fs whole.scheds.items)
  pub store : AllZip IsLessFrozen part.store whole.store
  pub closed : (e : Edge) → IsIn e whole.graph.value.edges → is_kept fs (target_node e.to) ≡ true → is_kept fs e.from.0 ≡ true

-- ---- edits that are heard, and those that are not

-- each node that an edit names is kept, and so is one that it creates
abbrev pub IsHeardEdit : Flags → World → Edit → Type 0
IsHeardEdit fs w (edit.Create kind) = is_kept fs (length w.nodes) ≡ true
IsHeardEdit fs w (edit.CreateBufferSource rate buffer points) = is_kept fs (length w.nodes) ≡ true
IsHeardEdit fs w (edit.CreateConvolver buffer) = is_kept fs (length w.nodes) ≡ true
IsHeardEdit fs w (edit.Connect edge) = (is_kept fs edge.from.0 ≡ true) × (is_kept fs (target_node edge.to) ≡ true)
IsHeardEdit fs w (edit.Disconnect from form) = (is_kept fs from.0 ≡ true) × IfSome (form_node form) (λ node. is_kept fs node ≡ true)
IsHeardEdit fs w (edit.Source node e) = is_kept fs node.0 ≡ true
IsHeardEdit fs w (edit.Param id e) = is_kept fs id.node.0 ≡ true
IsHeardEdit fs w (edit.Attribute node e) = is_kept fs node.0 ≡ true
IsHeardEdit fs w (edit.SetCurve node curve) = is_kept fs node.0 ≡ true
IsHeardEdit fs w (edit.Buffers e) = Unit {0}

-- there is a node, and it is not kept
abbrev pub IsLeftOut : Flags → Option ℕ → Type 0
IsLeftOut fs None = ⊥
IsLeftOut fs (Some node) = is_kept fs node ≡ false

-- An edit names a node that is not kept, or creates one. A connection that is not heard has a target that is not kept, since what is connected to a kept node is kept. Edits of buffers are never unheard.
abbrev pub IsUnheardEdit : Flags → World → Edit → Type 0
IsUnheardEdit fs w (edit.Create kind) = is_kept fs (length w.nodes) ≡ false
IsUnheardEdit fs w (edit.CreateBufferSource rate buffer points) = is_kept fs (length w.nodes) ≡ false
IsUnheardEdit fs w (edit.CreateConvolver buffer) = is_kept fs (length w.nodes) ≡ false
IsUnheardEdit fs w (edit.Connect edge) = is_kept fs (target_node edge.to) ≡ false
IsUnheardEdit fs w (edit.Disconnect from form) = (is_kept fs from.0 ≡ false) ⊎ IsLeftOut fs (form_node form)
IsUnheardEdit fs w (edit.Source node e) = is_kept fs node.0 ≡ false
IsUnheardEdit fs w (edit.Param id e) = is_kept fs id.node.0 ≡ false
IsUnheardEdit fs w (edit.Attribute node e) = is_kept fs node.0 ≡ false
IsUnheardEdit fs w (edit.SetCurve node curve) = is_kept fs node.0 ≡ false
IsUnheardEdit fs w (edit.Buffers e) = ⊥
