-- What a control call changes in a world, and why a world refuses it.
use Rattle.std.specs.Prelude.{ℕ, ℤ, ◌≡◌, ◌<◌, ◌≤◌, ◌^◌, ◌==◌, List, [], ◌∷◌, ◌++◌, length, Bool, true, false, if◌then◌else◌, Option, None, Some, option_map, IfSome}
use Rattle.wa_base.specs.Contexts.{quantum_of}
use Rattle.wa_base.specs.declared.exceptions.Exc.{Exc}
use Rattle.wa_base.specs.declared.exceptions.Exc.TheVariants.{NotSupported}
use Rattle.wa_base.specs.declared.features.Feature.TheVariants.{DestinationOutput}
use Rattle.wa_base.specs.declared.graph_names.BufId.{BufId}
use Rattle.wa_base.specs.declared.graph_names.ParamName.{ParamName}
use Rattle.wa_base.specs.declared.graph_names.Rate.TheVariants.{A}
use Rattle.law_base.specs.Members.{IsIn}
use Rattle.node_table.specs.Kinds.{row, is_destination}
use Rattle.node_table.specs.Nodes.{creation_refusal, node_of, with_count, with_mode, with_interp, count_refusal, mode_refusal, interp_refusal, node_with_curve, curve_refusal, changed_at, refusal_at}
use Rattle.node_table.specs.declared.kinds.Kind.{Kind}
use Rattle.node_table.specs.declared.kinds.Kind.TheVariants.{Buffer}
use Rattle.node_table.specs.declared.rows.ParamRow.{ParamRow}
use Rattle.node_table.specs.declared.nodes.Node.{Node}
use Rattle.conn_graph.specs.Edges.{form_node}
use Rattle.conn_graph.specs.Graph.{Connections, with_node, connect_refusal, connected, disconnect_refusal, disconnected}
use Rattle.conn_graph.specs.declared.edges.Target.{Target}
use Rattle.conn_graph.specs.declared.edges.Target.TheVariants.{Input, Param as to_param}
use Rattle.meaning.specs.declared.change.AttributeEdit.{AttributeEdit}
use Rattle.meaning.specs.declared.change.AttributeEdit.TheVariants as attribute
use Rattle.meaning.specs.declared.change.Change.{Change}
use Rattle.meaning.specs.declared.change.Edit.{Edit}
use Rattle.meaning.specs.declared.change.Edit.TheVariants as edit
use Rattle.meaning.specs.declared.world.World.{World}
use Rattle.meaning.specs.declared.params.Param.{Param}
use Rattle.meaning.specs.declared.scheds.Play.{Play}
use Rattle.meaning.specs.Automation.{automated, automation_refusal}
use Rattle.meaning.specs.Lists.{listed}
use Rattle.meaning.specs.Convolvers.{convolver_of, convolver_refusal}
use Rattle.meaning.specs.Plays.{new_source, frozen_in}
use Rattle.meaning.specs.Sources.{with_store, source_edited, buffers_edited, makes_buffer, source_refusal, source_creation_refusal, buffers_refusal, IsBufferOf, IsNamedBy, IsEditOf}
use Rattle.meaning.specs.World.{bare, node_at, param_id, first_sched, find_play, not_started}
use Rattle.meaning.specs.Validity.{ports_of, param_ids, IsValid}
use Rattle.meaning.specs.Worlds.{Stays, HasCapacity}

-- ---- a node is created

-- a parameter at its creation value, without events
abbrev pub new_param : ℕ → ParamName → ℤ → Param
new_param node name value = record { id = param_id node name; line = record { base = value; slot = value; events = [] }; rate = A }

-- the parameter that a kind has, if it has one
abbrev pub new_params : ℕ → Option ParamRow → List Param
new_params node None = []
new_params node (Some param) = new_param node param.name param.value ∷ []

-- the schedule of a new node, if it is a source
abbrev pub new_play : ℕ → Kind → Option Play
new_play node kind = option_map (not_started node) (first_sched kind)

abbrev pub plays_of : Option Play → List Play
plays_of None = []
plays_of (Some play) = play ∷ []

-- a world with one node more, which has the number after the last one
abbrev pub created : World → Kind → Option Play → ℕ → World
created w kind play now = record w {
  nodes = w.nodes ++ node_of kind now ∷ [];
  graph = bare (with_node w.graph.value (ports_of (node_of kind now)));
  params = listed (w.params.items ++ new_params (length w.nodes) (row kind).param);
  scheds = listed (w.scheds.items ++ plays_of play);
}

-- a world with a convolver more, which acquires the buffer of its response
abbrev pub convolver_created : World → Option BufId → ℕ → World
convolver_created w buffer now = with_store (created w (convolver_of w.store buffer) None now) (frozen_in w.store buffer)

-- ---- connections and attributes

abbrev pub with_graph : World → Connections → World
with_graph w graph = record w { graph = bare graph }

abbrev pub with_nodes : World → List Node → World
with_nodes w nodes = record w { nodes = nodes }

-- a node with an attribute set
abbrev pub attribute_set : AttributeEdit → Node → Node
attribute_set (attribute.Count count) node = with_count count node
attribute_set (attribute.Mode mode) node = with_mode mode node
attribute_set (attribute.Interp interp) node = with_interp interp node

-- ---- what an edit makes of a world at a time

abbrev pub edited : World → ℕ → Edit → World
edited w now (edit.Create kind) = created w kind (new_play (length w.nodes) kind) now
edited w now (edit.CreateBufferSource rate buffer points) = created w (Buffer rate) (Some (new_source (length w.nodes) rate buffer points)) now
edited w now (edit.CreateConvolver buffer) = convolver_created w buffer now
edited w now (edit.Connect edge) = with_graph w (connected w.graph.value edge)
edited w now (edit.Disconnect from form) = with_graph w (disconnected w.graph.value from.0 form)
edited w now (edit.Source node e) = source_edited w now node.0 e
edited w now (edit.Param id e) = automated w now id e
edited w now (edit.Attribute node e) = with_nodes w (changed_at node.0 (attribute_set e) w.nodes)
edited w now (edit.SetCurve node curve) = with_nodes w (changed_at node.0 (node_with_curve curve) w.nodes)
edited w now (edit.Buffers e) = with_store w (buffers_edited w.store e)

-- whether an edit creates a node or a buffer
abbrev pub creates : Edit → Bool
creates (edit.Create kind) = true
creates (edit.CreateBufferSource rate buffer points) = true
creates (edit.CreateConvolver buffer) = true
creates (edit.Connect edge) = false
creates (edit.Disconnect from form) = false
creates (edit.Source node e) = false
creates (edit.Param id e) = false
creates (edit.Attribute node e) = false
creates (edit.SetCurve node curve) = false
creates (edit.Buffers e) = makes_buffer e

abbrev pub changed : World → Change → World
changed w change = edited w change.time change.edit

-- ---- why it is refused

-- no connection leaves the destination
abbrev pub output_refusal : ℕ → Option Exc → Option Exc
output_refusal from others = if from == 0 then Some (NotSupported (Some DestinationOutput)) else others

-- why an attribute is not set
abbrev pub attribute_refusal : AttributeEdit → Node → Option Exc
attribute_refusal (attribute.Count count) = count_refusal count
attribute_refusal (attribute.Mode mode) = mode_refusal mode
attribute_refusal (attribute.Interp interp) = interp_refusal interp

-- why an edit is refused at a time
abbrev pub refusal : World → ℕ → Edit → Option Exc
refusal w now (edit.Create kind) = creation_refusal w.nodes kind
refusal w now (edit.CreateBufferSource rate buffer points) = source_creation_refusal w rate buffer
refusal w now (edit.CreateConvolver buffer) = convolver_refusal w buffer
refusal w now (edit.Connect edge) = output_refusal edge.from.0 (connect_refusal w.graph.value edge)
refusal w now (edit.Disconnect from form) = output_refusal from.0 (disconnect_refusal w.graph.value from.0 form)
refusal w now (edit.Source node e) = source_refusal w e (find_play w.scheds.items node.0)
refusal w now (edit.Param id e) = automation_refusal w now id e
refusal w now (edit.Attribute node e) = refusal_at w.nodes node.0 (attribute_refusal e)
refusal w now (edit.SetCurve node curve) = refusal_at w.nodes node.0 (curve_refusal curve)
refusal w now (edit.Buffers e) = buffers_refusal w.store e

-- ---- what a world accepts

-- a target is there: an input's node, and a parameter
abbrev pub IsTarget : World → Target → Type 0
IsTarget w (Input node input) = node.0 < length w.nodes
IsTarget w (to_param id) = IsIn id (param_ids w)

-- what an edit names is there, and a node that it creates is no destination
abbrev pub IsNamed : World → Edit → Type 0
IsNamed w (edit.Create kind) = (is_destination kind ≡ false) × HasCapacity (quantum_of w.spec) w.spec kind
IsNamed w (edit.CreateBufferSource rate buffer points) = IsBufferOf w.store buffer
IsNamed w (edit.CreateConvolver buffer) = IsBufferOf w.store buffer
IsNamed w (edit.Connect edge) = (edge.from.0 < length w.nodes) × IsTarget w edge.to
IsNamed w (edit.Disconnect from form) = (from.0 < length w.nodes) × IfSome (form_node form) (λ node. node < length w.nodes)
IsNamed w (edit.Source node e) = IsNamedBy w.store e
IsNamed w (edit.Param id e) = IsIn id (param_ids w)
IsNamed w (edit.Attribute node e) = node.0 < length w.nodes
IsNamed w (edit.SetCurve node curve) = node.0 < length w.nodes
IsNamed w (edit.Buffers e) = IsEditOf w.store e

-- A world accepts a change that names what is there and is not refused.
pub record Accepts (w : World) (change : Change) : Type 0 where
  pub time : change.time ≤ 2 ^ 62
  pub named : IsNamed w change.edit
  pub accepted : refusal w change.time change.edit ≡ None

-- ---- what a change leaves

-- A world of the same context, valid if the old one was, in which the nodes that were there stay, and the others were born now and keep as many frames as they have to. No buffer goes.
pub record Grows (now : ℕ) (old new : World) : Type 0 where
  pub valid : IsValid old → IsValid new
  pub spec : new.spec ≡ old.spec
  pub buffers : length old.store ≤ length new.store
  pub stays : (i : ℕ) → i < length old.nodes → Stays i old new
  pub born : (i : ℕ) → length old.nodes ≤ i → i < length new.nodes → (node_at new i).attrs.birth ≡ now
  pub capacity : (i : ℕ) → length old.nodes ≤ i → HasCapacity (quantum_of new.spec) new.spec (node_at new i).kind

-- A valid world grows by each change that it accepts.
abbrev pub ChangeLaw : Type 0
ChangeLaw = (w : World) (change : Change) → IsValid w → Accepts w change → Grows change.time w (changed w change)
