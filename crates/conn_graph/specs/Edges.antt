-- Connections, and which of them a form of disconnect names.
use Rattle.std.specs.Prelude.{ℕ, Bool, true, false, ◌&&◌, ◌==◌, Option, None, Some}
use Rattle.wa_base.specs.declared.graph_names.ParamId.{ParamId}
use Rattle.wa_base.specs.declared.graph_names.ParamName.{ParamName}
use Rattle.wa_base.specs.declared.graph_names.ParamName.TheVariants.{Offset, Gain, DelayTime, PlaybackRate, Detune}
use Rattle.conn_graph.specs.declared.edges.Edge.{Edge}
use Rattle.conn_graph.specs.declared.edges.Target.{Target}
use Rattle.conn_graph.specs.declared.edges.Target.TheVariants.{Input, Param}
use Rattle.conn_graph.specs.declared.edges.Form.{Form}
use Rattle.conn_graph.specs.declared.edges.Form.TheVariants as form

abbrev pub same_name : ParamName → ParamName → Bool
same_name Offset Offset = true
same_name Gain Gain = true
same_name DelayTime DelayTime = true
same_name PlaybackRate PlaybackRate = true
same_name Detune Detune = true
same_name _ _ = false

abbrev pub same_param : ParamId → ParamId → Bool
same_param a b = a.node.0 == b.node.0 && same_name a.name b.name

-- the node that a target belongs to
abbrev pub target_node : Target → ℕ
target_node (Input node input) = node.0
target_node (Param param) = param.node.0

-- whether a target is this input of this node, any input of the node, this parameter
abbrev pub is_input : ℕ → ℕ → Target → Bool
is_input n i (Input node input) = node.0 == n && input == i
is_input n i (Param param) = false

abbrev pub is_an_input_of : ℕ → Target → Bool
is_an_input_of n (Input node input) = node.0 == n
is_an_input_of n (Param param) = false

abbrev pub is_param : ParamId → Target → Bool
is_param p (Input node input) = false
is_param p (Param param) = same_param param p

abbrev pub same_target : Target → Target → Bool
same_target (Input node input) target = is_input node.0 input target
same_target (Param param) target = is_param param target

-- two connections are identical where all four parts agree
abbrev pub same_edge : Edge → Edge → Bool
same_edge a b = a.from.0 == b.from.0 && a.output == b.output && same_target a.to b.to

-- the connections of a node that a form of disconnect means
abbrev pub is_meant : Form → Edge → Bool
is_meant form.All e = true
is_meant (form.Output output) e = e.output == output
is_meant (form.Node node) e = is_an_input_of node.0 e.to
is_meant (form.NodeOutput node output) e = e.output == output && is_an_input_of node.0 e.to
is_meant (form.NodeOutputInput node output input) e = e.output == output && is_input node.0 input e.to
is_meant (form.Param param) e = is_param param e.to
is_meant (form.ParamOutput param output) e = e.output == output && is_param param e.to

-- whether a disconnect from a node names the connection
abbrev pub is_named : ℕ → Form → Edge → Bool
is_named from f e = e.from.0 == from && is_meant f e

-- the node, the output and the input that a form speaks of
abbrev pub form_node : Form → Option ℕ
form_node form.All = None
form_node (form.Output output) = None
form_node (form.Node node) = Some node.0
form_node (form.NodeOutput node output) = Some node.0
form_node (form.NodeOutputInput node output input) = Some node.0
form_node (form.Param param) = Some param.node.0
form_node (form.ParamOutput param output) = Some param.node.0

abbrev pub form_output : Form → Option ℕ
form_output form.All = None
form_output (form.Output output) = Some output
form_output (form.Node node) = None
form_output (form.NodeOutput node output) = Some output
form_output (form.NodeOutputInput node output input) = Some output
form_output (form.Param param) = None
form_output (form.ParamOutput param output) = Some output

-- with the node that has the input
abbrev pub form_input : Form → Option (ℕ × ℕ)
form_input (form.NodeOutputInput node output input) = Some (node.0, input)
form_input _ = None

-- the forms that name a target are refused where no connection is theirs
abbrev pub names_a_target : Form → Bool
names_a_target form.All = false
names_a_target (form.Output output) = false
names_a_target _ = true
