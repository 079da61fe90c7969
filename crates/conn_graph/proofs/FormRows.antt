-- What each form of disconnect leaves of one graph, and when it is refused, as the definitions compute it.
use Rattle.std.proofs.Common.{ℕ, ◌≡◌, List, [], ◌∷◌, None, Some, map, false, refl}
use Rattle.wa_base.specs.declared.exceptions.Exc.TheVariants.{IndexSize, InvalidAccess}
use Rattle.wa_base.specs.declared.graph_names.NodeId.{NodeId}
use Rattle.wa_base.specs.declared.graph_names.ParamId.{ParamId}
use Rattle.wa_base.specs.declared.graph_names.ParamName.{ParamName}
use Rattle.wa_base.specs.declared.graph_names.ParamName.TheVariants.{Gain, DelayTime}
use Rattle.conn_graph.specs.declared.edges.Edge.{Edge}
use Rattle.conn_graph.specs.declared.edges.Form.{Form}
use Rattle.conn_graph.specs.declared.edges.Form.TheVariants as form
use Rattle.conn_graph.specs.declared.edges.Ports.{Ports}
use Rattle.conn_graph.specs.declared.edges.Target.TheVariants.{Input, Param}
use Rattle.conn_graph.specs.Graph.{Connections, connected, connect_refusal, disconnected, disconnect_refusal}

abbrev node : ℕ → NodeId
node n = record { 0 = n }

abbrev parameter : ParamName → ParamId
parameter name = record { node = node 2; name = name }

abbrev to_input : ℕ → ℕ → ℕ → ℕ → Edge
to_input from output to input = record { from = node from; output = output; to = Input (node to) input }

abbrev to_param : ℕ → ℕ → ParamName → Edge
to_param from output name = record { from = node from; output = output; to = Param (parameter name) }

-- Four nodes with two inputs and two outputs each. Connections from node 1 to both inputs of node 2, to the destination and to two parameters of node 2, and one from node 3.
abbrev first : Edge
first = to_input 1 0 2 0

abbrev to_second_input : Edge
to_second_input = to_input 1 0 2 1

abbrev from_second_output : Edge
from_second_output = to_input 1 1 2 0

abbrev to_destination : Edge
to_destination = to_input 1 1 0 0

abbrev to_gain : Edge
to_gain = to_param 1 0 Gain

abbrev to_gain_too : Edge
to_gain_too = to_param 1 1 Gain

abbrev to_time : Edge
to_time = to_param 1 1 DelayTime

abbrev from_another : Edge
from_another = to_input 3 0 2 0

abbrev two_by_two : Ports
two_by_two = record { inputs = 2; outputs = 2; is_delay = false }

abbrev graph : Connections
graph = record {
  nodes = two_by_two ∷ two_by_two ∷ two_by_two ∷ two_by_two ∷ [];
  edges =
      first ∷ to_second_input ∷ from_second_output ∷ to_destination ∷ to_gain ∷ to_gain_too ∷ to_time ∷ from_another
      ∷ [];
}

abbrev left : Form → List Edge
left f = (disconnected graph 1 f).edges

-- parameters are among what the first two forms mean, and not among what the next three do
left-all : left form.All ≡ from_another ∷ []
left-all = refl

left-output : left (form.Output 1) ≡ first ∷ to_second_input ∷ to_gain ∷ from_another ∷ []
left-output = refl

left-node : left (form.Node (node 2)) ≡ to_destination ∷ to_gain ∷ to_gain_too ∷ to_time ∷ from_another ∷ []
left-node = refl

left-node_output : left (form.NodeOutput (node 2) 0)
    ≡ from_second_output ∷ to_destination ∷ to_gain ∷ to_gain_too ∷ to_time ∷ from_another ∷ []
left-node_output = refl

left-node_output_input : left (form.NodeOutputInput (node 2) 0 1)
    ≡ first ∷ from_second_output ∷ to_destination ∷ to_gain ∷ to_gain_too ∷ to_time ∷ from_another ∷ []
left-node_output_input = refl

left-param : left (form.Param (parameter Gain)) ≡ first ∷ to_second_input ∷ from_second_output ∷ to_destination ∷ to_time ∷ from_another ∷ []
left-param = refl

left-param_output : left (form.ParamOutput (parameter Gain) 1)
    ≡ first ∷ to_second_input ∷ from_second_output ∷ to_destination ∷ to_gain ∷ to_time ∷ from_another ∷ []
left-param_output = refl

-- ports that are missing come first; a form that names a target is refused where no connection is its, and the others are not
disconnect_refusals : map (disconnect_refusal graph 2) (
    form.All ∷ form.Output 1 ∷ form.Output 2 ∷ form.Node (node 2) ∷ form.NodeOutput (node 2) 2 ∷ form.NodeOutput (node 2) 1
    ∷ form.NodeOutputInput (node 2) 0 2 ∷ form.NodeOutputInput (node 2) 0 1 ∷ form.Param (parameter Gain) ∷ form.ParamOutput (parameter Gain) 2
    ∷ form.ParamOutput (parameter Gain) 0 ∷ [])
    ≡ None ∷ None ∷ Some IndexSize ∷ Some InvalidAccess ∷ Some IndexSize ∷ Some InvalidAccess
    ∷ Some IndexSize ∷ Some InvalidAccess ∷ Some InvalidAccess ∷ Some IndexSize
    ∷ Some InvalidAccess ∷ []
disconnect_refusals = refl

connect_refusals : map (connect_refusal graph) (
    first ∷ to_input 2 1 3 1 ∷ to_input 2 2 3 1 ∷ to_input 2 1 3 2 ∷ to_param 3 1 Gain ∷ to_param 3 2 Gain ∷ [])
    ≡ None ∷ None ∷ Some IndexSize ∷ Some IndexSize ∷ None ∷ Some IndexSize ∷ []
connect_refusals = refl

-- a new connection stands behind the others of its source, and one that is there already changes nothing
connected-new : (connected (record graph { edges = first ∷ from_another ∷ [] }) to_destination).edges ≡ first ∷ to_destination ∷ from_another ∷ []
connected-new = refl

connected-again : (connected graph to_gain).edges ≡ graph.edges
connected-again = refl
