-- Small graphs whose cycles and muted ends antt computes.
use Rattle.std.proofs.Common.{ℕ, ◌≡◌, List, [], ◌∷◌, true, false, refl}
use Rattle.std.specs.List.{filter}
use Rattle.wa_base.specs.declared.graph_names.End.{End}
use Rattle.wa_base.specs.declared.graph_names.ParamName.{ParamName}
use Rattle.wa_base.specs.declared.graph_names.ParamName.TheVariants.{Gain, DelayTime}
use Rattle.law_base.specs.Reaching.{reaches}
use Rattle.conn_graph.specs.declared.edges.Edge.{Edge}
use Rattle.conn_graph.specs.declared.edges.Ports.{Ports}
use Rattle.conn_graph.specs.declared.edges.Target.TheVariants.{Input, Param}
use Rattle.conn_graph.specs.Graph.{Connections, edges_to_input, edges_to_param}
use Rattle.conn_graph.specs.Ends.{writer_of, reader_of, ends, in_cycle, arrow, height, muted}

-- nodes: a source, one with an input, and a delay
source : Ports
source = record { inputs = 0; outputs = 1; is_delay = false }

plain : Ports
plain = record { inputs = 1; outputs = 1; is_delay = false }

delay : Ports
delay = record { inputs = 1; outputs = 1; is_delay = true }

to_input : ℕ → ℕ → Edge
to_input a b = record { from = record { 0 = a }; output = 0; to = Input (record { 0 = b }) 0 }

to_param : ℕ → ℕ → ParamName → Edge
to_param a b name = record { from = record { 0 = a }; output = 0; to = Param (record { node = record { 0 = b }; name = name }) }

muted_ends : Connections → List End
muted_ends g = filter (muted g) (ends g)

-- Feedback through a delay: source 1, delay 2, gain 3. The delay is in a cycle, and no end is muted.
feedback : Connections
feedback = record {
  nodes = plain ∷ source ∷ delay ∷ plain ∷ [];
  edges = to_input 1 0 ∷ to_input 1 2 ∷ to_input 2 3 ∷ to_input 3 0 ∷ to_input 3 2 ∷ [];
}

feedback-in_cycle : in_cycle feedback 2 ≡ true
unfolding feedback source plain delay to_input reaches in_cycle
feedback-in_cycle = refl

feedback-muted : muted_ends feedback ≡ []
unfolding muted_ends feedback source plain delay to_input reaches ends in_cycle arrow height muted
feedback-muted = refl

feedback-ends : ends feedback ≡ reader_of 0 ∷ reader_of 1 ∷ writer_of 2 ∷ reader_of 2 ∷ reader_of 3 ∷ []
unfolding feedback source plain delay to_input ends
feedback-ends = refl

-- A cycle of gains: constant 1, gains 2 and 3. The gains are muted, and what they are connected to is not.
gains : Connections
gains = record {
  nodes = plain ∷ source ∷ plain ∷ plain ∷ [];
  edges = to_input 1 0 ∷ to_input 1 2 ∷ to_input 2 0 ∷ to_input 2 3 ∷ to_input 3 2 ∷ [];
}

gains-muted : muted_ends gains ≡ reader_of 2 ∷ reader_of 3 ∷ []
unfolding muted_ends gains source plain delay to_input reaches ends in_cycle arrow height muted
gains-muted = refl

-- A cycle that is as long as there are ends: each of them reaches itself. With a delay in it no end does, and the delay is in the cycle.
pair : Ports → Connections
pair node = record { nodes = plain ∷ node ∷ []; edges = to_input 0 1 ∷ to_input 1 0 ∷ [] }

pair-muted : muted_ends (pair plain) ≡ reader_of 0 ∷ reader_of 1 ∷ []
unfolding muted_ends pair plain to_input reaches ends in_cycle arrow height muted
pair-muted = refl

delayed_pair-in_cycle : in_cycle (pair delay) 1 ≡ true
unfolding pair plain delay to_input reaches in_cycle
delayed_pair-in_cycle = refl

delayed_pair-muted : muted_ends (pair delay) ≡ []
unfolding muted_ends pair plain delay to_input reaches ends in_cycle arrow height muted
delayed_pair-muted = refl

-- A delay connected to its own delayTime: source 1, delay 2. It is in a cycle; its reader is muted and its writer is not.
own_time : Connections
own_time = record {
  nodes = plain ∷ source ∷ delay ∷ [];
  edges = to_input 1 2 ∷ to_input 2 0 ∷ to_param 2 2 DelayTime ∷ [];
}

own_time-in_cycle : in_cycle own_time 2 ≡ true
unfolding own_time source plain delay to_input to_param reaches in_cycle
own_time-in_cycle = refl

own_time-muted : muted_ends own_time ≡ reader_of 2 ∷ []
unfolding muted_ends own_time source plain delay to_input to_param reaches ends in_cycle arrow height muted
own_time-muted = refl

-- A delay outside cycles has an arrow from its writer to its reader.
straight : Connections
straight = record { nodes = plain ∷ source ∷ delay ∷ []; edges = to_input 1 2 ∷ to_input 2 0 ∷ [] }

straight-arrow : arrow straight (writer_of 2) (reader_of 2) ≡ true
unfolding straight source plain delay to_input reaches in_cycle arrow
straight-arrow = refl

feedback-arrow : arrow feedback (writer_of 2) (reader_of 2) ≡ false
unfolding feedback source plain delay to_input reaches in_cycle arrow
feedback-arrow = refl

-- A gain connected to its own gain is muted.
own_gain : Connections
own_gain = record { nodes = plain ∷ plain ∷ []; edges = to_input 1 0 ∷ to_param 1 1 Gain ∷ [] }

own_gain-muted : muted_ends own_gain ≡ reader_of 1 ∷ []
unfolding muted_ends own_gain source plain delay to_input to_param reaches ends in_cycle arrow height muted
own_gain-muted = refl

-- Each of a node's inputs has its own connections, and so has a parameter.
inputs : Connections
inputs = record {
  nodes = plain ∷ source ∷ record plain { inputs = 2 } ∷ [];
  edges = to_input 1 2 ∷ record (to_input 1 2) { to = Input (record { 0 = 2 }) 1 } ∷ to_param 1 2 Gain ∷ [];
}

inputs-0 : edges_to_input inputs 2 0 ≡ to_input 1 2 ∷ []
unfolding inputs plain source to_input to_param
inputs-0 = refl

inputs-1 : edges_to_input inputs 2 1 ≡ record (to_input 1 2) { to = Input (record { 0 = 2 }) 1 } ∷ []
unfolding inputs plain source to_input to_param
inputs-1 = refl

inputs-gain : edges_to_param inputs (record { node = record { 0 = 2 }; name = Gain }) ≡ to_param 1 2 Gain ∷ []
unfolding inputs plain source to_input to_param
inputs-gain = refl
