-- A graph of connections as a value: the nodes' ports, and the connections in order.
use Rattle.std.specs.Prelude.{ℕ, ◌≡◌, ◌<◌, ◌≤◌, ◌^◌, List, [], ◌∷◌, ◌++◌, length, slice_index_or, filter, Bool, false, not, nat_lt, nat_le, ◌&&◌, if◌then◌else◌, Option, None, Some}
use Rattle.std.specs.List.{list_any}
use Rattle.std.specs.Option.{option_map_or}
use Rattle.wa_base.specs.declared.exceptions.Exc.{Exc}
use Rattle.wa_base.specs.declared.exceptions.Exc.TheVariants.{NotSupported, IndexSize, InvalidAccess}
use Rattle.wa_base.specs.declared.features.Feature.TheVariants.{ConnectionLimit}
use Rattle.wa_base.specs.declared.graph_names.ParamId.{ParamId}
use Rattle.law_base.specs.Members.{IsIn, AreDistinct}
use Rattle.conn_graph.specs.declared.edges.Edge.{Edge}
use Rattle.conn_graph.specs.declared.edges.Form.{Form}
use Rattle.conn_graph.specs.declared.edges.Ports.{Ports}
use Rattle.conn_graph.specs.declared.edges.Target.{Target}
use Rattle.conn_graph.specs.declared.edges.Target.TheVariants.{Input, Param}
use Rattle.conn_graph.specs.Edges.{same_edge, target_node, is_input, is_param, is_named, form_output, form_input, names_a_target}

-- The nodes in order of creation, and the connections in order of the source's number and, for one source, in order of connection.
pub record Connections : Type 0 where
  pub nodes : List Ports
  pub edges : List Edge

abbrev pub no_ports : Ports
no_ports = record { inputs = 0; outputs = 0; is_delay = false }

abbrev pub ports_at : Connections → ℕ → Ports
ports_at g i = slice_index_or g.nodes i no_ports

abbrev pub no_connections : Connections
no_connections = record { nodes = []; edges = [] }

abbrev pub with_node : Connections → Ports → Connections
with_node g ports = record g { nodes = g.nodes ++ ports ∷ [] }

-- the connections to an input, and to a parameter
abbrev pub edges_to_input : Connections → ℕ → ℕ → List Edge
edges_to_input g n i = filter (λ e. is_input n i e.to) g.edges

abbrev pub edges_to_param : Connections → ParamId → List Edge
edges_to_param g p = filter (λ e. is_param p e.to) g.edges

-- ---- a new connection

-- it stands behind the other connections of its source
abbrev pub with_edge : List Edge → Edge → List Edge
with_edge edges e = filter (λ x. nat_le x.from.0 e.from.0) edges ++ e ∷ filter (λ x. nat_lt e.from.0 x.from.0) edges

abbrev pub has_edge : Connections → Edge → Bool
has_edge g e = list_any (same_edge e) g.edges

-- an input that the target's node lacks; a parameter is always there
abbrev pub lacks_input : Connections → Target → Bool
lacks_input g (Input node input) = not (nat_lt input (ports_at g node.0).inputs)
lacks_input g (Param param) = false

abbrev pub connect_refusal : Connections → Edge → Option Exc
connect_refusal g e =
    if not (nat_lt e.output (ports_at g e.from.0).outputs) then Some IndexSize else
    if lacks_input g e.to then Some IndexSize else
    if not (has_edge g e) && nat_le 8192 (length g.edges) then Some (NotSupported (Some ConnectionLimit)) else
    None

-- a connection that is there already changes nothing
abbrev pub connected : Connections → Edge → Connections
connected g e = if has_edge g e then g else record g { edges = with_edge g.edges e }

-- ---- connections that go

abbrev pub disconnect_refusal : Connections → ℕ → Form → Option Exc
disconnect_refusal g from f =
    if option_map_or (λ output. not (nat_lt output (ports_at g from).outputs)) (form_output f) false then Some IndexSize else
    if option_map_or (λ input. not (nat_lt input.1 (ports_at g input.0).inputs)) (form_input f) false then Some IndexSize else
    if names_a_target f && not (list_any (is_named from f) g.edges) then Some InvalidAccess else
    None

-- what the form does not name stays
abbrev pub disconnected : Connections → ℕ → Form → Connections
disconnected g from f = record g { edges = filter (λ e. not (is_named from f e)) g.edges }

-- ---- what holds of every graph

-- a connection's nodes are there, and its ports too
pub record HasPlace (g : Connections) (e : Edge) : Type 0 where
  pub from : e.from.0 < length g.nodes
  pub output : e.output < (ports_at g e.from.0).outputs
  pub to : target_node e.to < length g.nodes
  pub input : lacks_input g e.to ≡ false

abbrev pub AreFrom : ℕ → List Edge → Type 0
AreFrom low [] = Unit {0}
AreFrom low (e ∷ es) = (low ≤ e.from.0) × AreFrom e.from.0 es

pub record IsGraph (g : Connections) : Type 0 where
  pub nodes : length g.nodes < 2 ^ 32
  pub places : (e : Edge) → IsIn e g.edges → HasPlace g e
  pub ordered : AreFrom 0 g.edges
  pub once : AreDistinct g.edges
  pub few : length g.edges ≤ 8192
