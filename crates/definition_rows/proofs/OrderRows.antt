-- The order in which a tie has nodes rendered: of the ends that are ready the least or the greatest, by node number and then the writer before the reader.
use Rattle.std.specs.Prelude.{ℕ, ◌≡◌, List, [], ◌∷◌, map, true, false, refl}
use Rattle.law_base.specs.Reaching.{reaches}
use Rattle.wa_base.specs.declared.graph_names.End.{End}
use Rattle.wa_base.specs.declared.graph_names.Tie.TheVariants.{Up, Down}
use Rattle.conn_graph.specs.declared.edges.Edge.{Edge}
use Rattle.conn_graph.specs.declared.edges.Ports.{Ports}
use Rattle.conn_graph.specs.declared.edges.Target.TheVariants.{Input}
use Rattle.conn_graph.specs.Ends.{writer_of, reader_of, ends, in_cycle, arrow, height, muted}
use Rattle.cycle_order.specs.Choices.{places_from, unmuted_ends, chosen_order}

abbrev plain : Ports
plain = record { inputs = 1; outputs = 1; is_delay = false }

abbrev to_input : ℕ → ℕ → Edge
to_input a b = record { from = record { 0 = a }; output = 0; to = Input (record { 0 = b }) 0 }

abbrev delay : Ports
delay = record plain { is_delay = true }

-- behind the destination these nodes, with these connections: the order of each tie
unfoldable orders : List Ports → List Edge → List (List End)
unfolding reaches ends in_cycle arrow height muted places_from unmuted_ends chosen_order
orders nodes edges = map (chosen_order (record { nodes = plain ∷ nodes; edges = edges })) (Up ∷ Down ∷ [])

-- two nodes into the destination; a node beside a cycle of two, all into the destination: the cycle has no place
ties : (orders (plain ∷ plain ∷ []) (to_input 1 0 ∷ to_input 2 0 ∷ []) ≡ (reader_of 1 ∷ reader_of 2 ∷ reader_of 0 ∷ []) ∷ (reader_of 2 ∷ reader_of 1 ∷ reader_of 0 ∷ []) ∷ [])
    × (orders (plain ∷ plain ∷ plain ∷ []) (to_input 1 0 ∷ to_input 1 2 ∷ to_input 2 0 ∷ to_input 2 3 ∷ to_input 3 2 ∷ []) ≡ (reader_of 1 ∷ reader_of 0 ∷ []) ∷ (reader_of 1 ∷ reader_of 0 ∷ []) ∷ [])
unfolding orders
ties = (refl, refl)

-- a node and a delay in a cycle, both into the destination: the reader goes first, and the writer is ready beside the destination; two delays that feed each other, where both ends of one are ready at once
ties_of_delays : (orders (plain ∷ delay ∷ []) (to_input 1 0 ∷ to_input 1 2 ∷ to_input 2 0 ∷ to_input 2 1 ∷ [])
    ≡ (reader_of 2 ∷ reader_of 1 ∷ reader_of 0 ∷ writer_of 2 ∷ []) ∷ (reader_of 2 ∷ reader_of 1 ∷ writer_of 2 ∷ reader_of 0 ∷ []) ∷ [])
    × (orders (delay ∷ delay ∷ []) (to_input 1 2 ∷ to_input 2 1 ∷ [])
    ≡ (reader_of 0 ∷ reader_of 1 ∷ writer_of 2 ∷ reader_of 2 ∷ writer_of 1 ∷ []) ∷ (reader_of 2 ∷ reader_of 1 ∷ writer_of 2 ∷ writer_of 1 ∷ reader_of 0 ∷ []) ∷ [])
unfolding orders
ties_of_delays = (refl, refl)
