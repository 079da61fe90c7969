-- What the laws use of validity, for each world of a tape.
use Rattle.std.proofs.Common.{ℕ, zero, suc, ◌≡◌, ◌<◌, length, List, [], ◌∷◌, map, slice_index_or, refl, ◌∙◌, ap, arith}
use Rattle.std.specs.Prelude.{All}
use Rattle.node_table.specs.Kinds.{is_delay_kind}
use Rattle.node_table.specs.declared.nodes.Node.{Node}
use Rattle.conn_graph.specs.declared.edges.Ports.{Ports}
use Rattle.conn_graph.specs.Graph.{no_ports}
use Rattle.meaning.specs.declared.world.World.{World}
use Rattle.meaning.specs.World.{sounding, no_world, no_node}
use Rattle.meaning.specs.Validity.{ports_of, IsValid, IsJoined}
use Rattle.meaning.specs.Counts.{world_in}

delays_of : (nodes : List Node) (i : ℕ) → (slice_index_or (map ports_of nodes) i no_ports).is_delay ≡ is_delay_kind (slice_index_or nodes i no_node).kind
delays_of [] i = refl
delays_of (n ∷ ns) zero = refl
delays_of (n ∷ ns) (suc i) = delays_of ns i

pub joined : (w : World) → IsValid w → IsJoined (sounding w)
joined w valid = record {
  places = valid.graph.places;
  delays = λ i. ap (λ (ports : List Ports). (slice_index_or ports i no_ports).is_delay) valid.ports ∙ delays_of w.nodes i;
}

joined_from : (tape : List World) (j : ℕ) → ((k : ℕ) → k < length tape → IsValid (slice_index_or tape k no_world)) → IsJoined (sounding (slice_index_or tape j no_world))
joined_from [] j each = record { places = λ e h. absurd h; delays = λ i. refl }
joined_from (w ∷ ws) zero each = joined w (each 0 (omega arith))
joined_from (w ∷ ws) (suc j) each = joined_from ws j (λ k l. each (suc k) (omega arith))

pub joined_in : (tape : List World) → All IsValid tape → (j : ℕ) → IsJoined (world_in tape j)
joined_in tape each j = joined_from tape j (λ k l. each k no_world l)
