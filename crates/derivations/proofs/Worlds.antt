-- The world that is in force in a quantum, and what it has.
use Rattle.std.proofs.Common.{ℕ, zero, suc, ◌≡◌, ◌+◌, ◌*◌, ◌/◌, ◌<◌, length, List, [], ◌∷◌, map, All, Some, refl, ◌∙◌, ap, subst, arith}
use Rattle.std.specs.Prelude.{slice_get, slice_index_or}
use Rattle.std.proofs.lemmas.List.{length-map}
use Rattle.std.proofs.lemmas.Nat.{div-mul-add}
use Rattle.law_base.specs.Members.{IsIn}
use Rattle.law_base.proofs.Members.{IsIn-filter}
use Rattle.node_table.specs.Kinds.{outputs}
use Rattle.node_table.specs.declared.nodes.Node.{Node}
use Rattle.conn_graph.specs.declared.edges.Edge.{Edge}
use Rattle.conn_graph.specs.declared.edges.Ports.{Ports}
use Rattle.conn_graph.specs.Cells.{enters}
use Rattle.conn_graph.specs.Ends.{reader_of}
use Rattle.conn_graph.specs.Graph.{no_ports, ports_at}
use Rattle.conn_graph.proofs.EndLaws.{has_end}
use Rattle.meaning.specs.declared.world.World.{World}
use Rattle.meaning.specs.World.{sounding, no_world, no_node, kind_of}
use Rattle.meaning.specs.Validity.{ports_of, IsValid}
use Rattle.meaning.specs.Counts.{world_in}
use Rattle.explain.specs.Facts.{HasOutput}
use Rattle.derivations.specs.Groups.{arriving}
use Rattle.derivations.proofs.Filing.{got_at, got_low}

-- the world there as it sounds
pub world_is : (tape : List World) (j : ℕ) (w : World) → slice_get tape j ≡ Some w → world_in tape j ≡ sounding w
world_is tape j w there = ap sounding (got_at tape j w no_world there)

pub valid_there : (tape : List World) → All IsValid tape → (j : ℕ) (w : World) → slice_get tape j ≡ Some w → IsValid w
valid_there tape each j w there = subst IsValid (got_at tape j w no_world there) (each j no_world (got_low tape j w there))

pub nodes_are : (w : World) → IsValid w → length w.graph.value.nodes ≡ length w.nodes
nodes_are w valid = ap length valid.ports ∙ length-map w.nodes ports_of

outputs_are : (w : World) → IsValid w → (n : ℕ) → n < length w.nodes → (ports_at w.graph.value n).outputs ≡ outputs (kind_of w n)
outputs_are w valid n l = ap (λ (ports : List Ports). (slice_index_or ports n no_ports).outputs) valid.ports ∙ of_nodes w.nodes n l
  where
    of_nodes : (nodes : List Node) (i : ℕ) → i < length nodes → (slice_index_or (map ports_of nodes) i no_ports).outputs ≡ outputs (slice_index_or nodes i no_node).kind
    of_nodes [] i l = absurd (omega arith)
    of_nodes (x ∷ xs) zero l = refl
    of_nodes (x ∷ xs) (suc i) l = of_nodes xs i (omega arith)

-- a connection comes from an output that is there
pub source_there : (w : World) → IsValid w → (x : Edge) → IsIn x w.graph.value.edges → HasOutput (sounding w) (reader_of x.from.0) x.output
source_there w valid x is =
    let place = valid.graph.places x is in
    let low : x.from.0 < length w.nodes = subst (λ n. x.from.0 < n) (nodes_are w valid) place.from in
    record { end = has_end w.graph.value x.from.0 place.from; output = subst (λ n. x.output < n) (outputs_are w valid x.from.0 low) place.output }

pub sources_there : (w : World) → IsValid w → (n : ℕ) (x : Edge) → IsIn x (arriving w.graph.value n) → HasOutput (sounding w) (reader_of x.from.0) x.output
sources_there w valid n x is = source_there w valid x (IsIn-filter (enters n) w.graph.value.edges x is).0

-- the first frame of a quantum is one of it
pub quantum_of_first : (q j : ℕ) → 0 < q → q * j / q ≡ j
quantum_of_first q j some = ap (λ n. n / q) (let e : q * j ≡ j * q + 0 = omega arith in e) ∙ div-mul-add j q 0 some
