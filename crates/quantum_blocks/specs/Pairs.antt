-- What connections bring that have the number of channels of their inlet, in quanta of q frames.
use Rattle.std.specs.Prelude.{ℕ, ◌≡◌, ◌<◌, ◌+ℤ◌, List, map, filter, true}
use Rattle.mix_rules.specs.Mixing.{total}
use Rattle.conn_graph.specs.declared.edges.Edge.{Edge}
use Rattle.meaning.specs.declared.world.World.{World}
use Rattle.meaning.specs.Values.{part}
use Rattle.quantum_blocks.specs.declared.gathering.Inlet.{Inlet}
use Rattle.quantum_blocks.specs.declared.held.Held.{Held}
use Rattle.quantum_blocks.specs.Blocks.{BlockView, frame_of}
use Rattle.quantum_blocks.specs.Connections.{leads_to}
use Rattle.quantum_blocks.specs.Held.{held_at, HasChannels}

-- a connection to the inlet carries this
pub record IsBrought (q : ℕ) (counts : List ℕ) (blocks : List BlockView) (e : Edge) (inlet : Inlet) (heard : Held) : Type 0 where
  pub leads : leads_to inlet.target e ≡ true
  pub long : HasChannels q inlet.count heard
  pub values : (w : World) (c m : ℕ) → c < inlet.count → m < q → held_at q heard c m ≡ part (frame_of w blocks counts m) inlet.interp inlet.count c e

-- what those of the connections carry that lead to the inlet is the sum of these
pub record IsPair (q : ℕ) (counts : List ℕ) (blocks : List BlockView) (edges : List Edge) (inlet : Inlet) (one other : Held) : Type 0 where
  pub one_long : HasChannels q inlet.count one
  pub other_long : HasChannels q inlet.count other
  pub sums : (w : World) (c m : ℕ) → c < inlet.count → m < q → held_at q one c m +ℤ held_at q other c m ≡ total (map (part (frame_of w blocks counts m) inlet.interp inlet.count c) (filter (leads_to inlet.target) edges))
