-- What of a tape matters to the quanta after it.
use Rattle.std.specs.Prelude.{ℕ, ℤ, pos, ◌-◌, ◌*◌, ◌/◌, length, List, Bool, ◌&&◌, nat_le, nat_lt, if◌then◌else◌}
use Rattle.node_table.specs.Kinds.{is_delay_kind, remembers}
use Rattle.node_table.specs.declared.nodes.Node.{Node}
use Rattle.conn_graph.specs.Ends.{writer_of}
use Rattle.meaning.specs.declared.world.World.{World}
use Rattle.meaning.specs.World.{node_at}
use Rattle.meaning.specs.Counts.{world_in, count}
use Rattle.meaning.specs.Values.{taken_in, value, frame}

-- the world in force in the last quantum of a tape
abbrev pub last_world : List World → World
last_world tape = world_in tape (length tape - 1)

-- channel c of what the input of node n takes in at frame f
abbrev pub heard : ℕ → List World → ℕ → ℕ → ℕ → ℤ
heard q tape n f c = taken_in (frame q tape f) n c

-- whether frame f lies between the birth of a node and the end of the tape
abbrev pub is_lived : ℕ → List World → Node → ℕ → Bool
is_lived q tape node f = nat_le node.attrs.birth f && nat_lt f (q * length tape)

-- whether quantum k does
abbrev pub is_lived_quantum : ℕ → List World → Node → ℕ → Bool
is_lived_quantum q tape node k = nat_le (node.attrs.birth / q) k && nat_lt k (length tape)

-- channel c of what the writer of delay n took in at frame f
abbrev pub written : ℕ → List World → ℕ → ℕ → ℕ → ℤ
written q tape n f c = value q tape f (writer_of n) 0 c

-- The past of a tape: how many quanta it has; what the nodes that remember took in, channel by channel, at each frame of their lives; what the writers of the delays did; and with how many channels they did so in each quantum.
pub record Past : Type 0 where
  pub quanta : ℕ
  pub heard : ℕ → ℕ → ℕ → ℤ
  pub written : ℕ → ℕ → ℕ → ℤ
  pub counts : ℕ → ℕ → ℕ

-- It is a past of the nodes of the last world. For all others, and out of their lives, it has nothing.
abbrev pub past : ℕ → List World → Past
past q tape = record {
  quanta = length tape;
  heard = λ n f c. let node = node_at (last_world tape) n in if remembers node.kind && is_lived q tape node f then heard q tape n f c else pos 0;
  written = λ n f c. let node = node_at (last_world tape) n in if is_delay_kind node.kind && is_lived q tape node f then written q tape n f c else pos 0;
  counts = λ n k. let node = node_at (last_world tape) n in if is_delay_kind node.kind && is_lived_quantum q tape node k then count q tape k (writer_of n) else 1;
}
