-- What is a fact of a tape, true or not.
use Rattle.std.specs.Prelude.{ℕ, ◌/◌, ◌≡◌, ◌<◌, List, length, Bool, true, false, Some, is_some}
use Rattle.wa_base.specs.declared.graph_names.End.{End}
use Rattle.law_base.specs.Members.{IsIn}
use Rattle.node_table.specs.Kinds.{inputs, outputs, param_name}
use Rattle.node_table.specs.declared.equation.Equation.TheVariants.{Processor}
use Rattle.node_table.specs.declared.kinds.Kind.{Kind}
use Rattle.node_table.specs.declared.kinds.Kind.TheVariants.{Shaper, Causal}
use Rattle.conn_graph.specs.Ends.{ends, input_end}
use Rattle.meaning.specs.declared.world.World.{World}
use Rattle.meaning.specs.World.{kind_of}
use Rattle.meaning.specs.Counts.{world_in}
use Rattle.explain.specs.declared.facts.Key.{Key}
use Rattle.explain.specs.declared.facts.Key.TheVariants.{Count, Inlet, Par, Hist, Out}
use Rattle.explain.specs.declared.facts.Fact.{Fact}

-- whether a node makes its output of all that it took in
abbrev pub has_history : Kind → Bool
has_history (Shaper curve was_set) = true
has_history (Causal equation) = true
has_history other = false

abbrev pub is_processor : Kind → Bool
is_processor (Causal (Processor program)) = true
is_processor other = false

-- an output of an end, and an input; an input is one of the end at which connections arrive
pub record HasOutput (w : World) (e : End) (o : ℕ) : Type 0 where
  pub end : IsIn e (ends w.graph.value)
  pub output : o < outputs (kind_of w e.node.0)

pub record HasInput (w : World) (e : End) (i : ℕ) : Type 0 where
  pub node : e.node.0 < length w.nodes
  pub end : e ≡ input_end w.graph.value e.node.0
  pub input : i < inputs (kind_of w e.node.0)

-- what a key names is in a world, its form is that of the node's kind, and its channel is one of 32
abbrev pub HasKey : World → Key → Type 0
HasKey w (Count j e o) = HasOutput w e o
HasKey w (Inlet f e i c) = HasInput w e i × (c < 32)
HasKey w (Par f node name) = (node.0 < length w.nodes) × (param_name (kind_of w node.0) ≡ Some name)
HasKey w (Hist f node c) = (node.0 < length w.nodes) × (has_history (kind_of w node.0) ≡ true) × (c < 32)
HasKey w (Out f e o c) = HasOutput w e o × (c < 32)

-- the quantum of a key, in quanta of q frames
abbrev pub quantum_of_key : ℕ → Key → ℕ
quantum_of_key q (Count j e o) = j
quantum_of_key q (Inlet f e i c) = f / q
quantum_of_key q (Par f node name) = f / q
quantum_of_key q (Hist f node c) = f / q
quantum_of_key q (Out f e o c) = f / q

-- A key of a tape: its quantum is one of the tape, and the world there has what it names.
pub record IsKeyOf (q : ℕ) (tape : List World) (key : Key) : Type 0 where
  pub quantum : quantum_of_key q key < length tape
  pub place : HasKey (world_in tape (quantum_of_key q key)) key

-- whether a fact about a key has cells: where it is what a processor makes
abbrev pub has_cells : World → Key → Bool
has_cells w (Hist f node c) = is_processor (kind_of w node.0)
has_cells w other = false

-- A fact of a tape is a key of it with a value, and with cells exactly where it is to have them.
pub record IsFactOf (q : ℕ) (tape : List World) (fact : Fact) : Type 0 where
  pub key : IsKeyOf q tape fact.key
  pub cells : is_some fact.cells ≡ has_cells (world_in tape (quantum_of_key q fact.key)) fact.key
