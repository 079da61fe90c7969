-- How far back a node reads.
use Rattle.std.specs.Prelude.{ℕ, max, length}
use Rattle.node_table.specs.declared.equation.Equation.TheVariants.{Filter, Convolution, Processor}
use Rattle.node_table.specs.declared.kinds.Kind.{Kind}
use Rattle.node_table.specs.declared.kinds.Kind.TheVariants.{Shaper, Causal}

-- the number of frames, from one back, of which a node of a kind reads any
abbrev pub reach_of : Kind → ℕ
reach_of (Shaper curve was_set) = 1
reach_of (Causal (Filter forward back)) = max (length forward) (length back)
reach_of (Causal (Convolution response)) = length response
reach_of (Causal (Processor program)) = 2
reach_of other = 0
