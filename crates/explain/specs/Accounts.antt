-- What is said of all quanta and frames of a tape, be it so or not, and what the equations make of it.
use Rattle.std.specs.Prelude.{ℕ, ◌/◌, ℤ, pos, List, nat_lt, if◌then◌else◌, Option, Some, None}
use Rattle.node_table.specs.Curves.{shaper_value}
use Rattle.node_table.specs.Equations.{equation_value}
use Rattle.node_table.specs.Machine.{cells_after}
use Rattle.node_table.specs.declared.equation.Equation.TheVariants.{Processor}
use Rattle.node_table.specs.declared.kinds.Kind.{Kind}
use Rattle.node_table.specs.declared.kinds.Kind.TheVariants.{Shaper, Causal}
use Rattle.meaning.specs.declared.world.World.{World}
use Rattle.meaning.specs.World.{kind_of, param_id}
use Rattle.meaning.specs.Counts.{Counts, world_in, count_rule, count}
use Rattle.meaning.specs.Values.{Values, Frame, no_frame, input_value, frames_heard, computed_value, equation, world_at, value}
use Rattle.explain.specs.declared.facts.Key.{Key}
use Rattle.explain.specs.declared.facts.Key.TheVariants.{Count, Inlet, Par, Hist, Out}
use Rattle.explain.specs.declared.facts.Fact.{Fact}

-- the channels of each end in each quantum, and what each end carries at each frame
pub record Account : Type 0 where
  pub counts : ℕ → Counts
  pub values : ℕ → Values

-- what the meaning has
abbrev pub meant : ℕ → List World → Account
meant q tape = record { counts = count q tape; values = value q tape }

-- what a node that hears its input makes of all that its input took in since its birth, the newest first
abbrev pub result_of : Kind → List ℤ → ℤ
result_of (Shaper curve was_set) frames = shaper_value curve frames
result_of (Causal equation) frames = equation_value equation frames
result_of other frames = pos 0

-- the cells that a processor leaves
abbrev pub cells_of : Kind → List ℤ → Option (List ℤ)
cells_of (Causal (Processor program)) frames = Some (cells_after program frames)
cells_of other frames = None

module _ (q : ℕ) (tape : List World) (a : Account) where
  -- a frame, by the account, and the frames before it
  abbrev pub frame_in : ℕ → Frame
  frame_in f = record { world = world_at q tape f; counts = a.counts (f / q); values = a.values f }

  abbrev pub frames_in : ℕ → ℕ → Frame
  frames_in f g = if nat_lt g f then frame_in g else no_frame

  -- the counts of the quanta before
  abbrev pub counts_in : ℕ → ℕ → Counts
  counts_in j k = if nat_lt k j then a.counts k else λ e. 1

  -- all that the input of a node took in on a channel, from its birth to frame f
  abbrev pub heard_in : ℕ → ℕ → ℕ → List ℤ
  heard_in f n c = frames_heard f (frames_in f) (frame_in f) n c

  -- ---- what it says of a key

  abbrev pub value_in : Key → ℤ
  value_in (Count j e o) = pos (a.counts j e)
  value_in (Inlet f e i c) = input_value (frame_in f) e.node.0 i c
  value_in (Par f node name) = computed_value q f (frames_in f) (frame_in f) (param_id node.0 name)
  value_in (Hist f node c) = result_of (kind_of (world_at q tape f) node.0) (heard_in f node.0 c)
  value_in (Out f e o c) = a.values f e o c

  abbrev pub cells_in : Key → Option (List ℤ)
  cells_in (Hist f node c) = cells_of (kind_of (world_at q tape f) node.0) (heard_in f node.0 c)
  cells_in other = None

  abbrev pub stated : Key → Fact
  stated key = record { key = key; value = value_in key; cells = cells_in key }

  -- ---- what the equation of a key gives: for counts and outputs it is that of the end, and all else is made of these by its own

  abbrev pub value_by_equation : Key → ℤ
  value_by_equation (Count j e o) = pos (count_rule q (world_in tape j) j (counts_in j) (a.counts j) e)
  value_by_equation (Out f e o c) = equation q f (frames_in f) (frame_in f) e o c
  value_by_equation other = value_in other

  abbrev pub derived : Key → Fact
  derived key = record { key = key; value = value_by_equation key; cells = cells_in key }

-- what the meaning has of a key
abbrev pub means : ℕ → List World → Key → Fact
means q tape key = stated q tape (meant q tape) key
