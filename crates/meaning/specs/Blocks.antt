-- Going along an order once for a whole quantum: each end's frames at once.
use Rattle.std.specs.Prelude.{ℕ, ℤ, ◌+◌, ◌-◌, List, [], ◌∷◌, nat_lt, if◌then◌else◌}
use Rattle.wa_base.specs.declared.graph_names.End.{End}
use Rattle.conn_graph.specs.Ends.{same_end}
use Rattle.meaning.specs.declared.world.World.{World}
use Rattle.meaning.specs.Counts.{Counts}
use Rattle.meaning.specs.Values.{Frame, Values, equation}

-- what is made so far of a quantum: the values of each of its frames, counted from its first
abbrev pub Drafts : Type 0
Drafts = ℕ → Values

abbrev pub drafted : World → Counts → Values → Frame
drafted w counts values = record { world = w; counts = counts; values = values }

-- the frames before the quantum, and then what is made of it
abbrev pub with_drafts : (ℕ → Frame) → ℕ → World → Counts → Drafts → ℕ → Frame
with_drafts past first w counts drafts g = if nat_lt g first then past g else drafted w counts (drafts (g - first))

-- one end's block: its values at each frame m of the quantum
abbrev pub block : ℕ → (ℕ → Frame) → ℕ → World → Counts → Drafts → End → ℕ → ℕ → ℕ → ℤ
block q past first w counts drafts e m = equation q (first + m) (with_drafts past first w counts drafts) (drafted w counts (drafts m)) e

abbrev pub blocks_along : ℕ → (ℕ → Frame) → ℕ → World → Counts → List End → Drafts → Drafts
blocks_along q past first w counts [] drafts = drafts
blocks_along q past first w counts (e ∷ es) drafts =
    blocks_along q past first w counts es (λ m d. if same_end d e then block q past first w counts drafts e m else drafts m d)
