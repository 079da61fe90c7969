-- Going along an order of the ends.
use Rattle.std.specs.Prelude.{ℕ, ℤ, ◌/◌, List, [], ◌∷◌, if◌then◌else◌}
use Rattle.wa_base.specs.declared.graph_names.End.{End}
use Rattle.conn_graph.specs.Ends.{same_end}
use Rattle.meaning.specs.declared.world.World.{World}
use Rattle.meaning.specs.Counts.{Counts, count}
use Rattle.meaning.specs.Values.{Frame, Values, silence, equation, frames_before, world_at}

abbrev pub with_end : Values → End → (ℕ → ℕ → ℤ) → Values
with_end values e x = λ d. if same_end d e then x else values d

-- once along an order: each end's equation sees the values of the ends before it
abbrev pub along : ℕ → ℕ → (ℕ → Frame) → World → Counts → List End → Values → Values
along q f past w counts [] values = values
along q f past w counts (e ∷ es) values =
    along q f past w counts es (with_end values e (equation q f past (record { world = w; counts = counts; values = values }) e))

-- the values of frame f by an order, from the frames before
abbrev pub values_by : ℕ → List World → ℕ → List End → Values
values_by q tape f order = along q f (frames_before q tape f) (world_at q tape f) (count q tape (f / q)) order silence
