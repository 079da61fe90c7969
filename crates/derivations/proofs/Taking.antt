-- What a node with a history takes in at a frame is there.
use Rattle.std.proofs.Common.{ℕ, ◌≡◌, ◌/◌, ◌<◌, length, List, Bool, true, sym, ◌∙◌, ap, subst}
use Rattle.std.specs.Prelude.{slice_index_or}
use Rattle.law_base.specs.Members.{IsIn}
use Rattle.conn_graph.specs.Ends.{reader_of, ends, muted}
use Rattle.meaning.specs.declared.world.World.{World}
use Rattle.meaning.specs.World.{sounding, no_world, kind_of}
use Rattle.meaning.specs.Values.{world_at}
use Rattle.explain.specs.declared.facts.Fact.{Fact}
use Rattle.explain.specs.Facts.{has_history, HasInput, HasOutput}
use Rattle.derivations.specs.declared.tape.Stretch.{Stretch}
use Rattle.derivations.specs.Searches.{IsReady}
use Rattle.derivations.specs.Stretches.{IsInForce}
use Rattle.derivations.proofs.Staying.{HasHistory, history_count, history_inlet}
use Rattle.derivations.proofs.Worlds.{world_is, nodes_are}

module _ (q : ℕ) (tape : List World) (facts : List Fact) (ready : IsReady q tape facts) (g n : ℕ) (short : g / q < length tape)
    (node : n < length (world_at q tape g).nodes) (history : has_history (kind_of (world_at q tape g) n) ≡ true) where
  sizes : length (world_at q tape g).graph.value.nodes ≡ length (world_at q tape g).nodes
  sizes = nodes_are (slice_index_or tape (g / q) no_world) (ready.regular.valid (g / q) no_world short)

  has : HasHistory q ready.some tape ready.regular g n
  has = record { node = node; history = history }

  pub count_there : HasOutput (world_at q tape g) (reader_of n) 0
  count_there = history_count q ready.some tape ready.regular g n short sizes has

  pub inlet_there : HasInput (world_at q tape g) (reader_of n) 0
  inlet_there = history_inlet q ready.some tape ready.regular g n short sizes has

  module _ (s : Stretch) (force : IsInForce tape (g / q) s) where
    is : world_at q tape g ≡ sounding s.piece.world
    is = world_is tape (g / q) s.piece.world force.there

    pub end_there : IsIn (reader_of n) (ends s.piece.world.graph.value)
    end_there = subst (λ (w : World). IsIn (reader_of n) (ends w.graph.value)) is count_there.end

    pub silence_is : (t : Bool) → t ≡ muted s.piece.world.graph.value (reader_of n) → muted (world_at q tape g).graph.value (reader_of n) ≡ t
    silence_is t same = ap (λ (w : World). muted w.graph.value (reader_of n)) is ∙ sym same
