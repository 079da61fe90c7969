-- What is rendered: the destination's channels at each frame.
use Rattle.std.specs.Prelude.{ℕ, ℤ, List, map}
use Rattle.std.specs.List.{range_with_len}
use Rattle.wa_base.specs.declared.contexts.ContextSpec.{ContextSpec}
use Rattle.conn_graph.specs.Ends.{reader_of}
use Rattle.meaning.specs.declared.world.World.{World}
use Rattle.meaning.specs.Values.{value}

-- the sample of a channel at a frame
abbrev pub sample : ℕ → List World → ℕ → ℕ → ℤ
sample q tape f c = value q tape f (reader_of 0) 0 c

-- one row for each frame below the length, with the context's channels
unfoldable pub rows : ℕ → List World → ContextSpec → List (List ℤ)
rows q tape spec = map (λ f. map (sample q tape f) (range_with_len 0 spec.channels)) (range_with_len 0 spec.length)
