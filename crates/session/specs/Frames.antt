-- What a quantum's frames do to samples that stand channel after channel.
use Rattle.std.specs.Prelude.{ℕ, ◌≡◌, ◌<◌, ◌/◌, ◌%◌, ◌&&◌, nat_le, nat_lt, ℤ, pos, List, length, slice_index_or, Bool, if◌then◌else◌}
use Rattle.wa_base.specs.declared.contexts.ContextSpec.{ContextSpec}
use Rattle.meaning.specs.declared.world.World.{World}
use Rattle.session.specs.Rows.{sample_in}

-- whether a place is that of a frame from first on and before end, in one of the first channels
abbrev pub is_place_of : ContextSpec → ℕ → ℕ → ℕ → ℕ → Bool
is_place_of spec first end below place = nat_lt (place / spec.length) below && nat_le first (place % spec.length) && nat_lt (place % spec.length) end

-- these places hold the samples of the tape, and every other place what it held
abbrev pub WritesBelow : List ℤ → List ℤ → ContextSpec → List World → ℕ → ℕ → ℕ → Type 0
WritesBelow old new spec tape first end below =
    (place : ℕ) → place < length old → slice_index_or new place (pos 0)
    ≡ (if is_place_of spec first end below place then sample_in tape spec place else slice_index_or old place (pos 0))
