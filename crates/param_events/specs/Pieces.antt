-- Events in pieces.
use Rattle.std.specs.Prelude.{ℕ, ◌≡◌, ◌<◌, ◌+◌, List, length, take, slice_index_or, Vec}
use Rattle.std.specs.List.{flat_map}
use Rattle.std.specs.declared.alloc.Global.{Global}
use Rattle.param_events.specs.declared.events.Event.{Event}

abbrev pub Piece : Type 0
Piece = Vec Event Global

-- all events, piece after piece
abbrev pub all : List Piece → List Event
all pieces = flat_map (λ (piece : Piece). piece.items) pieces

-- the event at a place of all stands in piece k, with j of its events before it
pub record IsIn (pieces : List Piece) (i k j : ℕ) : Type 0 where
  pub piece : k < length pieces
  pub place : (other : Piece) → j < length (slice_index_or pieces k other).items
  pub before : length (all (take k pieces)) + j ≡ i
