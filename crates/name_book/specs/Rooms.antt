-- How a book keeps its names, and the memory for one binding.
use Rattle.std.specs.Prelude.{◌≡◌, ℕ, ◌<◌, List, Option, map, Vec, IfSome}
use Rattle.std.specs.Option.{option_map}
use Rattle.std.specs.declared.alloc.Global.{Global}
use Rattle.name_book.specs.declared.book.Object.{Object}
use Rattle.name_book.specs.declared.book.Room.{Room}

-- the map's entries as names with their objects
abbrev pub bindings_of : List (Vec ℕ Global × Object) → List (List ℕ × Object)
bindings_of = map (λ e. (e.0.items, e.1))

-- the name for which there is memory
abbrev pub reserved_of : Option Room → Option (List ℕ)
reserved_of = option_map (λ room. room.first_name)

-- with the memory for a binding there are places for it in both maps
pub record HasPlaces (objects first_names : ℕ) (room : Room) : Type 0 where
  pub same : room.key.items ≡ room.first_name
  pub in_objects : 0 < objects
  pub in_first_names : 0 < first_names

abbrev pub KeepsPlaces : ℕ → ℕ → Option Room → Type 0
KeepsPlaces objects first_names room = IfSome room (HasPlaces objects first_names)
