-- The names that a script gives to its objects.
use Rattle.std.specs.Prelude.{◌≡◌, ℕ, ◌⊎◌, List, [], ◌∷◌, ◌++◌, Option, Some, IsSome, Contains, codes, if◌then◌else◌, is_some, nat_eq}
use Rattle.std.specs.Map.{lookup, keys_of}
use Rattle.std.specs.Str.{bytes_eq}
use Rattle.name_book.specs.declared.book.Object.{Object}
use Rattle.name_book.specs.declared.book.Object.TheVariants.{Node, Buffer}

-- the name with which a script speaks of the destination
unfoldable pub destination : List ℕ
destination = codes "destination"

-- what contracts see of a book
pub record BookView : Type 0 where
  -- each bound name with its object, in the order of the first bindings
  pub bindings : List (List ℕ × Object)
  -- each node that was bound with the name of its first binding, in the order of these bindings
  pub first_names : List (ℕ × List ℕ)
  -- the name whose next binding needs no memory
  pub reserved : Option (List ℕ)

-- the bindings after a name is bound: a name that is there keeps its place, and a new one goes last
abbrev pub bound : List (List ℕ × Object) → List ℕ → Object → List (List ℕ × Object)
bound [] name object = (name, object) ∷ []
bound (b ∷ bs) name object = if bytes_eq name b.0 then (b.0, object) ∷ bs else b ∷ bound bs name object

-- the object that a name stands for: the destination is node 0
abbrev pub object_of : List (List ℕ × Object) → List ℕ → Option Object
object_of bindings name = if bytes_eq name destination then Some (Node (record { 0 = 0 })) else lookup (bytes_eq name) bindings

-- the name stands for an object: it is the destination's, or among those that were bound
abbrev pub IsBound : List (List ℕ × Object) → List ℕ → Type 0
IsBound bindings name = (name ≡ destination) ⊎ Contains (keys_of bindings) name

-- the name under which a node was first bound
abbrev pub first_name_of : List (ℕ × List ℕ) → ℕ → Option (List ℕ)
first_name_of names node = lookup (nat_eq node) names

-- a node has a first name; of a buffer it says nothing
abbrev pub HasFirstName : List (ℕ × List ℕ) → Object → Type 0
HasFirstName names (Node node) = IsSome (first_name_of names node.0)
HasFirstName names (Buffer buffer) = Unit {0}

-- the first names after an object is bound to a name: a node keeps the first name that it has
abbrev pub first_named : List (ℕ × List ℕ) → Object → List ℕ → List (ℕ × List ℕ)
first_named names (Node node) name = if is_some (first_name_of names node.0) then names else names ++ (node.0, name) ∷ []
first_named names (Buffer buffer) name = names
