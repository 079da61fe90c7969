-- The JSON value that a `Value` is.
use Rattle.std.specs.Prelude.{ℕ, List, [], ◌∷◌, map}
use Rattle.std.specs.Borrow.{Bor}
use Rattle.serde_json.specs.Data.{Num, unsigned, negative, float, Data, null, boolean, number, string, array, object, Items, Members, no_members, put}
use Rattle.serde_json.specs.View.{items_of}
use Rattle.json_tree.specs.declared.numbers.Number.{Number}
use Rattle.json_tree.specs.declared.numbers.Number.TheVariants.{Unsigned, Negative, Float}
use Rattle.json_tree.specs.declared.values.Value.{Value, fold-Value}
use Rattle.json_tree.specs.declared.values.Value.TheOpen.{Value-F}

abbrev pub number_view : Number → Num
number_view (Unsigned n) = unsigned n
number_view (Negative z) = negative z
number_view (Float x) = float x

-- the members after more of them went in, one after another
abbrev pub puts : List (Bor (List ℕ) × Data) → Members → Members
puts [] found = found
puts (m ∷ ms) found = puts ms (put m.0.now m.1 found)

-- one level, with each value inside already seen as its data
abbrev pub view_step : Value-F Data → Data
view_step Value-F.Null = null
view_step (Value-F.Bool b) = boolean b
view_step (Value-F.Number x) = number (number_view x)
view_step (Value-F.String s) = string s.text.now
view_step (Value-F.Array v) = array (items_of v.items)
view_step (Value-F.Object v) = object (puts v.items no_members)

abbrev pub view : Value → Data
view = fold-Value Data view_step

abbrev pub items_view : List Value → Items
items_view vs = items_of (map view vs)

abbrev pub members_view : List (Bor (List ℕ) × Value) → Members
members_view ms = puts (map (λ m. (m.0, view m.1)) ms) no_members
