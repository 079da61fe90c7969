-- Names by a book whose objects are told by the ordinals of the calls that created them.
use Rattle.std.specs.Prelude.{ℕ, ◌≡◌, List, Option, Some, None, option_and_then}
use Rattle.name_book.specs.Book.{object_of}
use Rattle.name_book.specs.declared.book.Object.{Object}
use Rattle.name_book.specs.declared.book.Object.TheVariants.{Node, Buffer}
use Rattle.script_ast.specs.declared.call_list.Call.{Call}
use Rattle.prune_script.specs.Pruned.{node_named}

-- the node that an object is
abbrev pub node_of : Object → Option ℕ
node_of (Node node) = Some node.0
node_of (Buffer buffer) = None

-- the node that a name stands for in a book
abbrev pub node_in : List (List ℕ × Object) → List ℕ → Option ℕ
node_in bindings name = option_and_then node_of (object_of bindings name)

-- each name stands for the node that it stands for after these calls, the newest first
abbrev pub TellsNames : List (List ℕ × Object) → List Call → Type 0
TellsNames bindings earlier = (name : List ℕ) → node_in bindings name ≡ node_named earlier name
