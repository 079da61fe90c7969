-- How many calls the lists of a script have.
use Rattle.std.specs.Prelude.{ℕ, ◌≡◌, List, length, slice_index_or}
use Rattle.script_ast.specs.declared.call_list.Call.{Call}
use Rattle.session.specs.Session.{held_by}

-- at the place of each holder stands the length of the list that it holds, 0 past the end
abbrev pub AreLengths : List ℕ → List Call → Type 0
AreLengths lengths calls = (holder : ℕ) → slice_index_or lengths holder 0 ≡ length (held_by holder calls)
