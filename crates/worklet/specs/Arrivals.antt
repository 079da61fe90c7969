-- What earlier places leave to a place.
use Rattle.std.specs.Prelude.{ℕ, ◌<◌, ◌≡◌, List, Option, Some, None}
use Rattle.node_table.specs.declared.code.Instr.{Instr}
use Rattle.node_table.specs.Instructions.{GoesOn, left}

-- one of the first places so many goes on there
abbrev pub IsReachedBelow : List Instr → (place bound : ℕ) → Type 0
IsReachedBelow code place bound = (i : ℕ) × (i < bound) × GoesOn code i place

-- each of the first places that goes on there leaves this height, and there is one; or there is none
abbrev pub Arrives : (code : List Instr) (heights : List ℕ) (place bound : ℕ) → Option ℕ → Type 0
Arrives code heights place bound None = IsReachedBelow code place bound → ⊥
Arrives code heights place bound (Some height) =
    IsReachedBelow code place bound × ((i : ℕ) → i < bound → GoesOn code i place → left code heights i ≡ height)

-- what was found, if something was, is this height
abbrev pub Agrees : Option ℕ → ℕ → Type 0
Agrees None height = Unit {0}
Agrees (Some other) height = other ≡ height
