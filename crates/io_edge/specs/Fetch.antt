-- What a store answers that is asked for a whole file within a limit.
use Rattle.std.specs.Prelude.{ℕ, ◌≡◌, ◌≤◌, ◌<◌, List, length, nat_lt, if◌then◌else◌, Option, Some, None, ⊤}
use Rattle.io_edge.specs.declared.files.Fetched.{Fetched}
use Rattle.io_edge.specs.declared.files.Fetched.TheVariants.{Bytes, Missing, TooLong}

-- bytes are no more than the limit, and a length that is too long is above it
abbrev pub IsWithin : ℕ → Fetched → Type 0
IsWithin limit (Bytes bytes) = length bytes ≤ limit
IsWithin limit Missing = ⊤
IsWithin limit (TooLong n) = limit < n

-- Of what a path holds: `Missing` where there is no file and nowhere else, all bytes of the file, or a
-- length that it has at least. An answer that is within its limit too is `Bytes` exactly where the file
-- is no longer than the limit, and `TooLong` exactly where it is longer.
abbrev pub IsFetchedOf : Option (List ℕ) → Fetched → Type 0
IsFetchedOf None (Bytes bytes) = ⊥
IsFetchedOf None Missing = ⊤
IsFetchedOf None (TooLong n) = ⊥
IsFetchedOf (Some held) (Bytes bytes) = bytes ≡ held
IsFetchedOf (Some held) Missing = ⊥
IsFetchedOf (Some held) (TooLong n) = n ≤ length held

-- bytes are all that was left to read
abbrev pub HasAll : List ℕ → Fetched → Type 0
HasAll left (Bytes bytes) = bytes ≡ left
HasAll left Missing = ⊤
HasAll left (TooLong n) = ⊤

-- the answer of a store in memory, which tells the whole length of a file that is too long
abbrev pub fetched_of : ℕ → Option (List ℕ) → Fetched
fetched_of limit None = Missing
fetched_of limit (Some held) = if nat_lt limit (length held) then TooLong (length held) else Bytes held
