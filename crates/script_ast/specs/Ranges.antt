-- The ranges of a call's fields, and the names that a script may give.
use Rattle.std.specs.Prelude.{ℕ, ◌≤◌, ◌==◌, ◌&&◌, ◌||◌, List, All, length, codes, bytes_eq, Bool, not, nat_le, IsTrue, ℤ, pos, neg_ℤ, ◌≤ℤ◌, Option, Some, None, IsSome}
use Rattle.std.specs.List.{list_all}
use Rattle.std.specs.Char.{is_ascii_alphanumeric}
use Rattle.std.specs.Str.{is_utf8}
use Rattle.wa_base.specs.Numbers.{IsFix}
use Rattle.node_table.specs.declared.code.Instr.{Instr}
use Rattle.node_table.specs.declared.code.Instr.TheVariants as instr

-- a number of frames, from -2^40 to 2^40
abbrev pub IsTime : ℤ → Type 0
IsTime z = (neg_ℤ (pos 1099511627776) ≤ℤ z) × (z ≤ℤ pos 1099511627776)

-- a number of frames, where there is one
abbrev pub IsTimeIfSome : Option ℤ → Type 0
IsTimeIfSome None = Unit {0}
IsTimeIfSome (Some z) = IsTime z

-- a count, of 32 bits
abbrev pub IsCount : ℕ → Type 0
IsCount n = n ≤ 4294967295

-- a count, where there is one
abbrev pub IsCountIfSome : Option ℕ → Type 0
IsCountIfSome None = Unit {0}
IsCountIfSome (Some n) = IsCount n

-- the bytes are UTF-8
abbrev pub IsText : List ℕ → Type 0
IsText text = IsTrue (is_utf8 text)

-- they are, where there is a text
abbrev pub IsTextIfSome : Option (List ℕ) → Type 0
IsTextIfSome None = Unit {0}
IsTextIfSome (Some text) = IsText text

-- values in units of 2^-24
abbrev pub AreFixes : List ℤ → Type 0
AreFixes zs = All IsFix zs

-- such values, where there are any
abbrev pub AreFixesIfSome : Option (List ℤ) → Type 0
AreFixesIfSome None = Unit {0}
AreFixesIfSome (Some zs) = AreFixes zs

-- the number of an instruction is in units of 2^-24, or one of 31 bits
abbrev pub IsInstr : Instr → Type 0
IsInstr (instr.Push v) = IsFix v
IsInstr (instr.Load k) = k ≤ 2147483647
IsInstr (instr.Store k) = k ≤ 2147483647
IsInstr (instr.Div d) = d ≤ 2147483647
IsInstr (instr.Skip k) = k ≤ 2147483647
IsInstr (instr.Skipz k) = k ≤ 2147483647
IsInstr _ = Unit {0}

-- a letter, a digit, `_` or `-`
abbrev pub is_name_byte : ℕ → Bool
is_name_byte c = is_ascii_alphanumeric c || c == 95 || c == 45

-- 1 to 64 bytes
abbrev pub has_name_length : List ℕ → Bool
has_name_length name = nat_le 1 (length name) && nat_le (length name) 64

-- no byte that a name may not have
abbrev pub has_name_bytes : List ℕ → Bool
has_name_bytes name = list_all is_name_byte name

-- a name that an object may be given: 1 to 64 ASCII letters, digits, `_` or `-`, and not `destination`
unfoldable pub is_new_name : List ℕ → Bool
is_new_name name = has_name_length name && has_name_bytes name && not (bytes_eq name (codes "destination"))

-- an object may be given the name
abbrev pub IsNewName : List ℕ → Type 0
IsNewName name = IsTrue (is_new_name name)

-- 1 to 255 bytes
abbrev pub is_path : List ℕ → Bool
is_path path = nat_le 1 (length path) && nat_le (length path) 255

-- a path has 1 to 255 bytes
abbrev pub IsPath : List ℕ → Type 0
IsPath path = (1 ≤ length path) × (length path ≤ 255)

-- a disconnect has none of these three, or its output, or `to`, or `to` and the output, or all three: an input stands beside the others
abbrev pub IsDisconnectForm : Option ℕ → Option (List ℕ) → Option ℕ → Type 0
IsDisconnectForm output to None = Unit {0}
IsDisconnectForm output to (Some input) = IsSome output × IsSome to
