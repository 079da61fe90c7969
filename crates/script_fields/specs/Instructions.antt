-- The instructions of a processor's program, as texts.
use Rattle.std.specs.Prelude.{ℕ, ◌==◌, ◌&&◌, List, [], ◌∷◌, length, drop, find, map, nat_le, int_le, codes, bytes_eq, Bool, true, false, is_some, Option, Some, None, option_map, option_and_then, Result, Ok, Err, ℤ, pos, neg_ℤ, if◌then◌else◌}
use Rattle.std.specs.List.{list_all, position, before_first, after_first}
use Rattle.std.specs.Str.{all_ascii_digits}
use Rattle.std.specs.Str.Parse.{digits_value, signed_digits_value, starts_with_minus}
use Rattle.serde_json.specs.Data.{Data, Items, no_items, item}
use Rattle.serde_json.specs.Find.{as_str}
use Rattle.node_table.specs.declared.code.Instr.{Instr}
use Rattle.node_table.specs.declared.code.Instr.TheVariants as instr
use Rattle.script_ast.specs.Words.{instr_word}
use Rattle.script_fields.specs.declared.values.Cause.{Cause}
use Rattle.script_fields.specs.declared.values.Cause.TheVariants.{WrongKind, OutOfRange}

-- one decimal digit or more, and nothing else; the first ones may be zeros
abbrev pub is_number : List ℕ → Bool
is_number text = nat_le 1 (length text) && all_ascii_digits text

-- the number of a text without a sign
abbrev pub number_of : List ℕ → Option ℕ
number_of text = if is_number text then Some (digits_value 10 text) else None

-- a text without the `-` that it begins with
abbrev pub without_minus : List ℕ → List ℕ
without_minus text = if starts_with_minus text then drop 1 text else text

-- the number of a text that may begin with `-`
abbrev pub signed_number_of : List ℕ → Option ℤ
signed_number_of text = if is_number (without_minus text) then Some (signed_digits_value 10 text) else None

-- the instructions that have no number
abbrev pub plain_instrs : List Instr
plain_instrs =
    instr.Input ∷ instr.Add ∷ instr.Sub ∷ instr.Min ∷ instr.Max ∷ instr.Mul ∷ instr.Neg
    ∷ instr.Dup ∷ instr.Swap ∷ instr.Discard ∷ []

-- the first of these instructions with this word
abbrev pub first_instr : List ℕ → List Instr → Option Instr
first_instr word listed = find (λ i. bytes_eq (instr_word i) word) listed

-- the instruction that is a word alone
unfoldable pub plain_instr_of : List ℕ → Option Instr
plain_instr_of word = first_instr word plain_instrs

-- the instruction of a word and a number, which may be out of its range
abbrev pub numbered_instr_of : List ℕ → List ℕ → Option Instr
numbered_instr_of word number =
    if bytes_eq word (codes "push") then option_map instr.Push (signed_number_of number) else
    if bytes_eq word (codes "load") then option_map instr.Load (number_of number) else
    if bytes_eq word (codes "store") then option_map instr.Store (number_of number) else
    if bytes_eq word (codes "div") then option_map instr.Div (number_of number) else
    if bytes_eq word (codes "skip") then option_map instr.Skip (number_of number) else
    if bytes_eq word (codes "skipz") then option_map instr.Skipz (number_of number) else
    None

-- a space
abbrev pub is_space : ℕ → Bool
is_space c = c == 32

-- the instruction that a text is: a word, or a word, one space and a number, which may be out of its range
unfoldable pub instr_of : List ℕ → Option Instr
instr_of text = if is_some (position is_space text)
    then numbered_instr_of (before_first is_space text) (after_first is_space text)
    else plain_instr_of text

-- the number of an instruction is in its range: of `push` a value in units of 2^-24, of the others 31 bits
abbrev pub is_in_range : Instr → Bool
is_in_range (instr.Push v) = int_le (neg_ℤ (pos 2147483648)) v && int_le v (pos 2147483647)
is_in_range (instr.Load k) = nat_le k 2147483647
is_in_range (instr.Store k) = nat_le k 2147483647
is_in_range (instr.Div d) = nat_le d 2147483647
is_in_range (instr.Skip k) = nat_le k 2147483647
is_in_range (instr.Skipz k) = nat_le k 2147483647
is_in_range other = true

-- the number of a text without a sign in its range, or why there is none
abbrev pub number_read : Option ℕ → Result ℕ Cause
number_read None = Err WrongKind
number_read (Some n) = if nat_le n 2147483647 then Ok n else Err OutOfRange

-- the value of a text, in units of 2^-24, or why there is none
abbrev pub fix_read : Option ℤ → Result ℤ Cause
fix_read None = Err WrongKind
fix_read (Some z) = if int_le (neg_ℤ (pos 2147483648)) z && int_le z (pos 2147483647) then Ok z else Err OutOfRange

-- an instruction in its range, or why there is none
abbrev pub instr_read : Option Instr → Result Instr Cause
instr_read None = Err WrongKind
instr_read (Some i) = if is_in_range i then Ok i else Err OutOfRange

-- the items of an array, each as the instruction that it is
abbrev pub instrs : Items → List (Option Instr)
instrs no_items = []
instrs (item d ds) = option_and_then instr_of (as_str d) ∷ instrs ds

-- there is an instruction, in its range
abbrev pub is_instr : Option Instr → Bool
is_instr None = false
is_instr (Some i) = is_in_range i

-- an array of instructions that are all in their ranges; an item that is no instruction is told before a number that is out of range, wherever they stand
abbrev pub code_cause : Option (List (Option Instr)) → Option Cause
code_cause None = Some WrongKind
code_cause (Some read) = if list_all is_some read then (if list_all is_instr read then None else Some OutOfRange) else Some WrongKind

-- an instruction in its range; where there is none an `in` stands, and nothing rests on it
abbrev pub instr_or_in : Option Instr → Instr
instr_or_in None = instr.Input
instr_or_in (Some i) = if is_in_range i then i else instr.Input

-- the program that an array is
unfoldable pub code_of : Items → List Instr
code_of ds = map instr_or_in (instrs ds)
