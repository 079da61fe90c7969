-- What the texts of a command line stand for.
use Rattle.std.specs.Prelude.{ℕ, ◌==◌, ◌&&◌, Bool, not, [], length, nat_le, bytes_eq, Option, Some, None, if◌then◌else◌, codes}
use Rattle.std.specs.Str.{all_ascii_digits}
use Rattle.std.specs.Str.Parse.{digits_value}
use Rattle.wa_base.specs.declared.graph_names.Tie.{Tie}
use Rattle.wa_base.specs.declared.graph_names.Tie.TheVariants.{Up, Down}
use Rattle.command_line.specs.Texts.{Text}
use Rattle.command_line.specs.declared.reading.Mode.{Mode}
use Rattle.command_line.specs.declared.reading.Mode.TheVariants.{Render, Check, Migrate}

-- the bits of a sample
abbrev pub bits_in : Text → Option ℕ
bits_in text = if bytes_eq text (codes "16") then Some 16 else if bytes_eq text (codes "24") then Some 24 else None

-- which of two nodes goes first
abbrev pub order_in : Text → Option Tie
order_in text = if bytes_eq text (codes "up") then Some Up else if bytes_eq text (codes "down") then Some Down else None

-- what is done with the script
abbrev pub mode_in : Text → Option Mode
mode_in text = if bytes_eq text (codes "render") then Some Render else if bytes_eq text (codes "check") then Some Check else if bytes_eq text (codes "migrate") then Some Migrate else None

-- whether a text is 1 to 4 decimal digits
abbrev pub is_number : Text → Bool
is_number text = not (length text == 0) && nat_le (length text) 4 && all_ascii_digits text

-- the number of a script that is generated; it may begin with zeros
abbrev pub number_in : Text → Option ℕ
number_in text = if is_number text then Some (digits_value 10 text) else None

-- whether a text names OUT: it is not empty, and not `-`
abbrev pub is_out : Text → Bool
is_out text = not (bytes_eq text []) && not (bytes_eq text (codes "-"))

abbrev pub out_in : Text → Option Text
out_in text = if is_out text then Some text else None

-- what an option asks for: its default where it is not given, and else what its text stands for
abbrev pub value_or : {A : Type 0} → (Text → Option A) → A → Option Text → Option A
value_or value_in default None = Some default
value_or value_in default (Some text) = value_in text
