-- The words of a command line, and what they ask for.
use Rattle.std.specs.Prelude.{ℕ, ◌==◌, ◌&&◌, List, [], ◌∷◌, Bool, not, length, nat_le, bytes_eq, Option, Some, None, option_map, option_and_then, if◌then◌else◌, codes}
use Rattle.std.specs.Str.{all_ascii_digits}
use Rattle.std.specs.Str.Parse.{digits_value}
use Rattle.explain_top.specs.declared.words.Request.{Request as Asked}
use Rattle.explain_top.specs.declared.words.Request.TheVariants as asked

-- a text is its bytes
abbrev pub Text : Type 0
Text = List ℕ

-- the answer to words without a reading
abbrev pub usage : Text
usage = codes "words: waexplain derive FRAME CHANNEL OUT | check IN\n"

-- a derivation of the sample of a channel at a frame, into the file OUT; or whether the text of the file IN is one
pub data Request : Type 0 where
  Derive : (frame channel : ℕ) (out : Text) → Request
  Check : (text : Text) → Request

-- the request whose texts the code has references to
abbrev pub shown : Asked → Request
shown (asked.Derive frame channel out) = Derive frame channel out.now
shown (asked.Check text) = Check text.now

-- whether a text is 1 to 10 decimal digits
abbrev pub is_number : Text → Bool
is_number text = not (length text == 0) && nat_le (length text) 10 && all_ascii_digits text

-- the number of a frame or of a channel; it may begin with zeros
abbrev pub number_in : Text → Option ℕ
number_in text = if is_number text then Some (digits_value 10 text) else None

abbrev pub derive_of : Text → Text → Text → Option Request
derive_of frame channel out = option_and_then (λ frame. option_map (λ channel. Derive frame channel out) (number_in channel)) (number_in frame)

-- what words ask for: `derive FRAME CHANNEL OUT`, or `check IN`; other words have no reading
abbrev pub request_of : List Text → Option Request
request_of (command ∷ text ∷ []) = if bytes_eq command (codes "check") then Some (Check text) else None
request_of (command ∷ frame ∷ channel ∷ out ∷ []) = if bytes_eq command (codes "derive") then derive_of frame channel out else None
request_of words = None
