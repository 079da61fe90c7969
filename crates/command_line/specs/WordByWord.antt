-- The texts of a command line, read word by word. Nothing here is clap's.
use Rattle.std.specs.Prelude.{ℕ, ◌==◌, ◌&&◌, List, [], ◌∷◌, ◌++◌, Bool, true, false, not, Option, Some, None, option_map, option_and_then, if◌then◌else◌, bytes_eq, codes, find}
use Rattle.std.specs.List.{list_any, before_first, after_first}
use Rattle.command_line.specs.Texts.{Text, Given}

-- ---- a word, in which 45 is the byte `-` and 61 is `=`

-- whether a word begins with a dash, and is not `-` alone
abbrev pub is_dashed : Text → Bool
is_dashed [] = false
is_dashed (byte ∷ []) = false
is_dashed (byte ∷ second ∷ rest) = byte == 45

-- what stands behind a dash in front
abbrev pub behind_dash : Text → Option Text
behind_dash [] = None
behind_dash (byte ∷ rest) = if byte == 45 then Some rest else None

-- what stands before the first `=`, and what stands behind it, where there is one
abbrev pub name_and_text : Text → Text × Option Text
name_and_text option = (
  before_first (λ byte. byte == 61) option,
  if list_any (λ byte. byte == 61) option then Some (after_first (λ byte. byte == 61) option) else None,
)

abbrev pub some_option : Text → Option (Text × Option Text)
some_option [] = None
some_option (byte ∷ rest) = Some (name_and_text (byte ∷ rest))

-- the name of an option, `--name`, and its text where that is in the word, as `--name=text`; `--` is no option
abbrev pub option_in : Text → Option (Text × Option Text)
option_in word = option_and_then some_option (option_and_then behind_dash (behind_dash word))

-- ---- what texts are given to

-- an option, or OUT
pub data Part : Type 0 where
  bits : Part
  order : Part
  mode : Part
  generated : Part
  out : Part

abbrev pub place : Part → ℕ
place bits = 0
place order = 1
place mode = 2
place generated = 3
place out = 4

abbrev pub same : Part → Part → Bool
same a b = place a == place b

-- the option with this name
abbrev pub option_named : Text → Option Part
option_named name =
    if bytes_eq (codes "bits") name then Some bits
    else if bytes_eq (codes "order") name then Some order
    else if bytes_eq (codes "mode") name then Some mode
    else if bytes_eq (codes "gen") name then Some generated
    else None

-- texts, each with what it is given to, in the order of the words
abbrev pub Parts : Type 0
Parts = List (Part × Text)

-- ---- the words, one by one

-- what the next word may be
pub data Next : Type 0 where
  any : Next  -- an option, `--`, or OUT
  text : Part → Next  -- the text of this option
  last : Next  -- OUT, since `--` came

-- after an option: its text is in its word, or is the next word; an option with another name may not be there
abbrev pub after_option : Option Part → Option Text → Parts → Option (Next × Parts)
after_option None attached parts = None
after_option (Some part) None parts = Some (text part, parts)
after_option (Some part) (Some attached) parts = Some (any, parts ++ (part, attached) ∷ [])

-- after a word that is no option: it is given to OUT, unless it is dashed
abbrev pub after_word : Text → Parts → Option (Next × Parts)
after_word word parts = if is_dashed word then None else Some (any, parts ++ (out, word) ∷ [])

abbrev pub after_option_or_word : Text → Option (Text × Option Text) → Parts → Option (Next × Parts)
after_option_or_word word None parts = after_word word parts
after_option_or_word word (Some option) parts = after_option (option_named option.0) option.1 parts

-- what the next word may be, and the texts, after a word; or none, where the word may not be there
abbrev pub after : Text → Next → Parts → Option (Next × Parts)
after word any parts = if bytes_eq word (codes "--") then Some (last, parts) else after_option_or_word word (option_in word) parts
after word (text part) parts = if is_dashed word then None else Some (any, parts ++ (part, word) ∷ [])
after word last parts = Some (last, parts ++ (out, word) ∷ [])

-- the texts at the end of the words; none, where an option has no text
abbrev pub at_end : Next → Parts → Option Parts
at_end any parts = Some parts
at_end (text part) parts = None
at_end last parts = Some parts

-- the texts after all words
abbrev pub scanned : List Text → Next → Parts → Option Parts
scanned [] next parts = at_end next parts
scanned (word ∷ words) next parts = option_and_then (λ now. scanned words now.0 now.1) (after word next parts)

-- ---- the texts together

-- whether a text is given to this
abbrev pub has : Part → Parts → Bool
has part parts = list_any (λ given. same given.0 part) parts

-- whether nothing is given two texts
abbrev pub are_distinct : Parts → Bool
are_distinct [] = true
are_distinct (given ∷ parts) = not (has given.0 parts) && are_distinct parts

-- the text that is given to this
abbrev pub text_for : Part → Parts → Option Text
text_for part parts = option_map (λ given. given.1) (find (λ given. same given.0 part) parts)

-- the texts, where OUT is given one and nothing two
abbrev pub given_in : Parts → Option Given
given_in parts =
    if are_distinct parts && has out parts
    then Some (record {
      bits = text_for bits parts;
      order = text_for order parts;
      mode = text_for mode parts;
      generated = text_for generated parts;
      out = text_for out parts;
    })
    else None

-- the texts that words give, or none
abbrev pub texts_by_word : List Text → Option Given
texts_by_word words = option_and_then given_in (scanned words any [])
