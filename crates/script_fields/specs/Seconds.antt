-- Times that are texts of seconds.
use Rattle.std.specs.Prelude.{ℕ, ◌==◌, ◌^◌, ◌&&◌, ◌||◌, List, ◌++◌, length, drop, nat_le, Bool, not, is_some, Option, Some, None, option_map, ℤ, pos, neg_ℤ, ◌*ℤ◌, if◌then◌else◌}
use Rattle.std.specs.List.{position, before_first, after_first}
use Rattle.std.specs.Str.{all_ascii_digits}
use Rattle.std.specs.Str.Parse.{digits_value, starts_with_minus}
use Rattle.wa_base.specs.Numbers.{rnd}
use Rattle.script_fields.specs.declared.seconds.Decimal.{Decimal}

-- a point
abbrev pub is_point : ℕ → Bool
is_point c = c == 46

-- 1 to `most` decimal digits
abbrev pub are_digits : ℕ → List ℕ → Bool
are_digits most text = nat_le 1 (length text) && nat_le (length text) most && all_ascii_digits text

-- the text before its first point, and the whole text where there is none
abbrev pub whole_part : List ℕ → List ℕ
whole_part text = before_first is_point text

-- the text behind its first point, and nothing where there is none
abbrev pub fraction : List ℕ → List ℕ
fraction text = after_first is_point text

-- there is a point
abbrev pub has_point : List ℕ → Bool
has_point text = is_some (position is_point text)

-- a number without a sign: 1 to 10 digits, and a point and 1 to 9 digits, or no point
abbrev pub is_decimal : List ℕ → Bool
is_decimal text = are_digits 10 (whole_part text) && (not (has_point text) || are_digits 9 (fraction text))

-- such a number: what all its digits spell, and how many of them stand behind the point
abbrev pub decimal_of : List ℕ → Option Decimal
decimal_of text = if is_decimal text then Some (record { units = digits_value 10 (whole_part text ++ fraction text); places = length (fraction text) }) else None

-- the nearest number of frames, a half going up, of a number of seconds, by what its digits spell with its sign, and how many places it has; the rate is in frames a second
abbrev pub frames_at : ℕ → ℤ → ℕ → ℤ
frames_at rate units places = rnd (units *ℤ pos rate) (pos (10 ^ places))

-- the number of frames of a text of seconds: a number that may begin with `-`
unfoldable pub frames_of_seconds : ℕ → List ℕ → Option ℤ
frames_of_seconds rate text = if starts_with_minus text
    then option_map (λ d. frames_at rate (neg_ℤ (pos d.units)) d.places) (decimal_of (drop 1 text))
    else option_map (λ d. frames_at rate (pos d.units) d.places) (decimal_of text)
