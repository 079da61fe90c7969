-- The equation of an IIR filter (IIRFilterNode).
use Rattle.std.specs.Prelude.{suc, ◌≡◌, ◌≤◌, nat_le, ℤ, pos, negsuc, neg_ℤ, ◌+ℤ◌, ◌-ℤ◌, ◌*ℤ◌, Bool, true, false, ◌&&◌, not, if◌then◌else◌, List, [], ◌∷◌, length, drop, Option, Some, None}
use Rattle.std.specs.List.{list_all}
use Rattle.wa_base.specs.Numbers.{rnd, sat}
use Rattle.wa_base.specs.declared.exceptions.Exc.{Exc}
use Rattle.wa_base.specs.declared.exceptions.Exc.TheVariants.{NotSupported, InvalidState}
use Rattle.node_table.specs.Frames.{item, newest}

-- the sum of each coefficient times the item at its place, where an item that is not there is 0
abbrev pub dot : List ℤ → List ℤ → ℤ
dot [] items = pos 0
dot (c ∷ cs) [] = pos 0
dot (c ∷ cs) (x ∷ xs) = c *ℤ x +ℤ dot cs xs

-- a sum over feedback[0], rounded once and saturated; where feedback[0] is negative, both are negated first
abbrev pub quotient : ℤ → ℤ → ℤ
quotient sum (pos d) = sat (rnd sum (pos d))
quotient sum (negsuc d) = sat (rnd (neg_ℤ sum) (pos (suc d)))

-- the next output, from the inputs with this frame's in front and from the outputs before
abbrev pub next_output : (forward back inputs outputs : List ℤ) → ℤ
next_output forward back inputs outputs = quotient (dot forward inputs -ℤ dot (drop 1 back) outputs) (item back 0)

-- an output in front of those before
abbrev pub with_output : (forward back inputs outputs : List ℤ) → List ℤ
with_output forward back inputs outputs = next_output forward back inputs outputs ∷ outputs

-- all outputs since birth, the newest first, for feedforward and feedback coefficients and the frames heard; what is saturated is fed back
abbrev pub filtered : (forward back frames : List ℤ) → List ℤ
filtered forward back [] = []
filtered forward back (x ∷ xs) = with_output forward back (x ∷ xs) (filtered forward back xs)

-- the output of a filter after the frames heard
abbrev pub filter_value : (forward back frames : List ℤ) → ℤ
filter_value forward back frames = newest (filtered forward back frames)

-- ---- what coefficients a filter can have

-- 1 to 20 coefficients
abbrev pub is_order : List ℤ → Bool
is_order coefficients = nat_le 1 (length coefficients) && nat_le (length coefficients) 20

abbrev pub is_zero : ℤ → Bool
is_zero (pos n) = nat_le n 0
is_zero (negsuc n) = false

abbrev pub all_zero : List ℤ → Bool
all_zero items = list_all is_zero items

-- why a filter is refused: the number of its coefficients, feedforward coefficients that are all 0, or feedback[0] that is 0
abbrev pub filter_refusal : List ℤ → List ℤ → Option Exc
filter_refusal forward back =
    if not (is_order forward && is_order back) then Some (NotSupported None)
    else if all_zero forward then Some InvalidState
    else if is_zero (item back 0) then Some InvalidState
    else None

-- coefficients of a filter
pub record IsFilter (forward back : List ℤ) : Type 0 where
  pub forward_some : 1 ≤ length forward
  pub forward_most : length forward ≤ 20
  pub back_some : 1 ≤ length back
  pub back_most : length back ≤ 20
  pub divisor : is_zero (item back 0) ≡ false

-- where all frames heard were 0, so is the output
abbrev pub SilenceLaw : Type 0
SilenceLaw = (forward back frames : List ℤ) → all_zero frames ≡ true → filter_value forward back frames ≡ pos 0
