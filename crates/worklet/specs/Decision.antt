-- Whether a program is accepted, tried place by place.
use Rattle.std.specs.Prelude.{ℕ, zero, suc, ◌+◌, ◌-◌, ◌==◌, ◌↔◌, nat_le, Bool, true, false, not, ◌&&◌, ◌||◌, if◌then◌else◌, IsTrue, List, [], ◌∷◌, ◌++◌, length, slice_index}
use Rattle.node_table.specs.declared.code.Instr.{Instr}
use Rattle.node_table.specs.declared.code.Instr.TheVariants.{Load, Store, Div, Skip, Skipz}
use Rattle.node_table.specs.Accepted.{IsAccepted}
use Rattle.node_table.specs.Instructions.{pops, instr_at, left}

-- a test holds at each number below n
abbrev pub each_below : (ℕ → Bool) → ℕ → Bool
each_below test zero = true
each_below test (suc n) = each_below test n && test n

-- a test holds at some number below n
abbrev pub some_below : (ℕ → Bool) → ℕ → Bool
some_below test zero = false
some_below test (suc n) = some_below test n || test n

-- `skip k` passes over k of the instructions that follow, `skipz k` over k or none, and any other over none
abbrev pub may_pass : Instr → ℕ → Bool
may_pass (Skip k) n = n == k
may_pass (Skipz k) n = n == 0 || n == k
may_pass _ n = n == 0

-- the most that it may pass over
abbrev pub most_passed : Instr → ℕ
most_passed (Skip k) = k
most_passed (Skipz k) = k
most_passed _ = 0

-- the cells that it names are among the 16 that there are
abbrev pub has_cell : Instr → Bool
has_cell (Load k) = nat_le (k + 1) 16
has_cell (Store k) = nat_le (k + 1) 16
has_cell _ = true

-- it divides by at least 1
abbrev pub has_divisor : Instr → Bool
has_divisor (Div d) = nat_le 1 d
has_divisor _ = true

-- an earlier place i goes on at place j
abbrev pub goes_on : List Instr → (j i : ℕ) → Bool
goes_on code j i = may_pass (instr_at code i) (j - i - 1)

-- the height of place j, as the nearest place below n leaves it that goes on there; and 0 where none does
abbrev pub arrival : List Instr → List ℕ → (j n : ℕ) → ℕ
arrival code heights j zero = 0
arrival code heights j (suc n) = if goes_on code j n then left code heights n else arrival code heights j n

-- the heights of the places before place j, and its own
abbrev pub with_height : List Instr → List ℕ → ℕ → List ℕ
with_height code heights j = heights ++ arrival code heights j j ∷ []

-- the heights of place 0, where it is 0, and of so many places after it
abbrev pub heights_of : List Instr → ℕ → List ℕ
heights_of code zero = 0 ∷ []
heights_of code (suc n) = with_height code (heights_of code n) (suc n)

-- the instruction at place i may stand there: it has its cell and its divisor, it passes over none past the end, and the height is enough for it and stays at most 32
abbrev pub is_placed : List Instr → List ℕ → ℕ → Bool
is_placed code heights i =
    has_cell (instr_at code i) && has_divisor (instr_at code i) && nat_le (i + 1 + most_passed (instr_at code i)) (length code)
    && nat_le (pops (instr_at code i)) (slice_index heights i) && nat_le (left code heights i) 32

-- some earlier place goes on at place j, and each that does leaves the height that place j has
abbrev pub is_met : List Instr → List ℕ → ℕ → Bool
is_met code heights j =
    some_below (goes_on code j) j && each_below (λ i. not (goes_on code j i) || (left code heights i == slice_index heights j)) j

-- these heights fit: all instructions may stand where they are, all later places and the end are met, and the end has one value
abbrev pub do_fit : List Instr → List ℕ → Bool
do_fit code heights =
    each_below (is_placed code heights) (length code) && each_below (λ i. is_met code heights (suc i)) (length code)
    && (slice_index heights (length code) == 1)

-- it has 1 to 256 instructions, and the heights that its places leave one another fit
abbrev pub is_accepted : List Instr → Bool
is_accepted code = nat_le 1 (length code) && nat_le (length code) 256 && do_fit code (heights_of code (length code))

-- the trial accepts just the programs that are accepted
abbrev pub AcceptedLaw : Type 0
AcceptedLaw = (code : List Instr) → IsTrue (is_accepted code) ↔ IsAccepted code
