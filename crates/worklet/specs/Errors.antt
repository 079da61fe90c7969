-- Why a program is not accepted, by the first place that has an error.
use Rattle.std.specs.Prelude.{ℕ, ◌+◌, ◌-◌, ◌<◌, ◌≤◌, ◌≡◌, ◌≢◌, List, length, slice_index}
use Rattle.node_table.specs.declared.code.Instr.{Instr}
use Rattle.worklet.specs.declared.errors.ProgErr.{ProgErr}
use Rattle.worklet.specs.declared.errors.ProgErr.TheVariants.{BadLength, Unreached, Uneven, BadCell, BadDivisor, BadJump, Underflow, TooDeep, BadEnd, NoMemory}
use Rattle.node_table.specs.Accepted.{IsAccepted}
use Rattle.node_table.specs.Instructions.{pops, pushes, HasCell, HasDivisor, instr_at, GoesOn, IsReached, left}

-- a program has 1 to 256 instructions
pub record IsLong (code : List Instr) : Type 0 where
  pub some : 1 ≤ length code
  pub most : length code ≤ 256

-- two earlier places that may go on at this one leave different heights
abbrev pub IsUneven : (code : List Instr) (heights : List ℕ) (place : ℕ) → Type 0
IsUneven code heights place =
    (i : ℕ) × (j : ℕ) × (i < place) × (j < place) × GoesOn code i place × GoesOn code j place × (left code heights i ≢ left code heights j)

-- the height of a place, by the heights of the places before it: 0 at place 0, and elsewhere what each earlier place leaves that may go on there
pub record HasHeight (code : List Instr) (heights : List ℕ) (place height : ℕ) : Type 0 where
  pub start : place ≡ 0 → height ≡ 0
  pub reached : 0 < place → IsReached code place
  pub even : (i : ℕ) → i < place → GoesOn code i place → left code heights i ≡ height

-- a place may go on only at places of the code or at its end
abbrev pub StaysInside : List Instr → ℕ → Type 0
StaysInside code place = (j : ℕ) → GoesOn code place j → j ≤ length code

-- the instruction at a place may stand there, where the place has this height
pub record IsFine (code : List Instr) (place height : ℕ) : Type 0 where
  pub cell : HasCell (instr_at code place)
  pub divisor : HasDivisor (instr_at code place)
  pub inside : StaysInside code place
  pub enough : pops (instr_at code place) ≤ height
  pub low : height - pops (instr_at code place) + pushes (instr_at code place) ≤ 32

-- no place before this one has an error, and these are their heights
pub record AreFine (code : List Instr) (heights : List ℕ) (place : ℕ) : Type 0 where
  pub count : length heights ≡ place
  pub height : (i : ℕ) → i < place → HasHeight code heights i (slice_index heights i)
  pub fine : (i : ℕ) → i < place → IsFine code i (slice_index heights i)

-- of the places from 0 on this is the first that has an error, a fault that the heights before it show
pub record FailsAt (code : List Instr) (place : ℕ) (Fault : List ℕ → Type 0) : Type 0 where
  pub long : IsLong code
  pub there : place ≤ length code
  pub heights : List ℕ
  pub before : AreFine code heights place
  pub fault : Fault heights

-- the same for a place below the end that has a height, and a fault that its height shows
abbrev pub FailsBy : (code : List Instr) (place : ℕ) (Fault : ℕ → Type 0) → Type 0
FailsBy code place Fault = (place < length code) × FailsAt code place (λ heights. (height : ℕ) × HasHeight code heights place height × Fault height)

-- the instruction there is fine but for what it does to the height
pub record IsPlaced (code : List Instr) (place : ℕ) : Type 0 where
  pub cell : HasCell (instr_at code place)
  pub divisor : HasDivisor (instr_at code place)
  pub inside : StaysInside code place

-- why a program is not accepted; want of memory is no such reason
abbrev pub IsError : List Instr → ProgErr → Type 0
IsError code (BadLength n) = (n ≡ length code) × (IsLong code → ⊥)
IsError code (Unreached place) = FailsAt code place (λ heights. (0 < place) × (IsReached code place → ⊥))
IsError code (Uneven place) = FailsAt code place (λ heights. IsUneven code heights place)
IsError code (BadCell place) = FailsBy code place (λ height. HasCell (instr_at code place) → ⊥)
IsError code (BadDivisor place) = FailsBy code place (λ height. HasCell (instr_at code place) × (HasDivisor (instr_at code place) → ⊥))
IsError code (BadJump place) = FailsBy code place (λ height. HasCell (instr_at code place) × HasDivisor (instr_at code place) × (StaysInside code place → ⊥))
IsError code (Underflow place) = FailsBy code place (λ height. IsPlaced code place × (height < pops (instr_at code place)))
IsError code (TooDeep place) = FailsBy code place (λ height. IsPlaced code place × (pops (instr_at code place) ≤ height) × (32 < height - pops (instr_at code place) + pushes (instr_at code place)))
IsError code (BadEnd height) = FailsAt code (length code) (λ heights. HasHeight code heights (length code) height × (height ≢ 1))
IsError code NoMemory = ⊥

-- a program with an error is not accepted
abbrev pub ErrorLaw : Type 0
ErrorLaw = (code : List Instr) (error : ProgErr) → IsError code error → IsAccepted code → ⊥

-- a program has one error alone
abbrev pub OneErrorLaw : Type 0
OneErrorLaw = (code : List Instr) (error other : ProgErr) → IsError code error → IsError code other → error ≡ other
