-- What is given where an equation is worked out.
use Rattle.std.specs.Prelude.{ℕ, ◌*◌, ◌≤◌, ◌^◌, List, length}
use Rattle.meaning.specs.Values.{Frame}
use Rattle.explain.specs.declared.facts.Key.{Key}
use Rattle.explain.specs.Accounts.{Account, meant, frame_in, frames_in}
use Rattle.derivations.specs.declared.places.Context.{Context}
use Rattle.derivations.specs.Contexts.{tape_in, IsReady}
use Rattle.derivations.specs.Searches.{AllStand}

-- a tape of at most 2^62 frames
abbrev pub IsShort : Context → Type 0
IsShort x = x.quantum * length (tape_in x) ≤ 2 ^ 62

-- Checked facts over a regular tape that is short.
pub record IsGiven (x : Context) : Type 0 where
  pub ready : IsReady x
  pub short : IsShort x

-- what the meaning has of the tape; checked facts hold in it
abbrev pub meaning_of : Context → Account
meaning_of x = meant x.quantum (tape_in x)

-- each of these keys stands in a known fact
abbrev pub AllKnown : Context → List Key → Type 0
AllKnown x keys = AllStand keys x.known.now

-- a frame as the meaning has it, and the frames before it
abbrev pub frame_of : Context → ℕ → Frame
frame_of x f = frame_in x.quantum (tape_in x) (meaning_of x) f

abbrev pub frames_before : Context → ℕ → ℕ → Frame
frames_before x f = frames_in x.quantum (tape_in x) (meaning_of x) f
