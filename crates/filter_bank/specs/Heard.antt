-- What a causal node has heard.
use Rattle.std.specs.Prelude.{ℕ, ℤ, pos, ◌≡◌, ◌<◌, ◌≤◌, ◌+◌, ◌-◌, ◌*◌, List, Option, None, Some}
use Rattle.node_table.specs.declared.equation.Equation.{Equation}
use Rattle.node_table.specs.Equations.{equation_value}
use Rattle.node_table.specs.Frames.{item}
use Rattle.filter_bank.specs.declared.state.State.{State}
use Rattle.filter_bank.specs.States.{stands, equation_of, room, first_state}
use Rattle.node_table.specs.declared.kinds.Kind.{Kind}
use Rattle.node_table.specs.declared.kinds.Kind.TheVariants.{Causal}
use Rattle.meaning.specs.Lists.{since}

-- What contracts see of a causal node: when the node was born, before which frame it has heard its input, and its state.
pub record HeardView : Type 0 where
  pub birth : ℕ
  pub time : ℕ
  pub state : State

-- what holds of every one
pub record IsLived (born now : ℕ) (state : State) : Type 0 where
  pub lived : born ≤ now
  pub few : room state ≤ 32

-- for so many channels there is room
abbrev pub room_of : HeardView → ℕ
room_of f = room f.state

-- of each channel it has heard the frames from its birth up to its time, where at has frame g of channel c
abbrev pub HasHeard : (ℕ → ℕ → ℤ) → HeardView → Type 0
HasHeard at f = (c : ℕ) → stands f.state c (since (λ g. at g c) f.birth (f.time - f.birth))

-- a block, channel after channel, has q frames from a frame on
abbrev pub Brings : ℕ → ℕ → List ℤ → (ℕ → ℕ → ℤ) → Type 0
Brings q time x at = (c k : ℕ) → k < q → at (time + k) c ≡ item x (c * q + k)

-- the outputs are those of an equation
abbrev pub HasOutputs : State → Equation → Type 0
HasOutputs state equation = (frames : List ℤ) → equation_value (equation_of state) frames ≡ equation_value equation frames

-- A causal node is there, and has heard its input before a frame.
pub record IsHeard (found : Option HeardView) (equation : Equation) (born now : ℕ) (at : ℕ → ℕ → ℤ) : Type 0 where
  pub causal : HeardView
  pub there : found ≡ Some causal
  pub outputs : HasOutputs causal.state equation
  pub birth : causal.birth ≡ born
  pub time : causal.time ≡ now
  pub heard : HasHeard at causal

-- nothing is to be heard in the quantum of q frames that begins at a frame
abbrev pub IsSilentFrom : ℕ → ℕ → (ℕ → ℕ → ℤ) → Type 0
IsSilentFrom q first at = (c k : ℕ) → k < q → at (first + k) c ≡ pos 0

-- A causal node hears a silent quantum, if it has heard its input before the first frame of it and no further; else it stays. Its room stays in any case.
pub record IsRested (q first : ℕ) (old new : HeardView) : Type 0 where
  pub room : room_of new ≡ room_of old
  pub heard : old.time ≡ first → (at : ℕ → ℕ → ℤ) → HasHeard at old → IsSilentFrom q first at → IsHeard (Some new) (equation_of old.state) old.birth (first + q) at
  pub kept : (old.time ≡ first → ⊥) → new ≡ old

-- a causal node that was made room for is as it was
pub record IsSame (old new : HeardView) : Type 0 where
  pub birth : new.birth ≡ old.birth
  pub time : new.time ≡ old.time
  pub outputs : HasOutputs new.state (equation_of old.state)
  pub stands_on : (c : ℕ) (xs : List ℤ) → stands old.state c xs → stands new.state c xs
  pub stood : (c : ℕ) (xs : List ℤ) → stands new.state c xs → stands old.state c xs

-- what a node remembers at its creation, if it is causal
abbrev pub first_heard : Kind → ℕ → Option HeardView
first_heard (Causal equation) birth = Some (record { birth = birth; time = birth; state = first_state equation })
first_heard other birth = None
