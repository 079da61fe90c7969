-- What a filter remembers of a channel: the newest inputs and outputs.
use Rattle.std.specs.Prelude.{ℕ, zero, suc, ◌≡◌, ◌+◌, ◌<◌, ℤ, pos, List, ◌∷◌, take, replicate}
use Rattle.node_table.specs.Filters.{next_output, filtered}
use Rattle.node_table.specs.Frames.{item}
use Rattle.shaper_iir.specs.declared.histories.History.{History}

-- 20 items that are the newest ones of a list, where an item that is not there is 0
abbrev pub Recalls : List ℤ → List ℤ → Type 0
Recalls kept all = (i : ℕ) → i < 20 → item kept i ≡ item all i

-- the newest inputs and outputs of a filter that has heard these frames
pub record StandsFor (forward back : List ℤ) (history : History) (frames : List ℤ) : Type 0 where
  pub inputs : Recalls history.inputs frames
  pub outputs : Recalls history.outputs (filtered forward back frames)

-- the history of a channel that has heard nothing but 0
abbrev pub silent : History
silent = record { inputs = replicate 20 (pos 0); outputs = replicate 20 (pos 0) }

-- one more item in front of the newest ones
abbrev pub in_front : ℤ → List ℤ → List ℤ
in_front x kept = x ∷ take 19 kept

-- a history with one more output
abbrev pub with_next : (forward back inputs outputs : List ℤ) → History
with_next forward back inputs outputs = record { inputs = inputs; outputs = in_front (next_output forward back inputs outputs) outputs }

-- the history after one more frame
abbrev pub next_history : (forward back : List ℤ) → History → ℤ → History
next_history forward back history x = with_next forward back (in_front x history.inputs) history.outputs

-- the history after so many more items of a block from a place on
abbrev pub after : (forward back : List ℤ) → History → List ℤ → ℕ → ℕ → History
after forward back history block start zero = history
after forward back history block start (suc n) = next_history forward back (after forward back history block start n) (item block (start + n))
