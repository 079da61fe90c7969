-- What a node reads of the frames before, the newest first.
use Rattle.std.specs.Prelude.{ℕ, ◌-◌, ◌+◌, ◌<◌, ◌≡◌, Bool, true, false, ℤ, List, map, length}
use Rattle.std.specs.List.{range_with_len}
use Rattle.explain.specs.Accounts.{value_in, heard_in}
use Rattle.explain.specs.Facts.{has_history}
use Rattle.explain.specs.Needs.{heard_needs, history_needs}
use Rattle.explain.specs.declared.facts.Key.{Key}
use Rattle.explain.specs.declared.facts.Key.TheVariants.{Hist}
use Rattle.meaning.specs.Values.{taken_in}
use Rattle.meaning.specs.World.{node_at, kind_of}
use Rattle.derivations.specs.declared.places.Context.{Context}
use Rattle.derivations.specs.Contexts.{tape_in, world_of, HasFrame}
use Rattle.equations.specs.declared.histories.Heard.{Heard}
use Rattle.equations.specs.Given.{meaning_of, AllKnown, frame_of}

-- what a node took in on a channel at a frame
abbrev pub taken_at : Context → Heard → ℕ → ℤ
taken_at x heard g = taken_in (frame_of x g) heard.node.0 heard.channel

-- what came of it there
abbrev pub result_at : Context → Heard → ℕ → ℤ
result_at x heard g = value_in x.quantum (tape_in x) (meaning_of x) (Hist g heard.node heard.channel)

-- all that it took in up to the frame
abbrev pub all_heard : Context → Heard → List ℤ
all_heard x heard = heard_in x.quantum (tape_in x) (meaning_of x) heard.frame heard.node.0 heard.channel

-- so many values, of the frame so many frames ago and of those before it
abbrev pub back_from : (ℕ → ℤ) → ℕ → ℕ → ℕ → List ℤ
back_from at f first count = map (λ ago. at (f - ago)) (range_with_len first count)

-- the same channel so many frames before
abbrev pub heard_ago : Heard → ℕ → Heard
heard_ago heard ago = record heard { frame = heard.frame - ago }

-- a node with a history at a frame
pub record HasPast (x : Context) (heard : Heard) : Type 0 where
  pub there : HasFrame x heard.frame
  pub node : heard.node.0 < length (world_of x heard.frame).nodes
  pub history : has_history (kind_of (world_of x heard.frame) heard.node.0) ≡ true

-- what it took in there is known
pub record IsHeard (x : Context) (heard : Heard) : Type 0 where
  pub past : HasPast x heard
  pub known : AllKnown x (heard_needs x.quantum (tape_in x) (meaning_of x) heard.frame heard.node.0 heard.channel)

-- it was born so many frames before, and all that its history needs is known
pub record IsRecalled (x : Context) (heard : Heard) (age : ℕ) : Type 0 where
  pub past : HasPast x heard
  pub born : heard.frame ≡ (node_at (world_of x heard.frame) heard.node.0).attrs.birth + age
  pub known : AllKnown x (history_needs x.quantum (tape_in x) (meaning_of x) heard.frame heard.node.0 heard.channel)

-- a key of what came of a history
abbrev pub is_history : Key → Bool
is_history (Hist f node c) = true
is_history other = false
