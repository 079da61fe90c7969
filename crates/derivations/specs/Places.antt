-- Where facts stand, by the numbers of their keys.
use Rattle.std.specs.Prelude.{ℕ, ◌≡◌, ◌==◌, ◌&&◌, Bool, List, Some, IsSome, slice_get}
use Rattle.std.specs.Bool.{beq}
use Rattle.std.specs.HashMap.{HashMap, get}
use Rattle.explain.specs.declared.facts.Fact.{Fact}
use Rattle.derivations.specs.declared.known.Name.{Name}
use Rattle.derivations.specs.Names.{name_of}

-- whether all numbers agree
abbrev pub same_name : Name → Name → Bool
same_name a b = a.form == b.form && (a.moment == b.moment && (a.node == b.node && (beq a.writer b.writer && (a.port == b.port && a.channel == b.channel))))

-- a fact stands at a place, and its key has these numbers
pub record IsAt (facts : List Fact) (name : Name) (place : ℕ) : Type 0 where
  pub fact : Fact
  pub there : slice_get facts place ≡ Some fact
  pub named : name_of fact.key ≡ name

-- each place is that of a fact with its name, and each fact has a place by its name
pub record ArePlaces {S : Type 0} (facts : List Fact) (places : HashMap Name ℕ S) : Type 0 where
  pub right : (name : Name) (place : ℕ) → get same_name places name ≡ Some place → IsAt facts name place
  pub all : (i : ℕ) (x : Fact) → slice_get facts i ≡ Some x → IsSome (get same_name places (name_of x.key))
