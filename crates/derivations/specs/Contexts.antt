-- What is said of a search, by what it looks into.
use Rattle.std.specs.Prelude.{ℕ, ◌<◌, ◌/◌, List, length}
use Rattle.meaning.specs.declared.world.World.{World}
use Rattle.meaning.specs.Values.{world_at}
use Rattle.explain.specs.declared.facts.Key.{Key}
use Rattle.explain.specs.Accounts.{Account}
use Rattle.explain.specs.Checked.{Stands}
use Rattle.derivations.specs.declared.places.Context.{Context}
use Rattle.derivations.specs.declared.places.Place.{Place}
use Rattle.derivations.specs.Searches as needs
use Rattle.derivations.specs.Tapes.{worlds}

abbrev pub tape_in : Context → List World
tape_in x = worlds x.tape.now

-- the world of a frame
abbrev pub world_of : Context → ℕ → World
world_of x f = world_at x.quantum (tape_in x) f

-- a key stands in a known fact
abbrev pub StandsIn : Context → Key → Type 0
StandsIn x key = Stands key x.known.now

abbrev pub IsReady : Context → Type 0
IsReady x = needs.IsReady x.quantum (tape_in x) x.known.now

-- a frame of the tape
abbrev pub HasFrame : Context → ℕ → Type 0
HasFrame x f = f / x.quantum < length (tape_in x)

-- keys by the size of a quantum, the tape and an account
abbrev pub Keys : Type 0
Keys = ℕ → List World → Account → List Key

abbrev pub Groups : Type 0
Groups = ℕ → List World → Account → ℕ → List Key

abbrev pub AreKnown : Context → Keys → Type 0
AreKnown x keys = needs.AreKnown x.quantum (tape_in x) x.known.now (keys x.quantum (tape_in x))

abbrev pub IsMissing : Context → Keys → Key → Type 0
IsMissing x keys k = needs.IsMissing x.quantum (tape_in x) x.known.now (keys x.quantum (tape_in x)) k

abbrev pub AreAllKnown : Context → Groups → Type 0
AreAllKnown x groups = needs.AreAllKnown x.quantum (tape_in x) x.known.now (groups x.quantum (tape_in x))

abbrev pub IsMissingIn : Context → Groups → Key → Type 0
IsMissingIn x groups k = needs.IsMissingIn x.quantum (tape_in x) x.known.now (groups x.quantum (tape_in x)) k

abbrev pub IsPast : Context → Groups → Place → Type 0
IsPast x groups place = needs.IsPast x.quantum (tape_in x) x.known.now (groups x.quantum (tape_in x)) place
