-- What an equation gives in the meaning, it gives in each account in which the known facts hold.
use Rattle.std.proofs.Common.{ℕ, ℤ, ◌≡◌, List, refl, sym, ◌∙◌}
use Rattle.std.specs.Prelude.{is_some, Result, Ok, Err, IfOk}
use Rattle.wa_base.specs.declared.memory.NoMemory.{NoMemory}
use Rattle.node_table.specs.declared.equation.Equation.TheVariants.{Filter, Convolution, Processor}
use Rattle.node_table.specs.declared.kinds.Kind.{Kind}
use Rattle.node_table.specs.declared.kinds.Kind.TheVariants.{Causal}
use Rattle.meaning.specs.declared.world.World.{World}
use Rattle.meaning.specs.Counts.{world_in}
use Rattle.explain.specs.declared.facts.Key.{Key}
use Rattle.explain.specs.declared.facts.Key.TheVariants.{Count, Inlet, Par, Hist, Out}
use Rattle.explain.specs.declared.facts.Fact.{Fact}
use Rattle.explain.specs.Accounts.{Account, cells_of, cells_in, derived}
use Rattle.explain.specs.Facts.{is_processor, has_cells, quantum_of_key, IsKeyOf, IsFactOf}
use Rattle.explain.specs.Needs.{needs}
use Rattle.explain.specs.Checked.{AllHold}
use Rattle.explain.proofs.Soundness.{meaning_solves}
use Rattle.explain.proofs.Completeness.{follows}
use Rattle.derivations.specs.declared.places.Context.{Context}
use Rattle.derivations.specs.Contexts.{tape_in}
use Rattle.derivations.proofs.Knowing.{in_meaning}
use Rattle.equations.specs.Given.{IsGiven, meaning_of, AllKnown}

-- a processor leaves cells, and nothing else does
cells_there : (kind : Kind) (frames : List ℤ) → is_some (cells_of kind frames) ≡ is_processor kind
cells_there (Causal (Filter forward back)) frames = refl
cells_there (Causal (Convolution response)) frames = refl
cells_there (Causal (Processor program)) frames = refl
cells_there other frames = refl

cells_form : (q : ℕ) (tape : List World) (a : Account) (key : Key) → is_some (cells_in q tape a key) ≡ has_cells (world_in tape (quantum_of_key q key)) key
cells_form q tape a (Hist f node c) = cells_there _ _
cells_form q tape a (Count j e o) = refl
cells_form q tape a (Inlet f e i c) = refl
cells_form q tape a (Par f node name) = refl
cells_form q tape a (Out f e o c) = refl

pub in_each : (x : Context) → IsGiven x → (key : Key) → IsKeyOf x.quantum (tape_in x) key → AllKnown x (needs x.quantum (tape_in x) (meaning_of x) key)
    → (a : Account) → AllHold x.quantum (tape_in x) a x.known.now → derived x.quantum (tape_in x) a key ≡ derived x.quantum (tape_in x) (meaning_of x) key
in_each x given key is known a all =
    let q : ℕ = x.quantum in
    let tape : List World = tape_in x in
    let fact : Fact = derived q tape (meaning_of x) key in
    let form : IsFactOf q tape fact = record { key = is; cells = cells_form q tape (meaning_of x) key } in
    (follows q given.ready.some tape given.ready.regular x.known.now (in_meaning q tape x.known.now given.ready) fact form
    (sym (meaning_solves q given.ready.some tape given.ready.regular key is)) known).given a all

pub in_all : (x : Context) → IsGiven x → (key : Key) → IsKeyOf x.quantum (tape_in x) key → AllKnown x (needs x.quantum (tape_in x) (meaning_of x) key)
    → (r : Result Fact NoMemory) → IfOk r (λ fact. derived x.quantum (tape_in x) (meaning_of x) key ≡ fact)
    → IfOk r (λ fact. (a : Account) → AllHold x.quantum (tape_in x) a x.known.now → derived x.quantum (tape_in x) a key ≡ fact)
in_all x given key is known (Ok fact) same = λ a all. in_each x given key is known a all ∙ same
in_all x given key is known (Err e) same = tt
