-- What the known facts say of the meaning.
use Rattle.std.proofs.Common.{ℕ, ◌≡◌, ◌/◌, ◌<◌, ◌≤◌, refl, sym, ap, subst, inl, inr, arith}
use Rattle.std.specs.List.{range_with_len}
use Rattle.wa_base.specs.declared.graph_names.End.{End}
use Rattle.law_base.specs.Members.{IsIn}
use Rattle.explain.specs.declared.facts.Key.{Key}
use Rattle.explain.specs.declared.facts.Key.TheVariants.{Count, Out}
use Rattle.explain.specs.declared.facts.Fact.{Fact}
use Rattle.explain.specs.Accounts.{value_in, cells_in, stated}
use Rattle.explain.specs.Facts.{IsKeyOf}
use Rattle.explain.specs.Needs.{carried}
use Rattle.explain.proofs.Members.{IsIn-map, IsIn-range}
use Rattle.derivations.specs.declared.places.Context.{Context}
use Rattle.derivations.specs.Contexts.{tape_in, StandsIn}
use Rattle.derivations.proofs.Knowing.{form_of, in_meaning}
use Rattle.derivations.proofs.Narrow.{counts_few}
use Rattle.equations.specs.Given.{IsGiven, meaning_of, AllKnown}

module _ (x : Context) (given : IsGiven x) where
  said : (key : Key) (fact : Fact) → IsIn fact x.known.now → fact.key ≡ key → stated x.quantum (tape_in x) (meaning_of x) key ≡ fact
  said key fact is same = subst (λ k. stated x.quantum (tape_in x) (meaning_of x) k ≡ fact) same (in_meaning x.quantum (tape_in x) x.known.now given.ready fact is).said

  pub said_value : (key : Key) (fact : Fact) → IsIn fact x.known.now → fact.key ≡ key → fact.value ≡ value_in x.quantum (tape_in x) (meaning_of x) key
  said_value key fact is same = ap (λ (y : Fact). y.value) (sym (said key fact is same))

  pub said_cells : (key : Key) (fact : Fact) → IsIn fact x.known.now → fact.key ≡ key → fact.cells ≡ cells_in x.quantum (tape_in x) (meaning_of x) key
  said_cells key fact is same = ap (λ (y : Fact). y.cells) (sym (said key fact is same))

  -- a key that stands is one of the tape
  pub key_of : (key : Key) → StandsIn x key → IsKeyOf x.quantum (tape_in x) key
  key_of key (fact, is, same) = subst (IsKeyOf x.quantum (tape_in x)) same (form_of x.quantum (tape_in x) x.known.now given.ready fact is).key

  pub few : (j : ℕ) (e : End) → (meaning_of x).counts j e ≤ 32
  few j e = counts_few x.quantum (tape_in x) given.ready.regular.valid j e

  -- what an output carries is known where all of it stands
  pub counted : (f : ℕ) (e : End) (o : ℕ) → AllKnown x (carried x.quantum (tape_in x) (meaning_of x) f e o) → StandsIn x (Count (f / x.quantum) e o)
  counted f e o known = known (Count (f / x.quantum) e o) (inl refl)

  pub sampled : (f : ℕ) (e : End) (o c : ℕ) → AllKnown x (carried x.quantum (tape_in x) (meaning_of x) f e o) → c < (meaning_of x).counts (f / x.quantum) e → StandsIn x (Out f e o c)
  sampled f e o c known low =
      let many : ℕ = (meaning_of x).counts (f / x.quantum) e in
      known (Out f e o c) (inr (IsIn-map (λ k. Out f e o k) (range_with_len 0 many) c (IsIn-range 0 many c (omega arith) (omega arith))))
