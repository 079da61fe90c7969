-- What is known of the facts of a checked list.
use Rattle.std.proofs.Common.{ℕ, pos, negsuc, ℤ, FitsSigned, to_z, of_z, ◌≡◌, ◌≤◌, List, [], ◌∷◌, inl, inr, sym, ◌∙◌, ap, subst, arith}
use Rattle.std.specs.Int.{w64}
use Rattle.std.specs.Prelude.{unsigned_abs}
use Rattle.std.proofs.lemmas.Int.{ints, to_z-of_z}
use Rattle.wa_base.specs.declared.graph_names.End.{End}
use Rattle.law_base.specs.Members.{IsIn}
use Rattle.meaning.specs.declared.world.World.{World}
use Rattle.explain.specs.declared.facts.Key.{Key}
use Rattle.explain.specs.declared.facts.Key.TheVariants.{Count}
use Rattle.explain.specs.declared.facts.Fact.{Fact}
use Rattle.explain.specs.Accounts.{Account, meant, value_in}
use Rattle.explain.specs.Facts.{IsFactOf}
use Rattle.explain.specs.Checked.{AllHold, FollowOn}
use Rattle.explain.proofs.Soundness.{all_hold}
use Rattle.derivations.specs.Searches.{IsReady}
use Rattle.derivations.proofs.Narrow.{counts_few}

-- a checked fact is one of the tape
form_from : (q : ℕ) (tape : List World) (before xs : List Fact) → FollowOn q tape before xs → (x : Fact) → IsIn x xs → IsFactOf q tape x
form_from q tape before [] on x h = absurd h
form_from q tape before (y ∷ ys) on x (inl same) = subst (IsFactOf q tape) (sym same) on.0.form
form_from q tape before (y ∷ ys) on x (inr h) = form_from q tape (y ∷ before) ys on.1 x h

-- a number of channels as the code has it
few_fits : (z : ℤ) → unsigned_abs z ≤ 32 → FitsSigned w64 z
few_fits (pos n) h = record { sfits = omega (arith, ints) }
few_fits (negsuc n) h = record { sfits = omega (arith, ints) }

pub abs_is : (z : ℤ) (r : ℕ) → unsigned_abs z ≤ 32 → r ≡ unsigned_abs (to_z w64 (of_z w64 z)) → r ≡ unsigned_abs z
abs_is z r few is = is ∙ ap unsigned_abs (to_z-of_z w64 z (few_fits z few))

module _ (q : ℕ) (tape : List World) (facts : List Fact) (ready : IsReady q tape facts) where
  pub form_of : (x : Fact) → IsIn x facts → IsFactOf q tape x
  form_of x h = form_from q tape [] facts ready.checked x h

  -- they hold in the meaning
  pub in_meaning : AllHold q tape (meant q tape) facts
  in_meaning = all_hold q ready.some tape ready.regular [] facts (λ x h. absurd h) ready.checked

  pub value_of : (a : Account) → AllHold q tape a facts → (key : Key) (x : Fact) → IsIn x facts → x.key ≡ key → value_in q tape a key ≡ x.value
  value_of a all key x is same = subst (λ k. value_in q tape a k ≡ x.value) same (ap (λ (y : Fact). y.value) (all x is).said)

  -- so the number of channels of an output is the same in each account
  pub count_of : (a : Account) → AllHold q tape a facts → (j : ℕ) (e : End) (o : ℕ) (x : Fact) → IsIn x facts → x.key ≡ Count j e o → a.counts j e ≡ unsigned_abs x.value
  count_of a all j e o x is same = ap unsigned_abs (value_of a all (Count j e o) x is same)

  pub count_low : (j : ℕ) (e : End) (o : ℕ) (x : Fact) → IsIn x facts → x.key ≡ Count j e o → unsigned_abs x.value ≤ 32
  count_low j e o x is same = subst (λ n. n ≤ 32) (count_of (meant q tape) in_meaning j e o x is same) (counts_few q tape ready.regular.valid j e)
