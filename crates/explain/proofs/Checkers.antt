-- What a checker looks at decides which lists are checked.
use Rattle.std.proofs.Common.{ℕ, ◌≡◌, ◌<◌, ◌⊎◌, ◌↔◌, List, [], ◌∷◌, ◌++◌, inl, inr, refl, sym, ◌∙◌, subst, append_assoc, append-nil}
use Rattle.law_base.specs.Members.{IsIn}
use Rattle.meaning.specs.declared.world.World.{World}
use Rattle.meaning.specs.Worlds.{IsRegular}
use Rattle.explain.specs.declared.facts.Fact.{Fact}
use Rattle.explain.specs.Accounts.{meant}
use Rattle.explain.specs.Checked.{AllHold, Follows, FollowOn, IsChecked, Passes}
use Rattle.explain.proofs.Soundness.{meaning_solves, all_hold}
use Rattle.explain.proofs.Completeness.{follows}

-- the facts before one that stands behind xs, of which the last one stands first
abbrev onto : List Fact → List Fact → List Fact
onto before [] = before
onto before (x ∷ xs) = onto (x ∷ before) xs

onto_parts : (before xs : List Fact) (x : Fact) → IsIn x (onto before xs) → IsIn x before ⊎ IsIn x xs
onto_parts before [] x h = inl h
onto_parts before (y ∷ ys) x h = elim (onto_parts (y ∷ before) ys x h) [ inl (inl e) ↦ inr (inl e) | inl (inr k) ↦ inl k | inr k ↦ inr (inr k) ]

from_onto : (xs : List Fact) (x : Fact) → IsIn x (onto [] xs) → IsIn x xs
from_onto xs x h = elim (onto_parts [] xs x h) [ inl none ↦ absurd none | inr k ↦ k ]

to_onto : (before xs : List Fact) (x : Fact) → IsIn x before ⊎ IsIn x xs → IsIn x (onto before xs)
to_onto before [] x (inl h) = h
to_onto before [] x (inr none) = absurd none
to_onto before (y ∷ ys) x (inl h) = to_onto (y ∷ before) ys x (inl (inr h))
to_onto before (y ∷ ys) x (inr (inl e)) = to_onto (y ∷ before) ys x (inl (inl e))
to_onto before (y ∷ ys) x (inr (inr h)) = to_onto (y ∷ before) ys x (inr h)

module _ (q : ℕ) (tape : List World) where
  apart : (before xs : List Fact) (x : Fact) → FollowOn q tape before (xs ++ x ∷ []) → FollowOn q tape before xs × Follows q tape (onto before xs) x
  apart before [] x on = (tt, on.0)
  apart before (y ∷ ys) x on = let k = apart (y ∷ before) ys x on.1 in ((on.0, k.0), k.1)

  together : (before xs : List Fact) (x : Fact) → FollowOn q tape before xs → Follows q tape (onto before xs) x → FollowOn q tape before (xs ++ x ∷ [])
  together before [] x on more = (more, tt)
  together before (y ∷ ys) x on more = (on.0, together (y ∷ before) ys x on.1 more)

  front : (before xs ys : List Fact) → FollowOn q tape before (xs ++ ys) → FollowOn q tape before xs
  front before [] ys on = tt
  front before (x ∷ xs) ys on = (on.0, front (x ∷ before) xs ys on.1)

  -- a fact passes behind all lists of the same facts
  moved : (before others : List Fact) → ((x : Fact) → IsIn x before → IsIn x others) → (fact : Fact) → Passes q tape before fact → Passes q tape others fact
  moved before others same fact passes = record {
    form = passes.form;
    needed = λ key h. let there = passes.needed key h in (there.0, same there.0 there.1, there.2);
    given = passes.given;
  }

module _ (q : ℕ) (some : 0 < q) (tape : List World) (regular : IsRegular q tape) where
  -- the facts of a checked list hold, in whatever order
  hold : (xs : List Fact) → IsChecked q tape xs → AllHold q tape (meant q tape) (onto [] xs)
  hold xs checked x h = all_hold q some tape regular [] xs (λ y none. absurd none) checked x (from_onto xs x h)

  pub next_fact : (facts : List Fact) (fact : Fact) → IsChecked q tape (facts ++ fact ∷ []) ↔ (IsChecked q tape facts × Passes q tape facts fact)
  next_fact facts fact = (to, from)
    where
      to : IsChecked q tape (facts ++ fact ∷ []) → IsChecked q tape facts × Passes q tape facts fact
      to on =
          let parts = apart q tape [] facts fact on in
          let all = hold facts parts.0 in
          let follow = parts.1 in (
            parts.0,
            moved q tape (onto [] facts) facts (from_onto facts) fact
                (record { form = follow.form; needed = follow.needed (meant q tape) all; given = follow.given (meant q tape) all }),
          )

      from : IsChecked q tape facts × Passes q tape facts fact → IsChecked q tape (facts ++ fact ∷ [])
      from (on, passes) =
          let same = moved q tape facts (onto [] facts) (λ x h. to_onto [] facts x (inr h)) fact passes in
          together q tape [] facts fact on
          (follows q some tape regular (onto [] facts) (hold facts on) fact same.form (sym (meaning_solves q some tape regular fact.key same.form.key) ∙ same.given) same.needed)

  abbrev EachPasses : List Fact → Type 0
  EachPasses facts = (before : List Fact) (fact : Fact) (after : List Fact) → facts ≡ before ++ fact ∷ after → Passes q tape before fact

  each : (facts : List Fact) → IsChecked q tape facts → EachPasses facts
  each facts on before fact after is =
      let whole : IsChecked q tape ((before ++ fact ∷ []) ++ after) = subst (IsChecked q tape) (is ∙ sym (append_assoc before (fact ∷ []) after)) on in
      ((next_fact before fact).0 (front q tape [] (before ++ fact ∷ []) after whole)).1

  from_front : (facts : List Fact) → EachPasses facts → (before after : List Fact) → facts ≡ before ++ after → IsChecked q tape before → IsChecked q tape facts
  from_front facts passes before [] is on = subst (IsChecked q tape) (sym (is ∙ append-nil before)) on
  from_front facts passes before (x ∷ after) is on =
      from_front facts passes (before ++ x ∷ []) after (is ∙ sym (append_assoc before (x ∷ []) after)) ((next_fact before x).1 (on, passes before x after is))

  pub checker : (facts : List Fact) → IsChecked q tape facts ↔ EachPasses facts
  checker facts = (each facts, λ passes. from_front facts passes [] facts refl tt)
