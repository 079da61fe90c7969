-- Checked facts hold in the meaning.
use Rattle.std.proofs.Common.{ℕ, pos, ℤ, ◌≡◌, ◌/◌, ◌<◌, List, [], ◌∷◌, inl, inr, refl, sym, ◌∙◌, ap, subst}
use Rattle.meaning.specs.declared.world.World.{World}
use Rattle.meaning.specs.Worlds.{IsRegular}
use Rattle.meaning.specs.Counts.{count, counts_before}
use Rattle.meaning.proofs.Joined.{joined_in}
use Rattle.meaning.proofs.CountLaws.{count_gives}
use Rattle.meaning.proofs.ValueLaws.{value_solves}
use Rattle.explain.specs.declared.facts.Key.{Key}
use Rattle.explain.specs.declared.facts.Key.TheVariants.{Count, Inlet, Par, Hist, Out}
use Rattle.explain.specs.declared.facts.Fact.{Fact}
use Rattle.explain.specs.Accounts.{meant, value_in, value_by_equation, cells_in, stated, derived}
use Rattle.explain.specs.Facts.{IsKeyOf}
use Rattle.explain.specs.Checked.{Holds, AllHold, Follows, FollowOn}

module _ (q : ℕ) (some : 0 < q) (tape : List World) (regular : IsRegular q tape) where
  -- what the meaning has solves the equations
  solved : (key : Key) → IsKeyOf q tape key → value_by_equation q tape (meant q tape) key ≡ value_in q tape (meant q tape) key
  solved (Count j e o) is =
      ap pos (count_gives q tape j (joined_in tape regular.valid j) (counts_before q tape j) (λ n k delay low high. refl) (count q tape j) e is.place.end (λ d in_d a. refl))
  solved (Out f e o c) is = ap (λ (x : ℕ → ℕ → ℤ). x o c) (value_solves q tape some f (joined_in tape regular.valid (f / q)) e is.place.0.end)
  solved (Inlet f e i c) is = refl
  solved (Par f node name) is = refl
  solved (Hist f node c) is = refl

  pub meaning_solves : (key : Key) → IsKeyOf q tape key → derived q tape (meant q tape) key ≡ stated q tape (meant q tape) key
  meaning_solves key is = ap (λ v. let x : Fact = record { key = key; value = v; cells = cells_in q tape (meant q tape) key } in x) (solved key is)

  pub follower_holds : (before : List Fact) → AllHold q tape (meant q tape) before → (x : Fact) → Follows q tape before x → Holds q tape (meant q tape) x
  follower_holds before all x follows =
      let given = follows.given (meant q tape) all in
      record { said = sym (meaning_solves x.key follows.form.key) ∙ given; given = given }

  pub all_hold : (before xs : List Fact) → AllHold q tape (meant q tape) before → FollowOn q tape before xs → AllHold q tape (meant q tape) xs
  all_hold before [] all follow x is = absurd is
  all_hold before (y ∷ ys) all follow x (inl same) = subst (Holds q tape (meant q tape)) (sym same) (follower_holds before all y follow.0)
  all_hold before (y ∷ ys) all follow x (inr is) = all_hold (y ∷ before) ys longer follow.1 x is
    where
      longer : AllHold q tape (meant q tape) (y ∷ before)
      longer z (inl same) = subst (Holds q tape (meant q tape)) (sym same) (follower_holds before all y follow.0)
      longer z (inr h) = all z h
