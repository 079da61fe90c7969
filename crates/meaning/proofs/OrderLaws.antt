-- Each legal order gives the values.
use Rattle.std.proofs.Common.{ℕ, ◌≡◌, ◌/◌, ◌<◌, List, [], ◌∷◌, Bool, true, false, ◌⊎◌, inl, inr, refl, sym, ◌∙◌, ap, subst}
use Rattle.std.specs.Prelude.{if◌then◌else◌}
use Rattle.wa_base.specs.declared.graph_names.End.{End}
use Rattle.law_base.specs.Members.{IsIn}
use Rattle.conn_graph.specs.Graph.{Connections}
use Rattle.conn_graph.specs.Ends.{same_end, ends, arrow, muted}
use Rattle.conn_graph.specs.Orders.{IsLegalAfter, IsLegalOrder}
use Rattle.conn_graph.proofs.EndLaws.{same_end-refl, same_end_is}
use Rattle.meaning.specs.declared.world.World.{World}
use Rattle.meaning.specs.Validity.{IsJoined}
use Rattle.meaning.specs.Counts.{count}
use Rattle.meaning.specs.Values.{Frame, Values, silence, equation, frames_before, world_at, value}
use Rattle.meaning.specs.Orders.{with_end, along, values_by}
use Rattle.meaning.proofs.ValueLaws.{muted_value, equation_gives}

-- a muted end, or one that is done
abbrev pub IsKnown : Connections → List End → End → Type 0
IsKnown g done d = (muted g d ≡ true) ⊎ IsIn d done

pub by_muted : {P : Type 0} (g : Connections) (e : End) → (muted g e ≡ true → P) → (muted g e ≡ false → P) → P
by_muted {P} g e if_so if_not = go (muted g e) refl
  where
    go : (b : Bool) → muted g e ≡ b → P
    go true h = if_so h
    go false h = if_not h

-- an end that is known with x done, and is not x, was known before
pub known_before : (g : Connections) (x : End) (done : List End) (d : End) → IsKnown g (x ∷ done) d → same_end d x ≡ false → IsKnown g done d
known_before g x done d (inl m) other = inl m
known_before g x done d (inr (inl is)) other = let t : same_end d x ≡ true = subst (λ y. same_end d y ≡ true) is (same_end-refl d) in absurd cc
known_before g x done d (inr (inr k)) other = inr k

-- where the ends with an arrow to x that are unmuted are done, each is known
pub known_source : (g : Connections) (done : List End) (x : End) → ((d : End) → IsIn d (ends g) → muted g d ≡ false → arrow g d x ≡ true → IsIn d done)
    → (d : End) → IsIn d (ends g) → arrow g d x ≡ true → IsKnown g done d
known_source g done x each d in_d a = by_muted g d (λ m. inl m) (λ u. inr (each d in_d u a))

-- at the end of an order each end is known
pub all_known : (g : Connections) (done : List End) → IsLegalAfter g done [] → (d : End) → IsIn d (ends g) → IsKnown g done d
all_known g done legal d in_d = by_muted g d (λ m. inl m) (λ u. inr (legal d in_d u))

module _ (q : ℕ) (some : 0 < q) (tape : List World) (f : ℕ) (joined : IsJoined (world_at q tape f)) where
  abbrev g : Connections
  g = (world_at q tape f).graph.value

  abbrev here : Values → Frame
  here s = record { world = world_at q tape f; counts = count q tape (f / q); values = s }

  abbrev IsRight : Values → List End → Type 0
  IsRight s done = (d : End) → IsIn d (ends g) → IsKnown g done d → s d ≡ value q tape f d

  step : (s : Values) (done : List End) → IsRight s done → (x : End) → IsIn x (ends g)
      → ((d : End) → IsIn d (ends g) → muted g d ≡ false → arrow g d x ≡ true → IsIn d done)
      → IsRight (with_end s x (equation q f (frames_before q tape f) (here s) x)) (x ∷ done)
  step s done right x in_x sources d in_d known = by_test (same_end d x) refl
    where
      new : equation q f (frames_before q tape f) (here s) x ≡ value q tape f x
      new = equation_gives q tape some f joined s x in_x (λ k in_k a. right k in_k (known_source g done x sources k in_k a))

      by_test : (b : Bool) → same_end d x ≡ b → (if b then equation q f (frames_before q tape f) (here s) x else s d) ≡ value q tape f d
      by_test true is = new ∙ ap (value q tape f) (sym (same_end_is d x is))
      by_test false other = right d in_d (known_before g x done d known other)

  along_gives : (order done : List End) → IsLegalAfter g done order → (s : Values) → IsRight s done
      → (e : End) → IsIn e (ends g) → along q f (frames_before q tape f) (world_at q tape f) (count q tape (f / q)) order s e ≡ value q tape f e
  along_gives [] done legal s right e is = right e is (all_known g done legal e is)
  along_gives (x ∷ xs) done legal s right e is = along_gives xs (x ∷ done) legal.4 _ (step s done right x legal.0 legal.3) e is

  -- whatever legal order is gone along
  pub any_order : (order : List End) → IsLegalOrder g order → (e : End) → IsIn e (ends g) → values_by q tape f order e ≡ value q tape f e
  any_order order legal e is =
      along_gives order [] legal silence (λ d in_d known. elim known [ inl m ↦ sym (muted_value q tape some f joined d in_d m) | inr none ↦ absurd none ]) e is
