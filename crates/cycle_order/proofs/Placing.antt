-- Placing ends one after the other.
use Rattle.std.proofs.Common.{ℕ, zero, suc, ◌≡◌, ◌-◌, ◌<◌, ◌≤◌, length, List, [], ◌∷◌, Bool, true, false, not, cond, Option, None, Some, ◌⊎◌, inl, inr, refl, sym, ◌∙◌, ap, arith, subst}
use Rattle.std.specs.Prelude.{slice_get}
use Rattle.std.specs.List.{filter, list_any}
use Rattle.std.specs.Option.{option_map_or}
use Rattle.wa_base.specs.declared.graph_names.End.{End}
use Rattle.wa_base.specs.declared.graph_names.Tie.{Tie}
use Rattle.wa_base.specs.declared.graph_names.Tie.TheVariants.{Up, Down}
use Rattle.law_base.specs.Members.{IsIn}
use Rattle.law_base.proofs.Members.{IsIn-filter, IsIn-filter_from}
use Rattle.conn_graph.specs.Ends.{same_end}
use Rattle.conn_graph.proofs.EndLaws.{same_end-refl, same_end_is}
use Rattle.cycle_order.specs.Choices.{is_ready, ready_ends, chosen, without, places_from}
use Rattle.cycle_order.proofs.Lists.{filter_agrees}

pub any_agrees : {X : Type 0} (p q : X → Bool) (xs : List X) → ((x : X) → IsIn x xs → p x ≡ q x) → list_any p xs ≡ list_any q xs
any_agrees p q [] h = refl
any_agrees p q (x ∷ xs) h = let first = h x (inl refl) in let rest = any_agrees p q xs (λ y k. h y (inr k)) in cc

-- ---- the end that is chosen

item_in : (es : List End) (i : ℕ) (e : End) → slice_get es i ≡ Some e → IsIn e es
item_in [] i e h = absurd cc
item_in (x ∷ xs) zero e h = inl cc
item_in (x ∷ xs) (suc i) e h = inr (item_in xs i e h)

no_item : (es : List End) (i : ℕ) → slice_get es i ≡ None → length es ≤ i
no_item [] i h = omega arith
no_item (x ∷ xs) zero h = absurd cc
no_item (x ∷ xs) (suc i) h = let l = no_item xs i h in omega arith

pub chosen_in : (tie : Tie) (es : List End) (e : End) → chosen tie es ≡ Some e → IsIn e es
chosen_in Up es e h = item_in es 0 e h
chosen_in Down es e h = item_in es (length es - 1) e h

pub none_chosen : (tie : Tie) (es : List End) → chosen tie es ≡ None → length es ≡ 0
none_chosen Up es h = let l = no_item es 0 h in omega arith
none_chosen Down es h = let l = no_item es (length es - 1) h in omega arith

-- the last of some ends, or one that is there before them
abbrev pub last_from : Option End → List End → Option End
last_from before [] = before
last_from before (e ∷ es) = last_from (Some e) es

last_after : (e : End) (es : List End) → last_from (Some e) es ≡ slice_get (e ∷ es) (length es)
last_after e [] = refl
last_after e (x ∷ xs) = last_after x xs

pub last_is : (es : List End) → last_from None es ≡ slice_get es (length es - 1)
last_is [] = refl
last_is (e ∷ es) = last_after e es ∙ ap (slice_get (e ∷ es)) (omega arith)

-- ---- the ends without one

pub in_without : (e x : End) (es : List End) → IsIn x (without e es) → IsIn x es
in_without e x es h = (IsIn-filter _ es x h).0

pub not_in_without : (e : End) (es : List End) → IsIn e (without e es) → ⊥
not_in_without e es h = let k = (IsIn-filter (λ x. not (same_end x e)) es e h).1 in let r = same_end-refl e in absurd cc

pub still_in : (e x : End) (es : List End) → IsIn x es → (x ≡ e) ⊎ IsIn x (without e es)
still_in e x es h = by_test (same_end x e) refl
  where
    by_test : (b : Bool) → same_end x e ≡ b → (x ≡ e) ⊎ IsIn x (without e es)
    by_test true t = inl (same_end_is x e t)
    by_test false t = inr (IsIn-filter_from (λ x. not (same_end x e)) es x h (ap not t))

length-filter_le : {X : Type 0} (p : X → Bool) (xs : List X) → length (filter p xs) ≤ length xs
length-filter_le p [] = omega arith
length-filter_le p (x ∷ xs) = by_test (p x) (length-filter_le p xs)
  where
    by_test : (b : Bool) → length (filter p xs) ≤ length xs → length (cond b (x ∷ filter p xs) (filter p xs)) ≤ suc (length xs)
    by_test true l = omega arith
    by_test false l = omega arith

pub fewer : (e : End) (es : List End) → IsIn e es → length (without e es) < length es
fewer e [] h = absurd h
fewer e (x ∷ xs) h = by_test (same_end x e) refl h (fewer e xs) (length-filter_le (λ x. not (same_end x e)) xs)
  where
    by_test : (b : Bool) → same_end x e ≡ b → IsIn e (x ∷ xs) → (IsIn e xs → length (without e xs) < length xs) → length (without e xs) ≤ length xs
        → length (cond (not b) (x ∷ without e xs) (without e xs)) < suc (length xs)
    by_test true t h below l = omega arith
    by_test false t (inl same) below l = let r = subst (λ y. same_end y e ≡ true) same (same_end-refl e) in absurd cc
    by_test false t (inr h) below l = let k = below h in omega arith

-- ---- the places

module _ (arrow : End → End → Bool) (tie : Tie) where
  pub no_place : (left : List End) → places_from arrow tie 0 left ≡ []
  unfolding places_from
  no_place left = refl

  pub next_place : (n : ℕ) (left : List End) (o : Option End) → chosen tie (ready_ends arrow left) ≡ o
      → places_from arrow tie (suc n) left ≡ option_map_or (λ e. e ∷ places_from arrow tie n (without e left)) o []
  unfolding places_from
  next_place n left o h = ap (λ o. option_map_or (λ e. e ∷ places_from arrow tie n (without e left)) o []) h

  -- as many places as there are ends are enough
  pub enough_places : (n m : ℕ) (left : List End) → length left ≤ n → length left ≤ m → places_from arrow tie n left ≡ places_from arrow tie m left
  enough_places zero zero left l k = refl
  enough_places zero (suc m) left l k = no_place left ∙ sym (none_left m left (omega arith))
    where
      none_left : (m : ℕ) (left : List End) → length left ≡ 0 → places_from arrow tie (suc m) left ≡ []
      none_left m [] e = next_place m [] None (no_end tie)
        where
          no_end : (tie : Tie) → chosen tie [] ≡ None
          no_end Up = refl
          no_end Down = refl
      none_left m (x ∷ xs) e = absurd (omega arith)
  enough_places (suc n) zero left l k = none_left n left (omega arith) ∙ sym (no_place left)
    where
      none_left : (m : ℕ) (left : List End) → length left ≡ 0 → places_from arrow tie (suc m) left ≡ []
      none_left m [] e = next_place m [] None (no_end tie)
        where
          no_end : (tie : Tie) → chosen tie [] ≡ None
          no_end Up = refl
          no_end Down = refl
      none_left m (x ∷ xs) e = absurd (omega arith)
  enough_places (suc n) (suc m) left l k = by_choice (chosen tie (ready_ends arrow left)) refl (λ e h.
      let f = fewer e left (IsIn-filter _ left e h).0 in enough_places n m (without e left) (omega arith) (omega arith))
    where
      by_choice : (o : Option End) → chosen tie (ready_ends arrow left) ≡ o
          → ((e : End) → IsIn e (ready_ends arrow left) → places_from arrow tie n (without e left) ≡ places_from arrow tie m (without e left))
          → places_from arrow tie (suc n) left ≡ places_from arrow tie (suc m) left
      by_choice None c below = next_place n left None c ∙ sym (next_place m left None c)
      by_choice (Some e) c below =
          next_place n left (Some e) c ∙ ap (λ es. e ∷ es) (below e (chosen_in tie (ready_ends arrow left) e c)) ∙ sym (next_place m left (Some e) c)

  pub taken : (left : List End) (e : End) → chosen tie (ready_ends arrow left) ≡ Some e
      → places_from arrow tie (length left) left ≡ e ∷ places_from arrow tie (length (without e left)) (without e left)
  taken left e c = by_length (length left) refl (fewer e left (IsIn-filter (is_ready arrow left) left e (chosen_in tie (ready_ends arrow left) e c)).0)
    where
      by_length : (n : ℕ) → length left ≡ n → length (without e left) < length left → places_from arrow tie n left ≡ e ∷ places_from arrow tie (length (without e left)) (without e left)
      by_length zero k l = absurd (omega arith)
      by_length (suc n) k l = next_place n left (Some e) c ∙ ap (λ es. e ∷ es) (enough_places n (length (without e left)) (without e left) (omega arith) (omega arith))

  pub ended : (left : List End) → chosen tie (ready_ends arrow left) ≡ None → places_from arrow tie (length left) left ≡ []
  ended left c = by_length (length left)
    where
      by_length : (n : ℕ) → places_from arrow tie n left ≡ []
      by_length zero = no_place left
      by_length (suc n) = next_place n left None c

-- arrows that agree on the ends left choose the same places
pub places_agree : (f h : End → End → Bool) (tie : Tie) (n : ℕ) (left : List End) → ((d e : End) → IsIn d left → IsIn e left → f d e ≡ h d e) → places_from f tie n left ≡ places_from h tie n left
places_agree f h tie zero left agree = no_place f tie left ∙ sym (no_place h tie left)
places_agree f h tie (suc n) left agree =
    next_place f tie n left (chosen tie (ready_ends h left)) (ap (chosen tie) same_ready)
    ∙ by_choice (chosen tie (ready_ends h left)) (λ e. places_agree f h tie n (without e left) (λ d x in_d in_x. agree d x (in_without e d left in_d) (in_without e x left in_x)))
    ∙ sym (next_place h tie n left (chosen tie (ready_ends h left)) refl)
  where
    same_ready : ready_ends f left ≡ ready_ends h left
    same_ready = filter_agrees (is_ready f left) (is_ready h left) left (λ e in_e. ap not (any_agrees (λ d. f d e) (λ d. h d e) left (λ d in_d. agree d e in_d in_e)))

    by_choice : (o : Option End) → ((e : End) → places_from f tie n (without e left) ≡ places_from h tie n (without e left))
        → option_map_or (λ e. e ∷ places_from f tie n (without e left)) o [] ≡ option_map_or (λ e. e ∷ places_from h tie n (without e left)) o []
    by_choice None below = refl
    by_choice (Some e) below = ap (λ es. e ∷ es) (below e)
