-- Items by their places, and levels by their nodes.
use Rattle.std.proofs.Common.{ℕ, zero, suc, ◌≡◌, ◌+◌, ◌<◌, length, List, [], ◌∷◌, slice_index_or, slice_set, Result, Ok, Err, Bool, true, false, inl, inr, refl, sym, ◌∙◌, ap, arith, subst}
use Rattle.std.specs.Prelude.{◌⊎◌, ◌==◌, OnOk}
use Rattle.std.proofs.lemmas.List.{get_or-set_other, get_or_default}
use Rattle.std.proofs.lemmas.Grind.{get_or-set_at}
use Rattle.std.proofs.lemmas.Bool.Decides.{nat_tests}
use Rattle.automation.specs.Levels.{LevelView, HasRoom, no_level, level_of}
use Rattle.law_base.specs.Members.{IsIn}
use Rattle.meaning.specs.declared.params.Param.{Param}

-- an item of a list stands at a place
pub place_of : {X : Type 0} (xs : List X) (x : X) → IsIn x xs → (i : ℕ) × (i < length xs) × ((d : X) → slice_index_or xs i d ≡ x)
place_of [] x is = absurd is
place_of (y ∷ xs) x (inl same) = (0, omega arith, λ d. sym same)
place_of (y ∷ xs) x (inr later) = let r = place_of xs x later in (suc r.0, (let l = r.1 in omega arith), r.2)

-- and what stands at a place is an item
pub in_list : {X : Type 0} (xs : List X) (i : ℕ) (d : X) → i < length xs → IsIn (slice_index_or xs i d) xs
in_list [] i d l = absurd (omega arith)
in_list (x ∷ xs) zero d l = inl refl
in_list (x ∷ xs) (suc i) d l = inr (in_list xs i d (omega arith))

pub before_or_here : (i j : ℕ) → j < i + 1 → (j < i) ⊎ (j ≡ i)
before_or_here i j l = grind arith

-- ---- one level is written

module _ (q : ℕ) (levels : List LevelView) (node : ℕ) (y : LevelView) (within : node < length levels) where
  pub own_level : (n : ℕ) → n ≡ node → level_of (slice_set levels node y) n ≡ y
  own_level n same = get_or-set_at levels node n y no_level same within

  pub other_level : (n : ℕ) → (n ≡ node → ⊥) → level_of (slice_set levels node y) n ≡ level_of levels n
  other_level n other = get_or-set_other levels node n y no_level other

  -- where there was room there is still room
  pub room_stays : HasRoom q y → (n : ℕ) → HasRoom q (level_of levels n) → HasRoom q (level_of (slice_set levels node y) n)
  room_stays own n old = by_test (n == node) refl
    where
      by_test : (b : Bool) → (n == node) ≡ b → HasRoom q (level_of (slice_set levels node y) n)
      by_test true t = subst (HasRoom q) (sym (own_level n (let same : n ≡ node = grind (arith, nat_tests) in same))) own
      by_test false t = subst (HasRoom q) (sym (other_level n (λ e. let k : n ≡ node = e in let no : (n == node) ≡ true = grind (arith, nat_tests) in absurd cc))) old

  -- the parameters before one have room, and it has too
  pub room_more : (params : List Param) (i : ℕ) (d : Param) → HasRoom q y → node ≡ (slice_index_or params i d).id.node.0
      → ((j : ℕ) (p : Param) → j < i → HasRoom q (level_of levels (slice_index_or params j p).id.node.0))
      → i < length params → (j : ℕ) (p : Param) → j < i + 1 → HasRoom q (level_of (slice_set levels node y) (slice_index_or params j p).id.node.0)
  room_more params i d own here old l j p low = by_place (before_or_here i j low)
    where
      by_place : (j < i) ⊎ (j ≡ i) → HasRoom q (level_of (slice_set levels node y) (slice_index_or params j p).id.node.0)
      by_place (inl before) = room_stays own _ (old j p before)
      by_place (inr same) =
          subst (HasRoom q) (sym (own_level _ (ap (λ k. (slice_index_or params k p).id.node.0) same ∙ ap (λ (x : Param). x.id.node.0) (get_or_default params i p d l) ∙ sym here))) own

-- what follows from four results of a call that succeeds
pub all_ok : {E A B C D F : Type 0} (r : Result (Unit {0}) E) → OnOk r A → OnOk r B → OnOk r C → OnOk r D → (A → B → C → D → F) → OnOk r F
all_ok (Ok u) a b c d f = f a b c d
all_ok (Err e) a b c d f = tt
