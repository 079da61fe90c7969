-- Levels while they are taken: one after another runs through its timeline.
use Rattle.std.proofs.Common.{ℕ, ◌≡◌, ◌+◌, ◌<◌, ◌≤◌, length, List, [], ◌∷◌, ◌++◌, drop, slice_index_or, inl, inr, refl, sym, ◌∙◌, arith, subst}
use Rattle.std.specs.Prelude.{◌⊎◌}
use Rattle.std.proofs.lemmas.List.{drop_all}
use Rattle.law_base.specs.Members.{IsIn}
use Rattle.law_base.proofs.Members.{IsIn-append_first, IsIn-append_second}
use Rattle.law_base.proofs.Places.{this_or_other}
use Rattle.meaning.specs.declared.params.Param.{Param}
use Rattle.meaning.proofs.FirstItems.{AreInOrder}
use Rattle.meaning.proofs.ParamOrder.{nodes_rise}
use Rattle.automation.specs.Levels.{LevelView, HasRoom, IsLevelOf, Keeps, KeepsUntil, level_of}
use Rattle.automation.specs.Ready.{Rests, RunningView, TakesLevel}
use Rattle.automation.proofs.Running.{next_or_later}

-- a parameter is still to come, or it has its level and is one of those that may move on, or it keeps its level
abbrev pub IsTaken : ℕ → List Param → ℕ → List LevelView → List ℕ → ℕ → List ℕ → ℕ → Param → Type 0
IsTaken q params first levels all k moving i d =
    IsIn i (drop k all)
    ⊎ ((IsIn i moving × IsLevelOf q (slice_index_or params i d) first (level_of levels (slice_index_or params i d).id.node.0))
    ⊎ Keeps q first (level_of levels (slice_index_or params i d).id.node.0) (slice_index_or params i d))

-- behind the last one none is to come
pub none_ahead : (is : List ℕ) (k i : ℕ) → length is ≤ k → IsIn i (drop k is) → ⊥
none_ahead is k i l there = subst (λ (ns : List ℕ). IsIn i ns) (drop_all k is l) there

-- the nodes of two parameters are different
apart : (params : List Param) (i j : ℕ) (d : Param) → AreInOrder params → i < length params → j < length params → (i ≡ j → ⊥) → (slice_index_or params i d).id.node.0 ≡ (slice_index_or params j d).id.node.0 → ⊥
apart params i j d order l m other same = elim (either_way i j other) [
  | inl below ↦ let rise = nodes_rise params order i j d below m in omega (arith, rise, same)
  | inr above ↦ let rise = nodes_rise params order j i d above l in omega (arith, rise, same)
]
  where
    either_way : (i j : ℕ) → (i ≡ j → ⊥) → (i < j) ⊎ (j < i)
    either_way i j other = grind arith

-- one more is taken, at a place
module _ (q first : ℕ) (params : List Param) (order : AreInOrder params) (levels new : List LevelView) (all : List ℕ) (k place : ℕ)
    (low : k < length all) (is : (d : ℕ) → slice_index_or all k d ≡ place) (there : place < length params) (takes : (d : Param) → TakesLevel q (slice_index_or params place d) first levels new) where
  -- the others are as they were
  untouched : (i : ℕ) (d : Param) → i < length params → (i ≡ place → ⊥) → level_of new (slice_index_or params i d).id.node.0 ≡ level_of levels (slice_index_or params i d).id.node.0
  untouched i d l other = (takes d).others _ (apart params i place d order l there other)

  others_taken : (moving : List ℕ) (i : ℕ) (d : Param) → i < length params → (i ≡ place → ⊥) → IsTaken q params first levels all k moving i d → IsTaken q params first new all (k + 1) moving i d
  others_taken moving i d l other old = elim old [
    | inl ahead ↦ elim (next_or_later all k i 0 low ahead) [
      | inl here ↦ absurd (other (here ∙ is 0))
      | inr later ↦ inl later
    ]
    | inr (inl moves) ↦ inr (inl (moves.0, subst (IsLevelOf q (slice_index_or params i d) first) (sym (untouched i d l other)) moves.1))
    | inr (inr kept) ↦ inr (inr (subst (λ (x : LevelView). Keeps q first x (slice_index_or params i d)) (sym (untouched i d l other)) kept))
  ]

  -- there is still room
  pub room_kept : (p : Param) → HasRoom q (level_of levels p.id.node.0) → HasRoom q (level_of new p.id.node.0)
  room_kept p old = elim (this_or_other p.id.node.0 (slice_index_or params place p).id.node.0) [
    | inl same ↦ subst (λ n. HasRoom q (level_of new n)) (sym same) (takes p).level.room
    | inr other ↦ subst (HasRoom q) (sym ((takes p).others _ other)) old
  ]

  -- another one that rests goes on to rest
  pub rests_on : (r : RunningView) → r.param < length params → (r.param ≡ place → ⊥) → Rests q params first levels r → Rests q params first new r
  rests_on r l other old = record {
    level = λ d. subst (λ (x : LevelView). KeepsUntil q first r.until x (slice_index_or params r.param d)) (sym (untouched r.param d l other)) (old.level d);
    place = old.place;
  }

  -- it keeps its level
  pub stays : (moving : List ℕ) → ((d : Param) → Keeps q first (level_of new (slice_index_or params place d).id.node.0) (slice_index_or params place d))
      → (i : ℕ) (d : Param) → i < length params → IsTaken q params first levels all k moving i d → IsTaken q params first new all (k + 1) moving i d
  stays moving keeps i d l old = elim (this_or_other i place) [
    | inl same ↦ subst (λ n. IsTaken q params first new all (k + 1) moving n d) (sym same) (inr (inr (keeps d)))
    | inr other ↦ others_taken moving i d l other old
  ]

  -- it may move on
  pub moves_on : (moving : List ℕ) → (i : ℕ) (d : Param) → i < length params → IsTaken q params first levels all k moving i d → IsTaken q params first new all (k + 1) (moving ++ place ∷ []) i d
  moves_on moving i d l old = elim (this_or_other i place) [
    | inl same ↦ subst (λ n. IsTaken q params first new all (k + 1) (moving ++ place ∷ []) n d) (sym same)
        (inr (inl (IsIn-append_second moving (place ∷ []) place (inl refl), (takes d).level)))
    | inr other ↦ elim (others_taken moving i d l other old) [
      | inl ahead ↦ inl ahead
      | inr (inl moves) ↦ inr (inl (IsIn-append_first moving (place ∷ []) i moves.0, moves.1))
      | inr (inr kept) ↦ inr (inr kept)
    ]
  ]
