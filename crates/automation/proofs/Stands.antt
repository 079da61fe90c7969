-- Where a cursor stands, and how long it and its level rest.
use Rattle.std.proofs.Common.{ℕ, ◌≡◌, ◌<◌, List, length, slice_index_or, slice_set, refl, sym, ◌∙◌, ap, arith, subst}
use Rattle.std.proofs.lemmas.List.{get_or_default}
use Rattle.meaning.specs.declared.params.Param.{Param}
use Rattle.automation.specs.Levels.{LevelView, IsLevelOf, Keeps, KeepsUntil, StandsUntil, level_of}
use Rattle.automation.specs.Ready.{Rests, RunningView, Stands, TakesLevel, place_in}
use Rattle.automation.proofs.Places.{own_level, other_level}

pub stands_there : (params : List Param) (first : ℕ) (r : RunningView) (p : Param) → r.param < length params → p ≡ slice_index_or params r.param p → r.cursor ≡ place_in first p → Stands params first r
stands_there params first r p l is stands d = stands ∙ ap (place_in first) (is ∙ get_or_default params r.param p d l)

-- where nothing is known, nothing is said
pub rests_unknown : (q first : ℕ) (params : List Param) (levels : List LevelView) (r : RunningView) → 0 < q → r.until ≡ 0 → Rests q params first levels r
rests_unknown q first params levels r some none = record {
  level = λ d later from within. absurd (omega (arith, some, none, within));
  place = λ d later from within. absurd (omega (arith, some, none, within));
}

-- ---- one level is written, that of a parameter

module _ (q first : ℕ) (params : List Param) (levels : List LevelView) (p : Param) (y : LevelView) (within : p.id.node.0 < length levels) where
  abbrev pub written : List LevelView
  written = slice_set levels p.id.node.0 y

  at_node : y ≡ level_of written p.id.node.0
  at_node = sym (own_level q levels p.id.node.0 y within p.id.node.0 refl)

  pub takes_level : IsLevelOf q p first y → (x : Param) → p ≡ x → TakesLevel q x first levels written
  takes_level own x same = subst (λ (z : Param). TakesLevel q z first levels written) same (record {
    level = subst (IsLevelOf q p first) at_node own;
    others = λ n other. other_level q levels p.id.node.0 y within n other;
  })

  pub keeps_level : Keeps q first y p → (x : Param) → p ≡ x → Keeps q first (level_of written x.id.node.0) x
  keeps_level keeps x same = subst (λ (z : Param). Keeps q first (level_of written z.id.node.0) z) same (subst (λ (l : LevelView). Keeps q first l p) at_node keeps)

  pub rests_there : (r : RunningView) → KeepsUntil q first r.until y p → StandsUntil q first r.until r.cursor p → ((d : Param) → p ≡ slice_index_or params r.param d) → Rests q params first written r
  rests_there r keeps stands named = record {
    level = λ d. subst (λ (z : Param). KeepsUntil q first r.until (level_of written z.id.node.0) z) (named d) (subst (λ (l : LevelView). KeepsUntil q first r.until l p) at_node keeps);
    place = λ d. subst (StandsUntil q first r.until r.cursor) (named d) stands;
  }
