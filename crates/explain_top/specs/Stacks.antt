-- What stands while a key is derived.
use Rattle.std.specs.Prelude.{ℕ, ◌≡◌, ◌+◌, ◌<◌, ◌≤◌, ◌^◌, List, [], ◌∷◌, ◌++◌, map, length, reverse}
use Rattle.law_base.specs.Members.{IsIn}
use Rattle.meaning.specs.declared.world.World.{World}
use Rattle.explain.specs.declared.facts.Key.{Key}
use Rattle.explain.specs.declared.facts.Fact.{Fact}
use Rattle.explain.specs.Checked.{Stands, IsChecked}
use Rattle.explain.specs.Facts.{IsKeyOf}
use Rattle.derivations.specs.declared.needs.Search.{Search}
use Rattle.derivations.specs.Searched.{Searched}
use Rattle.explain_top.specs.Derived.{StandOnce}

-- the keys of walks, that of the last one first
abbrev pub waiting : List Search → List Key
waiting walks = map (λ walk. walk.key) (reverse walks)

module _ (q : ℕ) (tape : List World) where
  -- a key stands wherever another one does and all is checked
  abbrev pub IsNeeded : Key → Key → Type 0
  IsNeeded key k = (facts : List Fact) → IsChecked q tape facts → Stands key facts → Stands k facts

  abbrev pub AreNeeded : Key → List Fact → Type 0
  AreNeeded key known = (x : Fact) → IsIn x known → IsNeeded key x.key

  -- Wherever the later key stands and all is checked, the earlier one stands in fewer of the facts, which are checked too.
  abbrev pub StandsBefore : Key → Key → Type 0
  StandsBefore k later = (facts : List Fact) → IsChecked q tape facts → Stands later facts →
      (fewer : List Fact) × IsChecked q tape fewer × (length fewer < length facts) × ((x : Fact) → IsIn x fewer → IsIn x facts) × Stands k fewer

  -- each of these keys stands before all that are behind it here
  abbrev pub AreStacked : List Key → Type 0
  AreStacked [] = Unit {0}
  AreStacked (k ∷ ks) = ((l : Key) → IsIn l ks → StandsBefore k l) × AreStacked ks

  -- the last key of a stack, or, where it is empty, that of the last fact
  abbrev pub EndsWith : Key → List Key → List Fact → Type 0
  EndsWith key [] known = (before : List Fact) × (x : Fact) × (known ≡ before ++ x ∷ []) × (x.key ≡ key)
  EndsWith key (k ∷ []) known = k ≡ key
  EndsWith key (k ∷ (l ∷ ks)) known = EndsWith key (l ∷ ks) known

  pub record IsDeriving (key : Key) (known : List Fact) (walks : List Search) : Type 0 where
    pub checked : IsChecked q tape known
    pub once : StandOnce known
    pub facts : AreNeeded key known
    pub keys : (k : Key) → IsIn k (waiting walks) → IsKeyOf q tape k × IsNeeded key k × (Stands k known → ⊥)
    pub stacked : AreStacked (waiting walks)
    pub searched : (walk : Search) → IsIn walk (reverse walks) → Searched q tape known walk
    pub end : EndsWith key (waiting walks) known
    pub few : length known + length walks ≤ 2 ^ 20
