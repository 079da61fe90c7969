-- How a search goes on from a place.
use Rattle.std.proofs.Common.{ℕ, zero, suc, ◌≡◌, ◌+◌, ◌<◌, ◌≤◌, ◌⊎◌, length, List, [], ◌∷◌, take, Some, None, inl, inr, refl, sym, ap, subst, arith}
use Rattle.std.specs.Prelude.{slice_get, slice_index_or}
use Rattle.std.specs.Option.{option_map_or}
use Rattle.law_base.specs.Members.{IsIn}
use Rattle.meaning.specs.declared.world.World.{World}
use Rattle.explain.specs.declared.facts.Key.{Key}
use Rattle.explain.specs.declared.facts.Fact.{Fact}
use Rattle.explain.specs.Accounts.{Account}
use Rattle.conn_graph.specs.declared.edges.Edge.{Edge}
use Rattle.conn_graph.specs.declared.edges.Target.{Target}
use Rattle.derivations.specs.declared.places.Place.{Place}
use Rattle.derivations.specs.Groups.{led, edge_group}
use Rattle.derivations.specs.Searches.{AreKnown, IsMissing, AreAllKnown, IsMissingIn, IsPast}

before_or : (g n : ℕ) → (g < n) ⊎ (n ≤ g)
before_or g n = grind arith

this_or : (g n : ℕ) → g < n + 1 → (g < n) ⊎ (g ≡ n)
this_or g n l = grind arith

pub get_at : {X : Type 0} (xs : List X) (i : ℕ) (d : X) → i < length xs → slice_get xs i ≡ Some (slice_index_or xs i d)
get_at [] i d l = absurd (omega arith)
get_at (x ∷ xs) zero d l = refl
get_at (x ∷ xs) (suc i) d l = get_at xs i d (omega arith)

get_past : {X : Type 0} (xs : List X) (i : ℕ) → length xs ≤ i → slice_get xs i ≡ None
get_past [] i l = refl
get_past (x ∷ xs) zero l = absurd (omega arith)
get_past (x ∷ xs) (suc i) l = get_past xs i (omega arith)

module _ (q : ℕ) (tape : List World) (facts : List Fact) (groups : Account → ℕ → List Key) where
  -- a group that stands is passed
  pub next_past : (place : Place) (group : ℕ) → place.group ≡ group → IsPast q tape facts groups place → AreKnown q tape facts (λ a. groups a group) → IsPast q tape facts groups (record { group = group + 1; item = 0 })
  next_past place group same past here = record {
    whole = λ a all g l k h. elim (this_or g group l) [
      | inl before ↦ past.whole a all g (subst (λ n. g < n) (sym same) before) k h
      | inr this ↦ here a all k (subst (λ n. IsIn k (groups a n)) this h)
    ];
    part = λ a all k h. absurd h;
  }

  -- more of a group stands
  pub item_past : (group item more : ℕ) → IsPast q tape facts groups (record { group = group; item = item }) → AreKnown q tape facts (λ a. take more (groups a group)) → IsPast q tape facts groups (record { group = group; item = more })
  item_past group item more past here = record { whole = past.whole; part = here }

  -- where there are no groups from a place on, all stand
  pub all_past : (place : Place) (n : ℕ) → n ≤ place.group → ((a : Account) (g : ℕ) → n ≤ g → groups a g ≡ []) → IsPast q tape facts groups place → AreAllKnown q tape facts groups
  all_past place n low none past a all g k h = elim (before_or g place.group) [
    | inl before ↦ past.whole a all g before k h
    | inr behind ↦ absurd (subst (IsIn k) (none a g (omega arith)) h)
  ]

  -- what is missing of a group is missing
  pub missing_in : (group : ℕ) (k : Key) → IsMissing q tape facts (λ a. groups a group) k → IsMissingIn q tape facts groups k
  missing_in group k missing = record { needed = λ a all. (group, missing.needed a all); absent = missing.absent; key = missing.key }

-- keys that are the same in each account
pub known_as : (q : ℕ) (tape : List World) (facts : List Fact) (keys keys' : Account → List Key) → ((a : Account) → keys a ≡ keys' a) → AreKnown q tape facts keys → AreKnown q tape facts keys'
known_as q tape facts keys keys' same known a all k h = known a all k (subst (IsIn k) (sym (same a)) h)

pub missing_as : (q : ℕ) (tape : List World) (facts : List Fact) (keys keys' : Account → List Key) → ((a : Account) → keys a ≡ keys' a) → (k : Key) → IsMissing q tape facts keys k → IsMissing q tape facts keys' k
missing_as q tape facts keys keys' same k missing = record { needed = λ a all. subst (IsIn k) (same a) (missing.needed a all); absent = missing.absent; key = missing.key }

-- no keys stand
pub nothing_known : (q : ℕ) (tape : List World) (facts : List Fact) → AreKnown q tape facts (λ a. [])
nothing_known q tape facts a all k h = absurd h

-- ---- groups by connections

pub edge_group_at : (target : Target) (keys : Edge → List Key) (edges : List Edge) (g : ℕ) (d : Edge) → g < length edges → edge_group target keys edges g ≡ led target keys (slice_index_or edges g d)
edge_group_at target keys edges g d l = ap (λ o. option_map_or (led target keys) o []) (get_at edges g d l)

pub edge_group_past : (target : Target) (keys : Edge → List Key) (edges : List Edge) (g : ℕ) → length edges ≤ g → edge_group target keys edges g ≡ []
edge_group_past target keys edges g l = ap (λ o. option_map_or (led target keys) o []) (get_past edges g l)

-- ---- groups that are the same in each account

module _ (q : ℕ) (tape : List World) (facts : List Fact) (groups groups' : Account → ℕ → List Key) (same : (a : Account) (g : ℕ) → groups a g ≡ groups' a g) where
  pub past_as : (place : Place) → IsPast q tape facts groups place → IsPast q tape facts groups' place
  past_as place past = record {
    whole = λ a all g l k h. past.whole a all g l k (subst (IsIn k) (sym (same a g)) h);
    part = λ a all k h. past.part a all k (subst (λ keys. IsIn k (take place.item keys)) (sym (same a place.group)) h);
  }

  pub all_as : AreAllKnown q tape facts groups → AreAllKnown q tape facts groups'
  all_as known a all g k h = known a all g k (subst (IsIn k) (sym (same a g)) h)

  pub missing_in_as : (k : Key) → IsMissingIn q tape facts groups k → IsMissingIn q tape facts groups' k
  missing_in_as k missing = record { needed = λ a all. let r = missing.needed a all in (r.0, subst (IsIn k) (same a r.0) r.1); absent = missing.absent; key = missing.key }

-- where no group has a key, all stand
pub none_needed : (q : ℕ) (tape : List World) (facts : List Fact) (groups : Account → ℕ → List Key) → ((a : Account) (g : ℕ) → groups a g ≡ []) → AreAllKnown q tape facts groups
none_needed q tape facts groups none a all g k h = absurd (subst (IsIn k) (none a g) h)
