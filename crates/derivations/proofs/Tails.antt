-- The groups of an output: what a delay gives later, and all that the output needs.
use Rattle.std.proofs.Common.{ℕ, zero, suc, ◌≡◌, ◌/◌, ◌<◌, ◌≤◌, length, List, [], ◌∷◌, take, Bool, true, false, inl, inr, refl, sym, ◌∙◌, ap, subst, arith}
use Rattle.std.specs.Prelude.{if◌then◌else◌, nat_lt, ◌==◌}
use Rattle.std.proofs.lemmas.Bool.Decides.{nat_tests}
use Rattle.wa_base.specs.declared.graph_names.End.{End}
use Rattle.law_base.specs.Members.{IsIn}
use Rattle.node_table.specs.declared.kinds.Kind.{Kind}
use Rattle.conn_graph.specs.Ends.{muted}
use Rattle.meaning.specs.declared.world.World.{World}
use Rattle.meaning.specs.World.{kind_of}
use Rattle.meaning.specs.Values.{world_at}
use Rattle.explain.specs.declared.facts.Key.{Key}
use Rattle.explain.specs.declared.facts.Key.TheVariants.{Count}
use Rattle.explain.specs.declared.facts.Fact.{Fact}
use Rattle.explain.specs.Accounts.{Account}
use Rattle.explain.specs.Facts.{HasOutput}
use Rattle.explain.specs.Needs.{output_by_kind, output_needs}
use Rattle.explain.specs.Checked.{AllHold, Stands}
use Rattle.derivations.specs.declared.places.Place.{Place}
use Rattle.derivations.specs.Groups.{delay_keys, tail_keys, output_group}
use Rattle.derivations.specs.Searches.{AreKnown, IsMissing, AreAllKnown, IsMissingIn, IsPast}
use Rattle.derivations.proofs.Grouped.{in_tail}

below : (a b : ℕ) → a < b → nat_lt a b ≡ true
below a b l = grind (arith, nat_tests)

not_below : (a b : ℕ) → b ≤ a → nat_lt a b ≡ false
not_below a b l = grind (arith, nat_tests)

module _ (q : ℕ) (tape : List World) (facts : List Fact) (f : ℕ) (e : End) (o c : ℕ) where
  abbrev groups : Account → ℕ → List Key
  groups a = output_group q tape a f e o c

  abbrev counted : Key
  counted = Count (f / q) e o

  abbrev w : World
  w = world_at q tape f

  abbrev tail_by : Account → Kind → Bool → Bool → List Key
  tail_by a kind quiet there = if quiet then [] else if there then delay_keys q tape a f e kind else []

  abbrev needs_by : Account → Kind → Bool → Bool → List Key
  needs_by a kind quiet there = if quiet then [] else counted ∷ (if there then output_by_kind q tape a f e o c kind else [])

  abbrev has_channel : Account → Bool
  has_channel a = nat_lt c (a.counts (f / q) e)

  -- a muted end needs nothing
  pub muted_none : muted w.graph.value e ≡ true → (a : Account) (g : ℕ) → groups a g ≡ []
  muted_none quiet a zero = ap (λ b. tail_by a (kind_of w e.node.0) b (has_channel a)) quiet
  muted_none quiet a (suc zero) = ap (λ b. needs_by a (kind_of w e.node.0) b (has_channel a)) quiet
  muted_none quiet a (suc (suc g)) = refl

  module _ (loud : muted w.graph.value e ≡ false) where
    tail_loud : (a : Account) (kind : Kind) (t : Bool) → kind_of w e.node.0 ≡ kind → has_channel a ≡ t → tail_keys q tape a f e c ≡ tail_by a kind false t
    tail_loud a kind t same is =
        ap (λ b. tail_by a (kind_of w e.node.0) b (has_channel a)) loud
        ∙ ap (λ b. tail_by a (kind_of w e.node.0) false b) is
        ∙ ap (λ k. tail_by a k false t) same

    needs_loud : (a : Account) (kind : Kind) (t : Bool) → kind_of w e.node.0 ≡ kind → has_channel a ≡ t → output_needs q tape a f e o c ≡ needs_by a kind false t
    needs_loud a kind t same is =
        ap (λ b. needs_by a (kind_of w e.node.0) b (has_channel a)) loud
        ∙ ap (λ b. needs_by a (kind_of w e.node.0) false b) is
        ∙ ap (λ k. needs_by a k false t) same

    -- the number of its channels is missing
    pub count_missing : f / q < length tape → HasOutput w e o → (Stands counted facts → ⊥) → IsMissingIn q tape facts groups counted
    count_missing short has absent = record {
      needed = λ a all. (1, subst (IsIn counted) (sym (needs_loud a (kind_of w e.node.0) (has_channel a) refl refl)) (inl refl));
      absent = absent;
      key = record { quantum = short; place = has };
    }

    -- of a channel that it lacks that number is enough
    pub count_enough : (count : ℕ) → ((a : Account) → AllHold q tape a facts → a.counts (f / q) e ≡ count) → count ≤ c → Stands counted facts → AreAllKnown q tape facts groups
    count_enough count is past stands a all g k h = by_group g h
      where
        lacks : has_channel a ≡ false
        lacks = let many = is a all in not_below c (a.counts (f / q) e) (omega (arith, many))

        by_needs : IsIn k (counted ∷ []) → Stands k facts
        by_needs (inl same) = subst (λ x. Stands x facts) (sym same) stands
        by_needs (inr h) = absurd h

        by_group : (g : ℕ) → IsIn k (groups a g) → Stands k facts
        by_group zero h = absurd (subst (IsIn k) (tail_loud a (kind_of w e.node.0) false refl lacks) h)
        by_group (suc zero) h = by_needs (subst (IsIn k) (needs_loud a (kind_of w e.node.0) false refl lacks) h)
        by_group (suc (suc g)) h = absurd h

    -- of a channel that it has there are the needs by its kind, too
    module _ (kind : Kind) (same : kind_of w e.node.0 ≡ kind) (low : (a : Account) → AllHold q tape a facts → c < a.counts (f / q) e) where
      has : (a : Account) → AllHold q tape a facts → has_channel a ≡ true
      has a all = below c (a.counts (f / q) e) (low a all)

      pub channel_known : Stands counted facts → AreKnown q tape facts (λ a. output_by_kind q tape a f e o c kind) → AreAllKnown q tape facts groups
      channel_known stands known a all g k h = by_group g h
        where
          by_list : IsIn k (counted ∷ output_by_kind q tape a f e o c kind) → Stands k facts
          by_list (inl same) = subst (λ x. Stands x facts) (sym same) stands
          by_list (inr h) = known a all k h

          by_needs : IsIn k (output_needs q tape a f e o c) → Stands k facts
          by_needs h = by_list (subst (IsIn k) (needs_loud a kind true same (has a all)) h)

          by_group : (g : ℕ) → IsIn k (groups a g) → Stands k facts
          by_group zero h = by_needs (in_tail q tape a f e o c k h)
          by_group (suc zero) h = by_needs h
          by_group (suc (suc g)) h = absurd h

      pub channel_missing : (k : Key) → IsMissing q tape facts (λ a. output_by_kind q tape a f e o c kind) k → IsMissingIn q tape facts groups k
      channel_missing k missing = record {
        needed = λ a all. (1, subst (IsIn k) (sym (needs_loud a kind true same (has a all))) (inr (missing.needed a all)));
        absent = missing.absent;
        key = missing.key;
      }

      -- ---- how far a search came in what a delay gives later

      abbrev known_to : ℕ → Type 0
      known_to item = AreKnown q tape facts (λ a. take item (delay_keys q tape a f e kind))

      tail_at_first : (place : Place) → place.group ≡ 0 → IsPast q tape facts groups place → known_to place.item
      tail_at_first place first past a all k h =
          past.part a all k
          (subst (λ g. IsIn k (take place.item (groups a g))) (sym first) (subst (λ keys. IsIn k (take place.item keys)) (sym (tail_loud a kind true same (has a all))) h))

      tail_of_none : known_to 0
      tail_of_none a all k h = absurd h

      pub tail_at : (place : Place) → IsPast q tape facts groups place → known_to (if place.group == 0 then place.item else 0)
      tail_at place past = by_first (place.group == 0) refl
        where
          by_first : (b : Bool) → (place.group == 0) ≡ b → known_to (if b then place.item else 0)
          by_first true at = tail_at_first place (grind (arith, nat_tests)) past
          by_first false at = tail_of_none

      pub tail_past : (item : ℕ) → known_to item → IsPast q tape facts groups (record { group = 0; item = item })
      tail_past item known = record {
        whole = λ a all g l. absurd (omega arith);
        part = λ a all k h. known a all k (subst (λ keys. IsIn k (take item keys)) (tail_loud a kind true same (has a all)) h);
      }
