-- What a node with a history reads of a frame.
use Rattle.std.proofs.Common.{ℕ, ◌≡◌, ◌+◌, ◌-◌, ◌/◌, ◌<◌, ◌≤◌, ◌⊎◌, min, length, List, [], ◌∷◌, ◌++◌, Bool, true, false, inl, inr, refl, sym, ◌∙◌, ap, subst, arith}
use Rattle.std.specs.Prelude.{if◌then◌else◌, nat_lt, nat_le, ◌==◌, ◌&&◌, ◌||◌, not, Option, None, Some, IfSome, IfNone}
use Rattle.std.proofs.lemmas.Bool.Decides.{nat_tests}
use Rattle.law_base.specs.Members.{IsIn}
use Rattle.law_base.proofs.Members.{IsIn-append, IsIn-append_first, IsIn-append_second}
use Rattle.node_table.specs.declared.equation.Equation.TheVariants.{Filter, Convolution, Processor}
use Rattle.node_table.specs.declared.kinds.Kind.{Kind}
use Rattle.node_table.specs.declared.kinds.Kind.TheVariants.{Shaper, Causal}
use Rattle.conn_graph.specs.Ends.{reader_of, muted}
use Rattle.meaning.specs.declared.world.World.{World}
use Rattle.meaning.specs.World.{node_at, kind_of}
use Rattle.meaning.specs.Values.{world_at}
use Rattle.explain.specs.declared.facts.Key.{Key}
use Rattle.explain.specs.declared.facts.Key.TheVariants.{Count, Inlet, Hist}
use Rattle.explain.specs.declared.facts.Fact.{Fact}
use Rattle.explain.specs.Accounts.{Account}
use Rattle.explain.specs.Facts.{HasInput, HasOutput}
use Rattle.explain.specs.Needs.{hears, feeds_back, heard_needs, needs_ago}
use Rattle.explain.specs.Checked.{AllHold, Stands}
use Rattle.derivations.specs.Groups.{result_keys, read_keys, history_group}
use Rattle.derivations.specs.Reaches.{reach_of}
use Rattle.derivations.specs.Searches.{AreKnown, IsMissing}
use Rattle.derivations.proofs.Heard.{IsAnswer, single_known}

module _ (q : ℕ) (tape : List World) (facts : List Fact) where
  -- two lists, one behind the other
  pub both_known : (xs ys : Account → List Key) → AreKnown q tape facts xs → AreKnown q tape facts ys → AreKnown q tape facts (λ a. xs a ++ ys a)
  both_known xs ys first second a all k h = elim (IsIn-append (xs a) (ys a) k h) [ inl i ↦ first a all k i | inr i ↦ second a all k i ]

  pub first_missing : (xs ys : Account → List Key) (k : Key) → IsMissing q tape facts xs k → IsMissing q tape facts (λ a. xs a ++ ys a) k
  first_missing xs ys k missing = record { needed = λ a all. IsIn-append_first (xs a) (ys a) k (missing.needed a all); absent = missing.absent; key = missing.key }

  pub second_missing : (xs ys : Account → List Key) (k : Key) → IsMissing q tape facts ys k → IsMissing q tape facts (λ a. xs a ++ ys a) k
  second_missing xs ys k missing = record { needed = λ a all. IsIn-append_second (xs a) (ys a) k (missing.needed a all); absent = missing.absent; key = missing.key }

  -- ---- what it took in at frame g

  module _ (g n c : ℕ) where
    abbrev counted : Key
    counted = Count (g / q) (reader_of n) 0

    abbrev inlet : Key
    inlet = Inlet g (reader_of n) 0 c

    abbrev keys : Account → List Key
    keys a = heard_needs q tape a g n c

    abbrev with_input : Bool → List Key
    with_input t = counted ∷ (if t then [] else inlet ∷ [])

    by_silence : (a : Account) (t : Bool) → (muted (world_at q tape g).graph.value (reader_of n) || not (nat_lt c (a.counts (g / q) (reader_of n)))) ≡ t → keys a ≡ with_input t
    by_silence a t is = ap with_input is

    or_first : (b d : Bool) → b ≡ true → (b || d) ≡ true
    or_first true d is = refl
    or_first false d is = absurd cc

    or_second : (b d : Bool) → d ≡ true → (b || d) ≡ true
    or_second true d is = refl
    or_second false d is = is

    neither : (b d : Bool) → b ≡ false → d ≡ false → (b || d) ≡ false
    neither false d first is = is
    neither true d first is = absurd cc

    only_count : ((a : Account) → AllHold q tape a facts → keys a ≡ with_input true) → Stands counted facts → AreKnown q tape facts keys
    only_count is stands a all k h = single_known q tape facts counted stands a all k (subst (IsIn k) (is a all) h)

    pub heard_muted : muted (world_at q tape g).graph.value (reader_of n) ≡ true → Stands counted facts → AreKnown q tape facts keys
    heard_muted quiet stands = only_count (λ a all. by_silence a true (or_first _ _ quiet)) stands

    pub heard_absent : (count : ℕ) → ((a : Account) → AllHold q tape a facts → a.counts (g / q) (reader_of n) ≡ count) → count ≤ c → Stands counted facts → AreKnown q tape facts keys
    heard_absent count is past stands =
        only_count (λ a all. by_silence a true (or_second (muted (world_at q tape g).graph.value (reader_of n)) _ (let many = is a all in let t : nat_lt c (a.counts (g / q) (reader_of n)) ≡ false = grind (arith, nat_tests) in ap not t))) stands

    heard_there : (count : ℕ) → ((a : Account) → AllHold q tape a facts → a.counts (g / q) (reader_of n) ≡ count) → c < count → muted (world_at q tape g).graph.value (reader_of n) ≡ false
        → (a : Account) → AllHold q tape a facts → keys a ≡ with_input false
    heard_there count is low loud a all = by_silence a false (neither _ _ loud (let many = is a all in let t : nat_lt c (a.counts (g / q) (reader_of n)) ≡ true = grind (arith, nat_tests) in ap not t))

    pub heard_known : (count : ℕ) → ((a : Account) → AllHold q tape a facts → a.counts (g / q) (reader_of n) ≡ count) → c < count → muted (world_at q tape g).graph.value (reader_of n) ≡ false
        → Stands counted facts → Stands inlet facts → AreKnown q tape facts keys
    heard_known count is low loud first second a all k h = go (subst (IsIn k) (heard_there count is low loud a all) h)
      where
        go : IsIn k (with_input false) → Stands k facts
        go (inl same) = subst (λ x. Stands x facts) (sym same) first
        go (inr (inl same)) = subst (λ x. Stands x facts) (sym same) second
        go (inr (inr none)) = absurd none

    pub heard_count_missing : g / q < length tape → HasOutput (world_at q tape g) (reader_of n) 0 → (Stands counted facts → ⊥) → IsMissing q tape facts keys counted
    heard_count_missing short has absent = record { needed = λ a all. inl refl; absent = absent; key = record { quantum = short; place = has } }

    pub heard_inlet_missing : (count : ℕ) → ((a : Account) → AllHold q tape a facts → a.counts (g / q) (reader_of n) ≡ count) → c < count → muted (world_at q tape g).graph.value (reader_of n) ≡ false
        → g / q < length tape → HasInput (world_at q tape g) (reader_of n) 0 → c < 32 → (Stands inlet facts → ⊥) → IsMissing q tape facts keys inlet
    heard_inlet_missing count is low loud short has few absent = record {
      needed = λ a all. subst (IsIn inlet) (sym (heard_there count is low loud a all)) (inr (inl refl));
      absent = absent;
      key = record { quantum = short; place = (has, few) };
    }

    -- a look-up of the input is the answer
    pub heard_answer : (count : ℕ) → ((a : Account) → AllHold q tape a facts → a.counts (g / q) (reader_of n) ≡ count) → c < count → muted (world_at q tape g).graph.value (reader_of n) ≡ false
        → Stands counted facts → g / q < length tape → HasInput (world_at q tape g) (reader_of n) 0 → c < 32
        → (o : Option Key) → IfNone o (Stands inlet facts) → IfSome o (λ k. (k ≡ inlet) × (Stands inlet facts → ⊥)) → IsAnswer q tape facts keys o
    heard_answer count is low loud first short has few None none some = record { none = heard_known count is low loud first none; some = tt }
    heard_answer count is low loud first short has few (Some k) none some = record {
      none = tt;
      some = subst (IsMissing q tape facts keys) (sym some.0) (heard_inlet_missing count is low loud short has few some.1);
    }

-- ---- how far back it reads

past_all : (g n : ℕ) → n ≤ g → nat_lt g n ≡ false
past_all g n l = grind (arith, nat_tests)

not_equal : (g n : ℕ) → n < g → (g == n) ≡ false
not_equal g n l = grind (arith, nat_tests)

no_and : (b d : Bool) → d ≡ false → (b && d) ≡ false
no_and true d is = is
no_and false d is = refl

pub no_input : (kind : Kind) (ago : ℕ) → reach_of kind ≤ ago → hears kind ago ≡ false
no_input (Shaper curve was_set) ago l = not_equal ago 0 (omega arith)
no_input (Causal (Filter forward back)) ago l = past_all ago (length forward) (omega arith)
no_input (Causal (Convolution response)) ago l = past_all ago (length response) l
no_input (Causal (Processor program)) ago l = not_equal ago 0 (omega arith)
no_input other ago l = refl

pub no_result : (kind : Kind) (ago : ℕ) → reach_of kind ≤ ago → feeds_back kind ago ≡ false
no_result (Causal (Filter forward back)) ago l = no_and (nat_le 1 ago) _ (past_all ago (length back) (omega arith))
no_result (Causal (Convolution response)) ago l = refl
no_result (Causal (Processor program)) ago l = not_equal ago 1 (omega arith)
no_result other ago l = refl

module _ (q : ℕ) (tape : List World) (a : Account) (f n c : ℕ) where
  abbrev kind : Kind
  kind = kind_of (world_at q tape f) n

  abbrev born : ℕ
  born = (node_at (world_at q tape f) n).attrs.birth

  pub history_at : (ago : ℕ) → ago < f + 1 - born → history_group q tape a f n c ago ≡ read_keys q tape a (f - ago) n c kind ago
  history_at ago l = ap (λ t. if t then needs_ago q tape a f n c kind ago else []) (let t : nat_lt ago (f + 1 - born) ≡ true = grind (arith, nat_tests) in t)

  pub history_past : (ago : ℕ) → f + 1 - born ≤ ago → history_group q tape a f n c ago ≡ []
  history_past ago l = ap (λ t. if t then needs_ago q tape a f n c kind ago else []) (past_all ago (f + 1 - born) l)

  pub history_unread : (ago : ℕ) → reach_of kind ≤ ago → history_group q tape a f n c ago ≡ []
  history_unread ago l = by_age (nat_lt ago (f + 1 - born))
    where
      none : needs_ago q tape a f n c kind ago ≡ []
      none =
          ap (λ t. (if t then heard_needs q tape a (f - ago) n c else []) ++ result_keys (f - ago) n c kind ago) (no_input kind ago l)
          ∙ ap (λ t. if t then Hist (f - ago) (record { 0 = n }) c ∷ [] else []) (no_result kind ago l)

      by_age : (t : Bool) → (if t then needs_ago q tape a f n c kind ago else []) ≡ []
      by_age true = none
      by_age false = refl

  either : (r b g : ℕ) → min r b ≤ g → (r ≤ g) ⊎ (b ≤ g)
  either r b g l = grind arith

  -- nothing is read of the frames behind
  pub history_rest : (end : ℕ) → end ≡ min (reach_of kind) (f + 1 - born) → (ago : ℕ) → end ≤ ago → history_group q tape a f n c ago ≡ []
  history_rest end is ago l = elim (either (reach_of kind) (f + 1 - born) ago (omega (arith, is, l))) [
    | inl unread ↦ history_unread ago unread
    | inr past ↦ history_past ago past
  ]
