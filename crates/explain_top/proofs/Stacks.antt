-- What stands while a key is derived.
use Rattle.std.proofs.Common.{ℕ, zero, suc, ◌≡◌, ◌+◌, ◌<◌, ◌≤◌, ◌^◌, ◌⊎◌, length, List, [], ◌∷◌, ◌++◌, map, is_some, inl, inr, refl, sym, ◌∙◌, ap, subst, arith, reverse, take, get_or}
use Rattle.std.specs.Prelude.{ℤ}
use Rattle.std.proofs.lemmas.List.{append_assoc, append-nil, map-append, reverse-append, length-append, length-map, length-reverse}
use Rattle.law_base.specs.Members.{IsIn, AreDistinct}
use Rattle.law_base.proofs.Members.{IsIn-append, IsIn-append_first, IsIn-append_second, without, IsIn-without}
use Rattle.node_table.specs.declared.kinds.Kind.{Kind}
use Rattle.node_table.specs.declared.kinds.Kind.TheVariants.{Causal}
use Rattle.node_table.specs.declared.equation.Equation.TheVariants.{Processor}
use Rattle.meaning.specs.declared.world.World.{World}
use Rattle.meaning.specs.World.{kind_of}
use Rattle.meaning.specs.Counts.{world_in}
use Rattle.meaning.specs.Values.{world_at}
use Rattle.meaning.specs.Worlds.{IsRegular}
use Rattle.explain.specs.declared.facts.Key.{Key}
use Rattle.explain.specs.declared.facts.Key.TheVariants.{Count, Inlet, Par, Hist, Out}
use Rattle.explain.specs.declared.facts.Fact.{Fact}
use Rattle.explain.specs.Accounts.{Account, meant, derived, means, cells_of, cells_in, heard_in}
use Rattle.explain.specs.Checked.{Stands, IsChecked, AllHold, Passes, FollowOn}
use Rattle.explain.specs.Facts.{IsFactOf, IsKeyOf, is_processor, has_cells, quantum_of_key}
use Rattle.explain.specs.Needs.{needs}
use Rattle.explain.specs.Texts.{facts_text}
use Rattle.explain.proofs.Checkers.{checker, next_fact}
use Rattle.derivations.specs.declared.needs.Search.{Search}
use Rattle.derivations.specs.Groups.{group}
use Rattle.derivations.proofs.Growing.{past_grows}
use Rattle.derivations.specs.Searched.{Searched}
use Rattle.derivations.specs.Searches.{IsMissing, AreKnown}
use Rattle.explain_top.specs.Faults.{line_of}
use Rattle.explain_top.specs.Derived.{StandOnce, AreAllTooMany, IsDerivation}
use Rattle.explain_top.specs.Stacks.{waiting, IsNeeded, AreNeeded, StandsBefore, AreStacked, EndsWith, IsDeriving}
use Rattle.explain_top.proofs.Cuts.{held}

-- ---- lists without repeats

abbrev weight : {X : Type 0} → (X → ℕ) → List X → ℕ
weight w [] = 0
weight w (x ∷ xs) = w x + weight w xs

weight-without : {X : Type 0} (w : X → ℕ) (x : X) (xs : List X) (h : IsIn x xs) → w x + weight w (without x xs h) ≡ weight w xs
weight-without w x [] h = absurd h
weight-without w x (y ∷ ys) (inl same) = ap (λ z. w z + weight w ys) same
weight-without w x (y ∷ ys) (inr h) = let e = weight-without w x ys h in omega (arith, e)

-- things without repeats weigh no more than a list that has them all
distinct_weigh : {X : Type 0} (w : X → ℕ) (xs ys : List X) → AreDistinct xs → ((x : X) → IsIn x xs → IsIn x ys) → weight w xs ≤ weight w ys
distinct_weigh w [] ys apart all = omega arith
distinct_weigh w (x ∷ xs) ys apart all =
    let h = all x (inl refl) in
    let rest = distinct_weigh w xs (without x ys h) apart.1 (λ y is. elim (IsIn-without x ys h y (all y (inr is))) [ inl same ↦ absurd (apart.0 (subst (λ z. IsIn z xs) same is)) | inr there ↦ there ]) in
    let e = weight-without w x ys h in
    omega (arith, rest, e)

count_is : {X : Type 0} (xs : List X) → weight (λ x. 1) xs ≡ length xs
count_is [] = refl
count_is (x ∷ xs) = let e = count_is xs in omega (arith, e)

bytes_are : (xs : List Fact) → weight (λ x. length (line_of x)) xs ≡ length (facts_text xs)
bytes_are [] = refl
bytes_are (x ∷ xs) = let e = bytes_are xs in let f = length-append (line_of x) (facts_text xs) in omega (arith, e, f)

-- the text of the first facts is no longer than that of all
pub first_bytes : (n : ℕ) (xs : List Fact) → length (facts_text (take n xs)) ≤ length (facts_text xs)
first_bytes zero xs = omega arith
first_bytes (suc n) [] = omega arith
first_bytes (suc n) (x ∷ xs) =
    let a = first_bytes n xs in
    let b = length-append (line_of x) (facts_text (take n xs)) in
    let c = length-append (line_of x) (facts_text xs) in
    omega (arith, a, b, c)

-- the text of one more of the first facts
pub more_text : (n : ℕ) (xs : List Fact) (d : Fact) → n < length xs → facts_text (take (suc n) xs) ≡ facts_text (take n xs) ++ line_of (get_or xs n d)
more_text n [] d l = absurd (omega (arith, l))
more_text zero (x ∷ xs) d l = append-nil (line_of x)
more_text (suc n) (x ∷ xs) d l = ap (λ t. line_of x ++ t) (more_text n xs d (omega (arith, l))) ∙ sym (append_assoc (line_of x) (facts_text (take n xs)) (line_of (get_or xs n d)))

distinct_append : {X : Type 0} (xs ys : List X) → AreDistinct xs → AreDistinct ys → ((x : X) → IsIn x xs → IsIn x ys → ⊥) → AreDistinct (xs ++ ys)
distinct_append [] ys a b apart = b
distinct_append (x ∷ xs) ys a b apart =
    (λ h. elim (IsIn-append xs ys x h) [ inl there ↦ a.0 there | inr there ↦ apart x (inl refl) there ], distinct_append xs ys a.1 b (λ y h. apart y (inr h)))

key_in : (facts : List Fact) (x : Fact) → IsIn x facts → IsIn x.key (map (λ y. y.key) facts)
key_in [] x h = absurd h
key_in (y ∷ ys) x (inl same) = inl (ap (λ z. z.key) same)
key_in (y ∷ ys) x (inr h) = inr (key_in ys x h)

key_from : (facts : List Fact) (k : Key) → IsIn k (map (λ y. y.key) facts) → Stands k facts
key_from [] k h = absurd h
key_from (y ∷ ys) k (inl same) = (y, inl refl, sym same)
key_from (y ∷ ys) k (inr h) = let s = key_from ys k h in (s.0, inr s.1, s.2)

distinct_facts : (facts : List Fact) → StandOnce facts → AreDistinct facts
distinct_facts [] once = tt
distinct_facts (x ∷ xs) once = (λ h. once.0 (key_in xs x h), distinct_facts xs once.1)

-- ---- parts of a list

cut_at : (facts : List Fact) (x : Fact) → IsIn x facts → (before : List Fact) × (after : List Fact) × (facts ≡ before ++ x ∷ after)
cut_at [] x h = absurd h
cut_at (y ∷ ys) x (inl same) = ([], ys, ap (λ z. z ∷ ys) (sym same))
cut_at (y ∷ ys) x (inr h) = let c = cut_at ys x h in (y ∷ c.0, c.1, ap (λ zs. y ∷ zs) c.2)

front : (q : ℕ) (tape : List World) (before xs ys : List Fact) → FollowOn q tape before (xs ++ ys) → FollowOn q tape before xs
front q tape before [] ys on = tt
front q tape before (x ∷ xs) ys on = (on.0, front q tape (x ∷ before) xs ys on.1)

stands_first : (k : Key) (xs ys : List Fact) → Stands k xs → Stands k (xs ++ ys)
stands_first k xs ys s = (s.0, IsIn-append_first xs ys s.0 s.1, s.2)

-- a key stands in a list with one more fact where it stood before, or where the fact is about it
stands_more : (k : Key) (xs : List Fact) (x : Fact) → Stands k (xs ++ x ∷ []) → Stands k xs ⊎ (x.key ≡ k)
stands_more k xs x s = elim (IsIn-append xs (x ∷ []) s.0 s.1) [
  | inl there ↦ inl (s.0, there, s.2)
  | inr (inl same) ↦ inr (ap (λ y. y.key) (sym same) ∙ s.2)
  | inr (inr none) ↦ absurd none
]

-- ---- cells stand where they are to stand

cells_told : (kind : Kind) (frames : List ℤ) → is_some (cells_of kind frames) ≡ is_processor kind
cells_told (Causal (Processor program)) frames = refl
cells_told other frames = refl

has_its_cells : (q : ℕ) (tape : List World) (key : Key) → is_some (cells_in q tape (meant q tape) key) ≡ has_cells (world_in tape (quantum_of_key q key)) key
has_its_cells q tape (Count j e o) = refl
has_its_cells q tape (Inlet f e i c) = refl
has_its_cells q tape (Par f node name) = refl
has_its_cells q tape (Hist f node c) = cells_told (kind_of (world_at q tape f) node.0) (heard_in q tape (meant q tape) f node.0 c)
has_its_cells q tape (Out f e o c) = refl

-- what the equation of a key gives is a fact
pub is_fact_of : (q : ℕ) (tape : List World) (key : Key) (x : Fact) → IsKeyOf q tape key → derived q tape (meant q tape) key ≡ x → IsFactOf q tape x
is_fact_of q tape key x is given = subst (IsFactOf q tape) given (record { key = is; cells = has_its_cells q tape key })

about : (q : ℕ) (tape : List World) (key : Key) (x : Fact) → derived q tape (meant q tape) key ≡ x → x.key ≡ key
about q tape key x given = ap (λ y. y.key) (sym given)

module _ (q : ℕ) (some : 0 < q) (tape : List World) (regular : IsRegular q tape) where
  -- what a key needs stands before it
  pub need_before : (n k : Key) → IsIn n (needs q tape (meant q tape) k) → StandsBefore q tape n k
  need_before n k needed facts checked stands =
      let x = stands.0 in
      let c = cut_at facts x stands.1 in
      let passes = (checker q some tape regular facts).0 checked c.0 x c.1 c.2 in (
        c.0,
        front q tape [] c.0 (x ∷ c.1) (subst (IsChecked q tape) c.2 checked),
        (let l = ap (λ (xs : List Fact). length xs) c.2 in let m = length-append c.0 (x ∷ c.1) in omega (arith, l, m)),
        (λ y h. subst (λ xs. IsIn y xs) (sym c.2) (IsIn-append_first c.0 (x ∷ c.1) y h)),
        passes.needed n (subst (λ key. IsIn n (needs q tape (meant q tape) key)) (sym stands.2) needed),
      )

  before_that : (k l m : Key) → StandsBefore q tape k l → StandsBefore q tape l m → StandsBefore q tape k m
  before_that k l m first second facts checked stands =
      let a = second facts checked stands in
      let b = first a.0 a.1 a.4 in
      (b.0, b.1, (let x = b.2 in let y = a.2 in omega (arith, x, y)), (λ y h. a.3 y (b.3 y h)), b.4)

  -- no key stands before itself
  not_itself_in : (n : ℕ) (k : Key) (facts : List Fact) → length facts < n → StandsBefore q tape k k → IsChecked q tape facts → Stands k facts → ⊥
  not_itself_in zero k facts low before checked stands = omega (arith, low)
  not_itself_in (suc n) k facts low before checked stands =
      let a = before facts checked stands in
      not_itself_in n k a.0 (let x = a.2 in omega (arith, x, low)) before a.1 a.4

  pub not_itself : (k : Key) (facts : List Fact) → StandsBefore q tape k k → IsChecked q tape facts → Stands k facts → ⊥
  not_itself k facts = not_itself_in (length facts + 1) k facts (omega arith)

  needed_too : (key k : Key) → StandsBefore q tape k key → IsNeeded q tape key k
  needed_too key k before facts checked stands = let a = before facts checked stands in (a.4.0, a.3 a.4.0 a.4.1, a.4.2)

  -- stacked keys are distinct where all of them stand
  stacked_apart : (ks : List Key) (facts : List Fact) → AreStacked q tape ks → IsChecked q tape facts → ((k : Key) → IsIn k ks → Stands k facts) → AreDistinct ks
  stacked_apart [] facts stacked checked there = tt
  stacked_apart (k ∷ ks) facts stacked checked there =
      (λ h. not_itself k facts (stacked.0 k h) checked (there k (inl refl)), stacked_apart ks facts stacked.1 checked (λ l h. there l (inr h)))

  -- known facts and waiting keys are not more than any checked list has
  pub too_many : (key : Key) (known : List Fact) (ks : List Key) → StandOnce known → AreNeeded q tape key known → AreStacked q tape ks
      → ((k : Key) → IsIn k ks → IsNeeded q tape key k × (Stands k known → ⊥)) → 2 ^ 20 < length known + length ks → AreAllTooMany q tape key
  too_many key known ks once needed stacked waits many facts checked stands =
      let there = λ (k : Key) (h : IsIn k ks). (waits k h).0 facts checked stands in
      let keys = map (λ (y : Fact). y.key) known in
      let apart = distinct_append keys ks once (stacked_apart ks facts stacked checked there) (λ k h w. (waits k w).1 (key_from known k h)) in
      let within : (k : Key) → IsIn k (keys ++ ks) → IsIn k (map (λ (y : Fact). y.key) facts) = λ k h. elim (IsIn-append keys ks k h) [
        | inl old ↦ (let s = key_from known k old in let t = needed s.0 s.1 facts checked stands in subst (λ (l : Key). IsIn l (map (λ (y : Fact). y.key) facts)) (t.2 ∙ s.2) (key_in facts t.0 t.1))
        | inr new ↦ (let t = there k new in subst (λ (l : Key). IsIn l (map (λ (y : Fact). y.key) facts)) t.2 (key_in facts t.0 t.1))
      ] in
      let few = distinct_weigh (λ k. 1) (keys ++ ks) (map (λ (y : Fact). y.key) facts) apart within in
      let a = count_is (keys ++ ks) in
      let b = count_is (map (λ (y : Fact). y.key) facts) in
      let c = length-append keys ks in
      let d = length-map known (λ (y : Fact). y.key) in
      let e = length-map facts (λ (y : Fact). y.key) in
      inl (omega (arith, few, a, b, c, d, e, many))

  -- two checked facts about one key are the same
  same_fact : (known facts : List Fact) → IsChecked q tape known → IsChecked q tape facts → (x y : Fact) → IsIn x known → IsIn y facts → y.key ≡ x.key → x ≡ y
  same_fact known facts a b x y here there same =
      sym (held q some tape regular known a x here).said ∙ ap (means q tape) (sym same) ∙ (held q some tape regular facts b y there).said

  -- nor is their text longer
  pub too_long : (key : Key) (known : List Fact) → IsChecked q tape known → StandOnce known → AreNeeded q tape key known → 2 ^ 26 < length (facts_text known) → AreAllTooMany q tape key
  too_long key known is once needed long facts checked stands =
      let within = λ (x : Fact) (h : IsIn x known). (let t = needed x h facts checked stands in subst (λ z. IsIn z facts) (sym (same_fact known facts is checked x t.0 h t.1 t.2)) t.1) in
      let few = distinct_weigh (λ x. length (line_of x)) known facts (distinct_facts known once) within in
      let a = bytes_are known in
      let b = bytes_are facts in
      inr (omega (arith, few, a, b, long))

  -- ---- the steps

  pub deriving_starts : (key : Key) (walk : Search) → walk.key ≡ key → Searched q tape [] walk → IsKeyOf q tape key → IsDeriving q tape key [] (walk ∷ [])
  deriving_starts key walk same searched is = record {
    checked = tt;
    once = tt;
    facts = λ x h. absurd h;
    keys = first_key;
    stacked = ((λ l h. absurd h), tt);
    searched = first_walk;
    end = same;
    few = omega arith;
  }
    where
      first_key : (k : Key) → IsIn k (walk.key ∷ []) → IsKeyOf q tape k × IsNeeded q tape key k × (Stands k [] → ⊥)
      first_key k (inl e) = subst (λ (l : Key). IsKeyOf q tape l × IsNeeded q tape key l × (Stands l [] → ⊥)) (sym (e ∙ same)) (is, (λ facts checked stands. stands), (λ s. s.1))
      first_key k (inr none) = absurd none

      first_walk : (w : Search) → IsIn w (walk ∷ []) → Searched q tape [] w
      first_walk w (inl e) = subst (Searched q tape []) (sym e) searched
      first_walk w (inr none) = absurd none

  same_end : (key k : Key) (ks : List Key) (known longer : List Fact) → EndsWith q tape key (k ∷ ks) known → EndsWith q tape key (k ∷ ks) longer
  same_end key k [] known longer e = e
  same_end key k (l ∷ ks) known longer e = same_end key l ks known longer e

  -- the last walk is taken off the stack
  module _ (key : Key) (known : List Fact) (walks rest : List Search) (walk : Search) (popped : walks ≡ rest ++ walk ∷ []) (d : IsDeriving q tape key known walks) where
    reversed : reverse walks ≡ walk ∷ reverse rest
    reversed = ap reverse popped ∙ reverse-append rest (walk ∷ [])

    waiting_are : waiting walks ≡ walk.key ∷ waiting rest
    waiting_are = ap (map (λ (w : Search). w.key)) reversed

    of_key : (k : Key) → IsIn k (walk.key ∷ waiting rest) → IsKeyOf q tape k × IsNeeded q tape key k × (Stands k known → ⊥)
    of_key k h = d.keys k (subst (λ ks. IsIn k ks) (sym waiting_are) h)

    pub popped_key : IsKeyOf q tape walk.key
    popped_key = (of_key walk.key (inl refl)).0

    pub popped_searched : Searched q tape known walk
    popped_searched = d.searched walk (subst (λ ws. IsIn walk ws) (sym reversed) (inl refl))

    stacked : AreStacked q tape (walk.key ∷ waiting rest)
    stacked = subst (AreStacked q tape) waiting_are d.stacked

    ended : EndsWith q tape key (walk.key ∷ waiting rest) known
    ended = subst (λ ks. EndsWith q tape key ks known) waiting_are d.end

    hold : AllHold q tape (meant q tape) known
    hold = held q some tape regular known d.checked

    number : length walks ≡ length rest + 1
    number = ap (λ (ws : List Search). length ws) popped ∙ length-append rest (walk ∷ [])

    -- It lacks a need, so it waits, and the walk for the need comes after it.
    module _ (after next : Search) (same : after.key ≡ walk.key) (searched : Searched q tape known after) (fresh : Searched q tape known next)
        (missing : IsMissing q tape known (λ a. needs q tape a walk.key) next.key) where
      abbrev pub pushed : List Search
      pushed = (rest ++ after ∷ []) ++ next ∷ []

      pushed_reversed : reverse pushed ≡ next ∷ (after ∷ reverse rest)
      pushed_reversed = reverse-append (rest ++ after ∷ []) (next ∷ []) ∙ ap (λ ws. next ∷ ws) (reverse-append rest (after ∷ []))

      pushed_waiting : waiting pushed ≡ next.key ∷ (walk.key ∷ waiting rest)
      pushed_waiting = ap (map (λ (w : Search). w.key)) pushed_reversed ∙ ap (λ k. next.key ∷ (k ∷ waiting rest)) same

      first : StandsBefore q tape next.key walk.key
      first = need_before next.key walk.key (missing.needed (meant q tape) hold)

      below : (l : Key) → IsIn l (walk.key ∷ waiting rest) → StandsBefore q tape next.key l
      below l (inl e) = subst (StandsBefore q tape next.key) (sym e) first
      below l (inr h) = before_that next.key walk.key l first (stacked.0 l h)

      pushed_stacked : AreStacked q tape (next.key ∷ (walk.key ∷ waiting rest))
      pushed_stacked = (below, stacked)

      pushed_keys : (k : Key) → IsIn k (next.key ∷ (walk.key ∷ waiting rest)) → IsKeyOf q tape k × IsNeeded q tape key k × (Stands k known → ⊥)
      pushed_keys k (inl e) =
          subst (λ (l : Key). IsKeyOf q tape l × IsNeeded q tape key l × (Stands l known → ⊥)) (sym e)
          (missing.key, (λ facts checked stands. needed_too walk.key next.key first facts checked ((of_key walk.key (inl refl)).1 facts checked stands)), missing.absent)
      pushed_keys k (inr h) = of_key k h

      pushed_searched : (w : Search) → IsIn w (next ∷ (after ∷ reverse rest)) → Searched q tape known w
      pushed_searched w (inl e) = subst (Searched q tape known) (sym e) fresh
      pushed_searched w (inr (inl e)) = subst (Searched q tape known) (sym e) searched
      pushed_searched w (inr (inr h)) = d.searched w (subst (λ ws. IsIn w ws) (sym reversed) (inr h))

      pub deriving_on : length known + length pushed ≤ 2 ^ 20 → IsDeriving q tape key known pushed
      deriving_on few = record {
        checked = d.checked;
        once = d.once;
        facts = d.facts;
        keys = λ k h. pushed_keys k (subst (λ ks. IsIn k ks) pushed_waiting h);
        stacked = subst (AreStacked q tape) (sym pushed_waiting) pushed_stacked;
        searched = λ w h. pushed_searched w (subst (λ ws. IsIn w ws) pushed_reversed h);
        end = subst (λ ks. EndsWith q tape key ks known) (sym pushed_waiting) ended;
        few = few;
      }

      pub deriving_too_many : 2 ^ 20 < length known + length pushed → AreAllTooMany q tape key
      deriving_too_many many =
          let a = length-append (rest ++ after ∷ []) (next ∷ []) in
          let b = length-append rest (after ∷ []) in
          let c = length-map (reverse rest) (λ (w : Search). w.key) in
          let e = length-reverse rest in
          too_many key known (next.key ∷ (walk.key ∷ waiting rest)) d.once d.facts pushed_stacked (λ k h. (let p = pushed_keys k h in (p.1, p.2))) (omega (arith, a, b, c, e, many))

    -- All its needs are known, and so is its fact then.
    module _ (x : Fact) (gives : (a : Account) → AllHold q tape a known → derived q tape a walk.key ≡ x) (stand : AreKnown q tape known (λ a. needs q tape a walk.key)) where
      here : derived q tape (meant q tape) walk.key ≡ x
      here = gives (meant q tape) hold

      x_about : x.key ≡ walk.key
      x_about = about q tape walk.key x here

      passes : Passes q tape known x
      passes = record {
        form = is_fact_of q tape walk.key x popped_key here;
        needed = λ k h. stand (meant q tape) hold k (subst (λ l. IsIn k (needs q tape (meant q tape) l)) x_about h);
        given = ap (derived q tape (meant q tape)) x_about ∙ here;
      }

      abbrev pub more : List Fact
      more = known ++ x ∷ []

      more_checked : IsChecked q tape more
      more_checked = (next_fact q some tape regular known x).1 (d.checked, passes)

      absent : IsIn x.key (map (λ (y : Fact). y.key) known) → ⊥
      absent h = (of_key walk.key (inl refl)).2 (subst (λ k. Stands k known) x_about (key_from known x.key h))

      more_once : StandOnce more
      more_once =
          subst AreDistinct (sym (map-append (λ (y : Fact). y.key) known (x ∷ [])))
          (distinct_append (map (λ (y : Fact). y.key) known) (x.key ∷ []) d.once ((λ h. h), tt) (λ k h. only k h))
        where
          only : (k : Key) → IsIn k (map (λ (y : Fact). y.key) known) → IsIn k (x.key ∷ []) → ⊥
          only k h (inl e) = absent (subst (λ l. IsIn l (map (λ (y : Fact). y.key) known)) e h)
          only k h (inr none) = none

      not_waiting : (k : Key) → IsIn k (waiting rest) → x.key ≡ k → ⊥
      not_waiting k h same =
          not_itself walk.key more (subst (StandsBefore q tape walk.key) (sym same ∙ x_about) (stacked.0 k h)) more_checked (x, IsIn-append_second known (x ∷ []) x (inl refl), x_about)

      more_keys : (k : Key) → IsIn k (waiting rest) → IsKeyOf q tape k × IsNeeded q tape key k × (Stands k more → ⊥)
      more_keys k h = let old = of_key k (inr h) in (old.0, old.1, (λ s. elim (stands_more k known x s) [ inl there ↦ old.2 there | inr same ↦ not_waiting k h same ]))

      more_needed : AreNeeded q tape key more
      more_needed y h = elim (IsIn-append known (x ∷ []) y h) [
        | inl old ↦ d.facts y old
        | inr (inl e) ↦ subst (IsNeeded q tape key) (sym (ap (λ (z : Fact). z.key) e ∙ x_about)) (of_key walk.key (inl refl)).1
        | inr (inr none) ↦ absurd none
      ]

      more_end : (ks : List Key) → EndsWith q tape key (walk.key ∷ ks) known → EndsWith q tape key ks more
      more_end [] e = (known, x, refl, x_about ∙ e)
      more_end (k ∷ ks) e = same_end key k ks known more e

      pub deriving_more : IsDeriving q tape key more rest
      deriving_more = record {
        checked = more_checked;
        once = more_once;
        facts = more_needed;
        keys = more_keys;
        stacked = stacked.1;
        searched = λ w h. past_grows q tape (λ a. group q tape a w.key) known w.place x (d.searched w (subst (λ ws. IsIn w ws) (sym reversed) (inr h)));
        end = more_end (waiting rest) ended;
        few = let a = length-append known (x ∷ []) in let b = d.few in let c = number in omega (arith, a, b, c);
      }

  pub derived_all : (key : Key) (known : List Fact) → IsDeriving q tape key known [] → IsDerivation q tape key known
  derived_all key known d = record { checked = d.checked; once = d.once; before = d.end.0; last = d.end.1; is = d.end.2; about = d.end.3 }
