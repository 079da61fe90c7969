-- The pass against the arrows, and what it says of cycles.
use Rattle.std.proofs.Common.{ℕ, zero, suc, ◌≡◌, ◌+◌, ◌<◌, ◌≤◌, length, List, [], ◌∷◌, ◌++◌, get_or, set, Bool, true, false, ◌⊎◌, inl, inr, refl, sym, ◌∙◌, ap, arith, subst, eq-eqb}
use Rattle.std.specs.Prelude.{◌==◌}
use Rattle.std.specs.List.{list_any}
use Rattle.std.proofs.lemmas.Bool.{eqb-true, cases_eq}
use Rattle.std.proofs.lemmas.List.{append_assoc, append-nil, length-set, length-append, get_or-set_same, get_or_append_left}
use Rattle.law_base.specs.Members.{IsIn, AreDistinct}
use Rattle.law_base.proofs.Members.{IsIn-append, IsIn-append_first, IsIn-append_second, list_any-IsIn, IsIn-list_any}
use Rattle.law_base.proofs.Tests.{not_true}
use Rattle.cycle_order.specs.Reach.{leads, reaches_itself, is_marked, IsWithin, IsMarking}
use Rattle.cycle_order.specs.Passes.{IsWayOf, IsWay, IsFinish, IsTurned, IsTree, AreLeaders}
use Rattle.cycle_order.proofs.Renaming.{same_tests}
use Rattle.cycle_order.proofs.Searching.{is_led_to, leads_to, source_within, marked_within}
use Rattle.cycle_order.proofs.Finishing.{place_of}
use Rattle.cycle_order.proofs.Lists.{IsIn-get_or}
use Rattle.cycle_order.proofs.Marking.{marked-set}
use Rattle.cycle_order.proofs.Ways.{here, arrow_first, one_arrow, joined_ways, closed_back, reaches_by_way, way_by_reaches, turned_way}

parted : (xs : List ℕ) (x : ℕ) → IsIn x xs → (front : List ℕ) × (back : List ℕ) × (xs ≡ front ++ x ∷ back)
parted [] x h = absurd h
parted (y ∷ ys) x (inl e) = ([], ys, ap (λ z. z ∷ ys) (sym e))
parted (y ∷ ys) x (inr h) = let k = parted ys x h in (y ∷ k.0, k.1, ap (λ zs. y ∷ zs) k.2)

distinct_parts : (xs ys : List ℕ) (w : ℕ) → AreDistinct (xs ++ ys) → IsIn w ys → IsIn w xs → ⊥
distinct_parts [] ys w d h k = k
distinct_parts (x ∷ xs) ys w d h (inl e) = d.0 (IsIn-append_second xs ys x (subst (λ y. IsIn y ys) e h))
distinct_parts (x ∷ xs) ys w d h (inr k) = distinct_parts xs ys w d.1 h k

-- What a search against the arrows knows on the way: a list of what is found, of which so many have been looked at.
pub record IsGathering (back : List (List ℕ)) (root : ℕ) (old marks : List Bool) (tree : List ℕ) (first : ℕ) : Type 0 where
  pub number : length marks ≡ length back
  pub bound : first ≤ length tree
  pub root_in : IsIn root tree
  pub marked : (v : ℕ) → IsIn v tree → is_marked marks v ≡ true
  pub kept : (v : ℕ) → is_marked old v ≡ true → is_marked marks v ≡ true
  pub only : (v : ℕ) → is_marked marks v ≡ true → (is_marked old v ≡ true) ⊎ IsIn v tree
  pub fresh : (v : ℕ) → IsIn v tree → is_marked old v ≡ false
  pub way : (v : ℕ) → IsIn v tree → IsWay back root v
  pub closed : (j a : ℕ) → j < first → leads back (get_or tree j 0) a ≡ true → is_marked marks a ≡ true

-- What the pass against the arrows knows: the vertices finished later have leaders, with all that reach them.
pub record IsLeading (arrows : List (List ℕ)) (order rest : List ℕ) (marks : List Bool) (leaders : List ℕ) : Type 0 where
  pub later : List ℕ
  pub whole : order ≡ rest ++ later
  pub number : length marks ≡ length arrows
  pub leaders_number : length leaders ≡ length arrows
  pub assigned : (v : ℕ) → IsIn v later → is_marked marks v ≡ true
  pub closed : (a b : ℕ) → leads arrows a b ≡ true → is_marked marks b ≡ true → is_marked marks a ≡ true
  pub led : (v : ℕ) → is_marked marks v ≡ true → IsWay arrows v (get_or leaders v 0) × IsWay arrows (get_or leaders v 0) v
  pub same : (a b : ℕ) → is_marked marks a ≡ true → IsWay arrows a b → IsWay arrows b a → get_or leaders a 0 ≡ get_or leaders b 0

module _ (arrows : List (List ℕ)) (order : List ℕ) (finish : IsFinish arrows order) where
  -- Each vertex that reaches r reaches, there and back, one that is finished no earlier than r.
  pub leader : (earlier later : List ℕ) (r : ℕ) → order ≡ earlier ++ r ∷ later → (n x : ℕ) → IsWayOf arrows n x r → (w : ℕ) × IsIn w (r ∷ later) × IsWay arrows x w × IsWay arrows w x
  leader earlier later r is zero x e = (r, inl refl, (0, e), (0, sym e))
  leader earlier later r is (suc n) x way =
      let c = way.0 in
      let k = leader earlier later r is n c way.2 in
      let x_in : IsIn x (earlier ++ r ∷ later) = subst (λ xs. IsIn x xs) is (finish.all x (source_within arrows x c way.1)) in
      elim (IsIn-append earlier (r ∷ later) x x_in) [
        | inl early ↦
            let parts = parted earlier x early in
            let whole : order ≡ parts.0 ++ x ∷ (parts.1 ++ r ∷ later) = is ∙ ap (λ xs. xs ++ r ∷ later) parts.2 ∙ append_assoc parts.0 (x ∷ parts.1) (r ∷ later) in
            let apart = distinct_parts earlier (r ∷ later) k.0 (subst (λ xs. AreDistinct xs) is finish.distinct) k.1 in
            let not_front : IsIn k.0 parts.0 → ⊥ = λ m. apart (subst (λ xs. IsIn k.0 xs) (sym parts.2) (IsIn-append_first parts.0 (x ∷ parts.1) k.0 m)) in
            let not_x : k.0 ≡ x → ⊥ = λ e. apart (subst (λ y. IsIn y earlier) (sym e) early) in
            let home = finish.finished parts.0 (parts.1 ++ r ∷ later) x c k.0 whole way.1 not_front not_x k.2 in
            (k.0, k.1, arrow_first arrows x c k.0 way.1 k.2, joined_ways arrows k.0 c x k.3 home)
        | inr late ↦ (x, late, here arrows x, here arrows x)
      ]

  pub leading_starts : (marks : List Bool) (leaders : List ℕ) → length marks ≡ length arrows → length leaders ≡ length arrows → ((v : ℕ) → is_marked marks v ≡ false) → IsLeading arrows order order marks leaders
  leading_starts marks leaders number leaders_number none = record {
    later = [];
    whole = sym (append-nil order);
    number = number;
    leaders_number = leaders_number;
    assigned = λ v h. absurd h;
    closed = λ a b h m. let f = none b in absurd cc;
    led = λ v m. let f = none v in absurd cc;
    same = λ a b m w k. let f = none a in absurd cc;
  }

  pub leading_ends : (marks : List Bool) (leaders : List ℕ) → IsLeading arrows order [] marks leaders → AreLeaders arrows leaders
  leading_ends marks leaders p = record {
    number = p.leaders_number;
    together = λ a b l m e.
        let la = p.led a (all a l) in
        let lb = p.led b (all b m) in
        joined_ways arrows a (get_or leaders a 0) b la.0 (subst (λ x. IsWay arrows x b) (sym e) lb.1);
    same = λ a b l m w k. p.same a b (all a l) w k;
  }
    where
      all : (v : ℕ) → v < length arrows → is_marked marks v ≡ true
      all v l = p.assigned v (subst (λ xs. IsIn v xs) p.whole (finish.all v l))

  module _ (rest : List ℕ) (r : ℕ) (marks : List Bool) (leaders : List ℕ) (p : IsLeading arrows order (rest ++ r ∷ []) marks leaders) where
    goes_on : order ≡ rest ++ r ∷ p.later
    goes_on = p.whole ∙ append_assoc rest (r ∷ []) p.later

    pub root_within : r < length arrows
    root_within = finish.within r (subst (λ xs. IsIn r xs) (sym goes_on) (IsIn-append_second rest (r ∷ p.later) r (inl refl)))

    reach_marked : (a b : ℕ) → IsWay arrows a b → is_marked marks b ≡ true → is_marked marks a ≡ true
    reach_marked a b w m = closed_back arrows (λ v. is_marked marks v ≡ true) p.closed w.0 a b w.1 m

    -- the root has a leader already
    pub leading_skips : is_marked marks r ≡ true → IsLeading arrows order rest marks leaders
    leading_skips m = record {
      later = r ∷ p.later;
      whole = goes_on;
      number = p.number;
      leaders_number = p.leaders_number;
      assigned = λ v h. elim h [ inl e ↦ subst (λ x. is_marked marks x ≡ true) (sym e) m | inr k ↦ p.assigned v k ];
      closed = p.closed;
      led = p.led;
      same = p.same;
    }

    -- the root leads what reaches it and had no leader
    module _ (back : List (List ℕ)) (turned : IsTurned arrows back) (marks' : List Bool) (tree : List ℕ) (t : IsTree back r marks marks' tree) (leaders' : List ℕ)
        (number : length marks' ≡ length marks) (leaders_number : length leaders' ≡ length leaders)
        (leads_tree : (v : ℕ) → IsIn v tree → get_or leaders' v 0 ≡ r) (leads_others : (v : ℕ) → (IsIn v tree → ⊥) → get_or leaders' v 0 ≡ get_or leaders v 0) where
      old_kept : (v : ℕ) → is_marked marks v ≡ true → get_or leaders' v 0 ≡ get_or leaders v 0
      old_kept v m = leads_others v (λ k. let f = t.fresh v k in absurd cc)

      to_root : (v : ℕ) → IsIn v tree → IsWay arrows v r
      to_root v k = turned_way arrows back turned r v (t.way v k)

      from_root : (v : ℕ) → IsIn v tree → IsWay arrows r v
      from_root v k =
          let w = to_root v k in
          let l = leader rest p.later r goes_on w.0 v w.1 in
          elim l.1 [
            | inl e ↦ subst (λ x. IsWay arrows x v) e l.3
            | inr m ↦
                let marked = reach_marked v l.0 l.2 (p.assigned l.0 m) in
                let f = t.fresh v k in absurd cc
          ]

      closed' : (a b : ℕ) → leads arrows a b ≡ true → is_marked marks' b ≡ true → is_marked marks' a ≡ true
      closed' a b h m = elim (t.only b m) [
        | inl k ↦ t.kept a (p.closed a b h k)
        | inr k ↦ t.closed b a k (turned.forth a b h)
      ]

      pub leading_goes_on : IsLeading arrows order rest marks' leaders'
      leading_goes_on = record {
        later = r ∷ p.later;
        whole = goes_on;
        number = number ∙ p.number;
        leaders_number = leaders_number ∙ p.leaders_number;
        assigned = λ v h. elim h [ inl e ↦ subst (λ x. is_marked marks' x ≡ true) (sym e) (t.marked r t.root_in) | inr k ↦ t.kept v (p.assigned v k) ];
        closed = closed';
        led = λ v m. elim (t.only v m) [
          | inl k ↦
              let old = p.led v k in
              let e = old_kept v k in
              (subst (λ x. IsWay arrows v x) (sym e) old.0, subst (λ x. IsWay arrows x v) (sym e) old.1)
          | inr k ↦ let e = leads_tree v k in (subst (λ x. IsWay arrows v x) (sym e) (to_root v k), subst (λ x. IsWay arrows x v) (sym e) (from_root v k))
        ];
        same = λ a b m w k. elim (t.only a m) [
          | inl old ↦ old_kept a old ∙ p.same a b old w k ∙ sym (old_kept b (reach_marked b a k old))
          | inr new ↦ elim (t.only b (closed_back arrows (λ v. is_marked marks' v ≡ true) closed' k.0 b a k.1 m)) [
            | inl old ↦ let marked = reach_marked a b w old in let f = t.fresh a new in absurd cc
            | inr there ↦ leads_tree a new ∙ sym (leads_tree b there)
          ]
        ];
      }

-- a vertex reaches itself where one of its arrows leads to a vertex with its leader
pub led_round : (arrows : List (List ℕ)) (leaders : List ℕ) → IsWithin arrows → AreLeaders arrows leaders → (v : ℕ) → v < length arrows
    → list_any (λ u. get_or leaders u 0 == get_or leaders v 0) (get_or arrows v []) ≡ reaches_itself arrows v
led_round arrows leaders within p v l = same_tests _ _
    (λ h.
    let k : (u : ℕ) × IsIn u (get_or arrows v []) × ((get_or leaders u 0 == get_or leaders v 0) ≡ true) = IsIn-list_any (λ u. get_or leaders u 0 == get_or leaders v 0) (get_or arrows v []) h in
    let arrow = leads_to arrows v k.0 k.1 in
    reaches_by_way arrows within v k.0 arrow (p.together k.0 v (within v k.0 arrow) l (eqb-true (get_or leaders k.0 0) (get_or leaders v 0) k.2)))
    (λ h.
    let k = way_by_reaches arrows v h in
    let e = p.same k.0 v (within v k.0 k.1) l k.2 (one_arrow arrows v k.0 k.1) in
    list_any-IsIn (λ u. get_or leaders u 0 == get_or leaders v 0) (get_or arrows v []) k.0 (is_led_to arrows v k.0 k.1) (eq-eqb (get_or leaders k.0 0) (get_or leaders v 0) e))

-- ---- the search against the arrows

module _ (back : List (List ℕ)) (root : ℕ) (old : List Bool) where
  pub gathering_starts : length old ≡ length back → root < length back → is_marked old root ≡ false → IsGathering back root old (set old root true) (root ∷ []) 0
  gathering_starts number l new = record {
    number = length-set old root true ∙ number;
    bound = omega arith;
    root_in = inl refl;
    marked = λ v h. elim h [ inl e ↦ subst (λ x. is_marked (set old root true) x ≡ true) (sym e) (get_or-set_same old root true false below) | inr k ↦ absurd k ];
    kept = λ v m. elim (marked-set old root v below) [
      | inl e ↦ subst (λ x. is_marked (set old root true) x ≡ true) (sym e) (get_or-set_same old root true false below)
      | inr e ↦ e ∙ m
    ];
    only = λ v m. elim (marked-set old root v below) [ inl e ↦ inr (inl e) | inr e ↦ inl (sym e ∙ m) ];
    fresh = λ v h. elim h [ inl e ↦ subst (λ x. is_marked old x ≡ false) (sym e) new | inr k ↦ absurd k ];
    way = λ v h. elim h [ inl e ↦ (0, sym e) | inr k ↦ absurd k ];
    closed = λ j a k. absurd (omega arith);
  }
    where
      below : root < length old
      below = subst (λ n. root < n) (sym number) l

  module _ (marks : List Bool) (tree : List ℕ) (first : ℕ) (p : IsGathering back root old marks tree first) where
    pub first_within : first < length tree → get_or tree first 0 < length back
    first_within l = subst (λ n. get_or tree first 0 < n) p.number (marked_within marks (get_or tree first 0) (p.marked (get_or tree first 0) (IsIn-get_or tree first 0 l)))

    pub gathering_goes_on : first < length tree → (marks' : List Bool) (tree' : List ℕ) → length marks' ≡ length marks → IsMarking (get_or back (get_or tree first 0) []) marks tree marks' tree'
        → IsGathering back root old marks' tree' (first + 1)
    gathering_goes_on l marks' tree' number r = record {
      number = number ∙ p.number;
      bound = let n = length-append tree r.more in let e = ap length r.goes_on in omega arith;
      root_in = in_front root p.root_in;
      marked = λ v h. elim (r.from v h) [ inl k ↦ r.kept v (p.marked v k) | inr k ↦ r.targets v k.0 ];
      kept = λ v m. r.kept v (p.kept v m);
      only = λ v m. elim (r.fresh v m) [
        | inl k ↦ elim (p.only v k) [ inl k ↦ inl k | inr k ↦ inr (in_front v k) ]
        | inr k ↦ inr k
      ];
      fresh = λ v h. elim (r.from v h) [
        | inl k ↦ p.fresh v k
        | inr k ↦ not_true (is_marked old v) (λ t. let m = p.kept v t in let f = k.1 in absurd cc)
      ];
      way = λ v h. elim (r.from v h) [
        | inl k ↦ p.way v k
        | inr k ↦ joined_ways back root (get_or tree first 0) v (p.way (get_or tree first 0) (IsIn-get_or tree first 0 l)) (one_arrow back (get_or tree first 0) v (leads_to back (get_or tree first 0) v k.0))
      ];
      closed = λ j a k h. elim (cases_eq j first) [
        | inl e ↦ r.targets a (is_led_to back (get_or tree first 0) a (subst (λ i. leads back (get_or tree i 0) a ≡ true) e (subst (λ x. leads back x a ≡ true) (stays j (omega arith)) h)))
        | inr ne ↦ r.kept a (p.closed j a (omega arith) (subst (λ x. leads back x a ≡ true) (stays j (omega arith)) h))
      ];
    }
      where
        in_front : (v : ℕ) → IsIn v tree → IsIn v tree'
        in_front v k = subst (λ xs. IsIn v xs) (sym r.goes_on) (IsIn-append_first tree r.more v k)

        stays : (j : ℕ) → j < length tree → get_or tree' j 0 ≡ get_or tree j 0
        stays j m = ap (λ xs. get_or xs j 0) r.goes_on ∙ get_or_append_left tree r.more 0 j m

    pub gathering_ends : length tree ≤ first → IsTree back root old marks tree
    gathering_ends l = record {
      root_in = p.root_in;
      marked = p.marked;
      kept = p.kept;
      only = p.only;
      fresh = p.fresh;
      way = p.way;
      closed = λ b a h k.
          let j = place_of tree b h in
          p.closed j.0 a (omega arith) (subst (λ x. leads back x a ≡ true) (sym j.2) k);
    }
