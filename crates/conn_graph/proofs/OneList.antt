-- One list of cells that becomes longer or shorter by a cell.
use Rattle.std.proofs.Common.{ℕ, ◌≡◌, [], ◌∷◌, ◌++◌, Bool, true, false, Option, None, Some, option_map, is_some, ◌⊎◌, inl, inr, refl, sym, ◌∙◌, ap, subst, arith, eq-eqb}
use Rattle.std.specs.Prelude.{◌==◌, if◌then◌else◌}
use Rattle.std.proofs.lemmas.Bool.{eqb-true}
use Rattle.std.proofs.lemmas.List.{length-append}
use Rattle.law_base.specs.Members.{IsIn, AreDistinct}
use Rattle.law_base.proofs.Members.{IsIn-append, IsIn-append_first, IsIn-append_second}
use Rattle.conn_graph.specs.declared.cells.Ends.{Ends}
use Rattle.conn_graph.specs.declared.cells.Links.{Links}
use Rattle.conn_graph.specs.declared.edges.Edge.{Edge}
use Rattle.conn_graph.specs.Walks.{Walk}
use Rattle.conn_graph.specs.Lists.{longer, shorter, changed, keys, first_of, last_of, IsLinked, IsList}
use Rattle.conn_graph.proofs.Segments.{last_in_all, first_in, last_append, step_of_key, distinct_first, distinct_second, apart, distinct_without, distinct_with, joined, parted, linked_still, linked_on, linked_back, linked_at}

-- ---- a change at one key, if there is one

pub changed_not : {X : Type 0} (f : X → X) (key : Option ℕ) (k : ℕ) (c : Option X) → (key ≡ Some k → ⊥) → changed f key k c ≡ c
changed_not f None k c other = refl
changed_not {X} f (Some key) k c other = by_test (k == key) refl
  where
    by_test : (b : Bool) → (k == key) ≡ b → (if b then option_map f c else c) ≡ c
    by_test true is = absurd (other (ap Some (sym (eqb-true k key is))))
    by_test false is = refl

pub changed_here : {X : Type 0} (f : X → X) (key : Option ℕ) (k : ℕ) (c : Option X) → key ≡ Some k → changed f key k c ≡ option_map f c
changed_here f key k c here = ap (λ o. changed f o k c) here ∙ ap (λ b. if b then option_map f c else c) (eq-eqb k k refl)

-- a change as a part of the whole sees it
pub changed_map : {X Y : Type 0} (v : X → Y) (f : X → X) (g : Y → Y) → ((x : X) → v (f x) ≡ g (v x)) → (key : Option ℕ) (k : ℕ) (c : Option X) → option_map v (changed f key k c) ≡ changed g key k (option_map v c)
changed_map v f g same None k c = refl
changed_map v f g same (Some key) k None = by_test (k == key)
  where
    by_test : (b : Bool) → option_map v (if b then None else None) ≡ (if b then None else None)
    by_test true = refl
    by_test false = refl
changed_map v f g same (Some key) k (Some x) = by_test (k == key)
  where
    by_test : (b : Bool) → option_map v (if b then Some (f x) else Some x) ≡ (if b then Some (g (v x)) else Some (v x))
    by_test true = ap Some (same x)
    by_test false = refl

pub changed_same : {Y : Type 0} (key : Option ℕ) (k : ℕ) (c : Option Y) → changed (λ y. y) key k c ≡ c
changed_same None k c = refl
changed_same {Y} (Some key) k c = by_test (k == key) c
  where
    by_test : (b : Bool) (o : Option Y) → (if b then option_map (λ (y : Y). y) o else o) ≡ o
    by_test true None = refl
    by_test true (Some y) = refl
    by_test false o = refl

abbrev pub to_behind : Option ℕ → Edge × Links → Edge × Links
to_behind behind s = (s.0, record s.1 { behind = behind })

abbrev pub to_before : Option ℕ → Edge × Links → Edge × Links
to_before before s = (s.0, record s.1 { before = before })

-- ---- one list

-- a key of a list has a cell
pub key_held : (at : ℕ → Option (Edge × Links)) (xs : Walk) (k : ℕ) → IsLinked at None xs None → IsIn k (keys xs) → at k ≡ None → ⊥
key_held at xs k h m none =
    let s = step_of_key xs k m in
    let is = linked_at at None None xs s.0 h s.1 in
    let gone : at s.0.0 ≡ None = subst (λ j. at j ≡ None) s.2 none in
    absurd (let both : Some (s.0.1, is.0) ≡ None = sym is.1 ∙ gone in cc)

pub list_still : (at at' : ℕ → Option (Edge × Links)) (end : Edge → ℕ) (node : ℕ) (ends ends' : Ends) (xs : Walk) → ends' ≡ ends → ((k : ℕ) → IsIn k (keys xs) → at' k ≡ at k) → IsList at end node ends xs → IsList at' end node ends' xs
list_still at at' end node ends ends' xs same still h = subst (λ n. IsList at' end node n xs) (sym same) (record {
  first = h.first;
  last = h.last;
  count = h.count;
  linked = linked_still at at' None None xs still h.linked;
  once = h.once;
  own = h.own;
})

module _ (at at' : ℕ → Option (Edge × Links)) (end : Edge → ℕ) (node : ℕ) (ends : Ends) where
  pub list_longer : (xs : Walk) (key : ℕ) (e : Edge) → IsList at end node ends xs → at key ≡ None → at' key ≡ Some (e, record { before = ends.last; behind = None })
      → ((k : ℕ) → (k ≡ key → ⊥) → at' k ≡ changed (to_behind (Some key)) ends.last k (at k)) → end e ≡ node
      → IsList at' end node (longer ends key) (xs ++ (key, e) ∷ [])
  list_longer xs key e h new is others own = record {
    first = first_longer xs ends.first h.first;
    last = sym (last_append None xs ((key, e) ∷ []));
    count = let l = length-append xs ((key, e) ∷ []) in let n = h.count in omega arith;
    linked = joined at' None None xs ((key, e) ∷ []) (linked_on at at' None None (Some key) xs h.once still last h.linked)
        (is ∙ ap (λ o. Some (e, record { before = o; behind = None })) h.last, tt);
    once = distinct_with xs (key, e) (λ m. key_held at xs key h.linked m new) h.once;
    own = λ step m. owned step (IsIn-append xs ((key, e) ∷ []) step m);
  }
    where
      first_longer : (ys : Walk) (o : Option ℕ) → o ≡ first_of ys None → (if is_some o then o else Some key) ≡ first_of (ys ++ (key, e) ∷ []) None
      first_longer [] o f = ap (λ p. if is_some p then p else Some key) f
      first_longer (y ∷ ys) o f = ap (λ p. if is_some p then p else Some key) f

      other : (k : ℕ) → IsIn k (keys xs) → k ≡ key → ⊥
      other k m same = key_held at xs k h.linked m (ap at same ∙ new)

      still : (k : ℕ) → IsIn k (keys xs) → (last_of None xs ≡ Some k → ⊥) → at' k ≡ at k
      still k m not_last = others k (other k m) ∙ changed_not (to_behind (Some key)) ends.last k (at k) (λ l. not_last (sym h.last ∙ l))

      last : (k : ℕ) (x : Edge) (l : Links) → last_of None xs ≡ Some k → at k ≡ Some (x, l) → at' k ≡ Some (x, record l { behind = Some key })
      last k x l is_last there =
          others k (other k (last_in_all xs k is_last))
          ∙ changed_here (to_behind (Some key)) ends.last k (at k) (h.last ∙ is_last)
          ∙ ap (option_map (to_behind (Some key))) there

      owned : (step : ℕ × Edge) → (IsIn step xs ⊎ IsIn step ((key, e) ∷ [])) → end step.1 ≡ node
      owned step (inl m) = h.own step m
      owned step (inr (inl same)) = ap (λ (s : ℕ × Edge). end s.1) same ∙ own
      owned step (inr (inr none)) = absurd none

  -- the links of a cell in the middle of a list
  pub links_there : (front back : Walk) (key : ℕ) (e : Edge) (links : Links) → IsList at end node ends (front ++ (key, e) ∷ back) → at key ≡ Some (e, links) → links ≡ record { before = last_of None front; behind = first_of back None }
  links_there front back key e links h is =
      let there : at key ≡ Some (e, record { before = last_of None front; behind = first_of back None }) = (parted at None None front ((key, e) ∷ back) h.linked).1.0 in
      ap (links_in links) (sym is ∙ there)
    where
      links_in : Links → Option (Edge × Links) → Links
      links_in d None = d
      links_in d (Some s) = s.1

  pub list_shorter : (front back : Walk) (key : ℕ) (e : Edge) (links : Links) → IsList at end node ends (front ++ (key, e) ∷ back) → at key ≡ Some (e, links)
      → ((k : ℕ) → (k ≡ key → ⊥) → at' k ≡ changed (to_before links.before) links.behind k (changed (to_behind links.behind) links.before k (at k)))
      → IsList at' end node (shorter ends links) (front ++ back)
  list_shorter front back key e links h is others =
      let same = links_there front back key e links h is in
      let parts = parted at None None front ((key, e) ∷ back) h.linked in
      subst (λ (l : Links). IsList at' end node (shorter ends l) (front ++ back)) (sym same)
      (without (subst (λ (l : Links). (k : ℕ) → (k ≡ key → ⊥) → at' k ≡ changed (to_before l.before) l.behind k (changed (to_behind l.behind) l.before k (at k))) same others) parts.0 parts.1.1)
    where
      before : Option ℕ
      before = last_of None front

      behind : Option ℕ
      behind = first_of back None

      at1 : ℕ → Option (Edge × Links)
      at1 k = changed (to_behind behind) before k (at k)

      once_back : AreDistinct (keys back)
      once_back = (distinct_second front ((key, e) ∷ back) h.once).1

      not_key_front : (k : ℕ) → IsIn k (keys front) → k ≡ key → ⊥
      not_key_front k m same = apart front ((key, e) ∷ back) k h.once m (inl same)

      not_key_back : (k : ℕ) → IsIn k (keys back) → k ≡ key → ⊥
      not_key_back k m same = (distinct_second front ((key, e) ∷ back) h.once).0 (subst (λ j. IsIn j (keys back)) same m)

      not_both : (k : ℕ) → IsIn k (keys front) → IsIn k (keys back) → ⊥
      not_both k a b = apart front back k (distinct_without front (key, e) back h.once) a b

      first_shorter : (ys : Walk) (o : Option ℕ) → o ≡ first_of (ys ++ (key, e) ∷ back) None → (if is_some (last_of None ys) then o else behind) ≡ first_of (ys ++ back) None
      first_shorter [] o f = refl
      first_shorter (y ∷ ys) o f = ap (λ b. if b then o else behind) (some_last (Some y.0) refl ys) ∙ f
        where
          some_last : (p : Option ℕ) → is_some p ≡ true → (zs : Walk) → is_some (last_of p zs) ≡ true
          some_last p t [] = t
          some_last p t (z ∷ zs) = some_last (Some z.0) refl zs

      last_shorter : (ys : Walk) (o : Option ℕ) → o ≡ last_of None (front ++ (key, e) ∷ ys) → (if is_some (first_of ys None) then o else before) ≡ last_of None (front ++ ys)
      last_shorter [] o l = sym (last_append None front [])
      last_shorter (y ∷ ys) o l = l ∙ last_append None front ((key, e) ∷ y ∷ ys) ∙ sym (last_append None front (y ∷ ys))

      in_whole : (step : ℕ × Edge) → (IsIn step front ⊎ IsIn step back) → IsIn step (front ++ (key, e) ∷ back)
      in_whole step (inl m) = IsIn-append_first front ((key, e) ∷ back) step m
      in_whole step (inr m) = IsIn-append_second front ((key, e) ∷ back) step (inr m)

      without : ((k : ℕ) → (k ≡ key → ⊥) → at' k ≡ changed (to_before before) behind k (at1 k)) → IsLinked at None front (Some key) → IsLinked at (Some key) back None
          → IsList at' end node (shorter ends (record { before = before; behind = behind })) (front ++ back)
      without now front_linked back_linked = record {
        first = first_shorter front ends.first h.first;
        last = last_shorter back ends.last h.last;
        count = let l = length-append front back in let m = length-append front ((key, e) ∷ back) in let n = h.count in omega arith;
        linked = joined at' None None front back
            (linked_still at1 at' None behind front
            (λ k m. now k (not_key_front k m) ∙ changed_not (to_before before) behind k (at1 k) (λ b. not_both k m (first_in back k b)))
            (linked_on at at1 None (Some key) behind front (distinct_first front ((key, e) ∷ back) h.once)
            (λ k m not_last. changed_not (to_behind behind) before k (at k) not_last)
            (λ k x l is_last there. changed_here (to_behind behind) before k (at k) is_last ∙ ap (option_map (to_behind behind)) there)
            front_linked))
            (linked_back at1 at' (Some key) None before back once_back
            (λ k m not_first. now k (not_key_back k m) ∙ changed_not (to_before before) behind k (at1 k) not_first)
            (λ k x l is_first there. now k (not_key_back k (first_in back k is_first)) ∙ changed_here (to_before before) behind k (at1 k) is_first ∙ ap (option_map (to_before before)) there)
            (linked_still at at1 (Some key) None back
            (λ k m. changed_not (to_behind behind) before k (at k) (λ b. not_both k (last_in_all front k b) m))
            back_linked));
        once = distinct_without front (key, e) back h.once;
        own = λ step m. h.own step (in_whole step (IsIn-append front back step m));
      }
