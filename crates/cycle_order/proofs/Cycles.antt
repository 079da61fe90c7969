-- Which nodes are delays in a cycle.
use Rattle.std.proofs.Common.{ℕ, suc, ◌≡◌, ◌<◌, ◌+◌, length, List, [], ◌∷◌, map, All, Bool, true, false, inl, inr, refl, sym, ◌∙◌, ap, arith, subst}
use Rattle.std.specs.Prelude.{◌==◌, ◌&&◌, ◌||◌, take, slice_index_or, slice_set}
use Rattle.std.specs.List.{list_any}
use Rattle.std.proofs.lemmas.Bool.Decides.{nat_tests}
use Rattle.std.proofs.lemmas.List.{get_or-set_same, get_or-set_other}
use Rattle.std.proofs.lemmas.List.Folds.{list_any_more}
use Rattle.wa_base.specs.declared.graph_names.NodeId.{NodeId}
use Rattle.law_base.specs.Members.{IsIn}
use Rattle.law_base.proofs.Members.{IsIn-filter, IsIn-filter_from, IsIn-list_any, list_any-IsIn}
use Rattle.conn_graph.specs.declared.edges.Ports.{Ports}
use Rattle.conn_graph.specs.Graph.{Connections}
use Rattle.conn_graph.specs.Ends.{numbers_from, is_delay, in_cycle}
use Rattle.conn_graph.proofs.MutingLaws.{has_number}
use Rattle.cycle_order.specs.Surveys.{node_id, delays_in_cycle, TellCycles}
use Rattle.cycle_order.proofs.Renaming.{same_tests}
use Rattle.cycle_order.proofs.Lists.{IsIn-get_or}

-- whether a node has a number
abbrev pub has_number_of : ℕ → NodeId → Bool
has_number_of n node = node.0 == n

below : (a x : ℕ) (ns : List Ports) → IsIn x (numbers_from a ns) → x < a + length ns
below a x [] h = absurd h
below a x (n ∷ ns) (inl e) = omega (arith, e)
below a x (n ∷ ns) (inr h) = let l = below (suc a) x ns h in omega (arith, l)

in_map : (xs : List ℕ) (x : ℕ) → IsIn x xs → IsIn (node_id x) (map node_id xs)
in_map [] x h = absurd h
in_map (y ∷ ys) x (inl e) = inl (ap node_id e)
in_map (y ∷ ys) x (inr h) = inr (in_map ys x h)

of_map : (xs : List ℕ) (node : NodeId) → IsIn node (map node_id xs) → IsIn node.0 xs
of_map [] node h = absurd h
of_map (y ∷ ys) node (inl e) = inl (ap (λ (m : NodeId). m.0) e)
of_map (y ∷ ys) node (inr h) = inr (of_map ys node h)

module _ (g : Connections) where
  abbrev cyclic : ℕ → Bool
  cyclic i = is_delay g i && in_cycle g i

  -- the nodes that are listed are there
  pub listed_below : All (λ (node : NodeId). node.0 < length g.nodes) (delays_in_cycle g)
  unfolding delays_in_cycle
  listed_below k d l = let low = below 0 _ g.nodes (IsIn-filter cyclic (numbers_from 0 g.nodes) _ (of_map _ _ (IsIn-get_or (delays_in_cycle g) k d l))).0 in omega (arith, low)

  -- and they are those in a cycle
  pub cycle_listed : (n : ℕ) → n < length g.nodes → list_any (has_number_of n) (delays_in_cycle g) ≡ (is_delay g n && in_cycle g n)
  unfolding delays_in_cycle
  cycle_listed n l = same_tests _ _ to from
    where
      to : list_any (has_number_of n) (delays_in_cycle g) ≡ true → cyclic n ≡ true
      to h =
          let member = IsIn-list_any (has_number_of n) (delays_in_cycle g) h in
          let node : NodeId = member.0 in
          let same : node.0 ≡ n = let test : (node.0 == n) ≡ true = member.2 in grind (arith, nat_tests) in
          subst (λ k. cyclic k ≡ true) same (IsIn-filter cyclic (numbers_from 0 g.nodes) node.0 (of_map _ node member.1)).1

      from : cyclic n ≡ true → list_any (has_number_of n) (delays_in_cycle g) ≡ true
      from h = list_any-IsIn (has_number_of n) (delays_in_cycle g) (node_id n) (in_map _ n (IsIn-filter_from cyclic (numbers_from 0 g.nodes) n (has_number g n l) h)) (let e : (n == n) ≡ true = grind (arith, nat_tests) in e)

-- one more mark
pub marked_more : (marks : List Bool) (listed : List NodeId) (i n : ℕ) (d : NodeId) → i < length listed → (slice_index_or listed i d).0 < length marks
    → slice_index_or marks n false ≡ list_any (has_number_of n) (take i listed)
    → slice_index_or (slice_set marks (slice_index_or listed i d).0 true) n false ≡ list_any (has_number_of n) (take (i + 1) listed)
marked_more marks listed i n d l within before =
    by_place ((slice_index_or listed i d).0 == n) refl ∙ sym (list_any_more (has_number_of n) listed i d l)
  where
    or_true : (b : Bool) → true ≡ (b || true)
    or_true true = refl
    or_true false = refl

    or_false : (b : Bool) → b ≡ (b || false)
    or_false true = refl
    or_false false = refl

    by_place : (b : Bool) → ((slice_index_or listed i d).0 == n) ≡ b → slice_index_or (slice_set marks (slice_index_or listed i d).0 true) n false ≡ (list_any (has_number_of n) (take i listed) || has_number_of n (slice_index_or listed i d))
    by_place true t =
        let here : (slice_index_or listed i d).0 ≡ n = grind (arith, nat_tests) in
        ap (λ k. slice_index_or (slice_set marks (slice_index_or listed i d).0 true) k false) (sym here)
        ∙ get_or-set_same marks (slice_index_or listed i d).0 true false within
        ∙ or_true (list_any (has_number_of n) (take i listed))
        ∙ ap (λ b. list_any (has_number_of n) (take i listed) || b) (sym t)
    by_place false t =
        let apart : n ≡ (slice_index_or listed i d).0 → ⊥ = λ e. grind (arith, nat_tests) in
        get_or-set_other marks (slice_index_or listed i d).0 n true false apart
        ∙ before
        ∙ or_false (list_any (has_number_of n) (take i listed))
        ∙ ap (λ b. list_any (has_number_of n) (take i listed) || b) (sym t)

pub listed_tell : (g : Connections) (marks : List Bool) → length marks ≡ length g.nodes → ((n : ℕ) → n < length g.nodes → slice_index_or marks n false ≡ list_any (has_number_of n) (delays_in_cycle g)) → TellCycles g marks
listed_tell g marks long each = record { number = long; delays = λ i l d. each i l ∙ cycle_listed g i l ∙ ap (λ b. b && in_cycle g i) d }
