-- Which nodes are delays in a cycle, and which readers are muted, by what a survey lists.
use Rattle.std.proofs.Common.{ℕ, suc, ◌≡◌, ◌<◌, ◌+◌, length, List, [], ◌∷◌, map, All, Bool, true, false, inl, inr, refl, sym, ◌∙◌, ap, ap₂, arith, subst}
use Rattle.std.specs.Prelude.{◌==◌, ◌&&◌}
use Rattle.std.specs.List.{list_any}
use Rattle.std.proofs.lemmas.Bool.Decides.{nat_tests}
use Rattle.wa_base.specs.declared.graph_names.End.{End}
use Rattle.wa_base.specs.declared.graph_names.NodeId.{NodeId}
use Rattle.law_base.specs.Members.{IsIn}
use Rattle.law_base.proofs.Members.{IsIn-filter, IsIn-filter_from, IsIn-list_any, list_any-IsIn}
use Rattle.conn_graph.specs.declared.edges.Ports.{Ports}
use Rattle.conn_graph.specs.Graph.{Connections}
use Rattle.conn_graph.specs.Ends.{reader_of, ends, numbers_from, is_delay, in_cycle, muted}
use Rattle.conn_graph.proofs.EndLaws.{end_is, has_end}
use Rattle.conn_graph.proofs.MutingLaws.{has_number, writer_unmuted}
use Rattle.cycle_order.specs.Surveys.{node_id, delays_in_cycle, muted_ends}
use Rattle.cycle_order.proofs.Renaming.{same_tests}
use Rattle.derivations.proofs.Filing.{IsIn-get_or}

-- whether a node has a number, and whether an end is of the node with a number
abbrev pub has_number_of : ℕ → NodeId → Bool
has_number_of n node = node.0 == n

abbrev pub is_of_node : ℕ → End → Bool
is_of_node n end = end.node.0 == n

below : (a x : ℕ) (ns : List Ports) → IsIn x (numbers_from a ns) → x < a + length ns
below a x [] h = absurd h
below a x (n ∷ ns) (inl e) = omega (arith, e)
below a x (n ∷ ns) (inr h) = let l = below (suc a) x ns h in omega (arith, l)

in_map : (xs : List ℕ) (x : ℕ) → IsIn x xs → IsIn (node_id x) (map node_id xs)
in_map [] x h = absurd h
in_map (y ∷ ys) x (inl e) = inl (ap node_id e)
in_map (y ∷ ys) x (inr h) = inr (in_map ys x h)

of_map : (xs : List ℕ) (node : NodeId) → IsIn node (map node_id xs) → IsIn node.0 xs
of_map [] node h = absurd h
of_map (y ∷ ys) node (inl e) = inl (ap (λ (m : NodeId). m.0) e)
of_map (y ∷ ys) node (inr h) = inr (of_map ys node h)

module _ (g : Connections) where
  abbrev cyclic : ℕ → Bool
  cyclic i = is_delay g i && in_cycle g i

  -- the nodes that are listed are there
  pub listed_below : All (λ (node : NodeId). node.0 < length g.nodes) (delays_in_cycle g)
  unfolding delays_in_cycle
  listed_below k d l = let low = below 0 _ g.nodes (IsIn-filter cyclic (numbers_from 0 g.nodes) _ (of_map _ _ (IsIn-get_or (delays_in_cycle g) k d l))).0 in omega (arith, low)

  -- and they are those in a cycle
  pub cycle_listed : (n : ℕ) → n < length g.nodes → list_any (has_number_of n) (delays_in_cycle g) ≡ (is_delay g n && in_cycle g n)
  unfolding delays_in_cycle
  cycle_listed n l = same_tests _ _ to from
    where
      to : list_any (has_number_of n) (delays_in_cycle g) ≡ true → cyclic n ≡ true
      to h =
          let member = IsIn-list_any (has_number_of n) (delays_in_cycle g) h in
          let node : NodeId = member.0 in
          let same : node.0 ≡ n = let test : (node.0 == n) ≡ true = member.2 in grind (arith, nat_tests) in
          subst (λ k. cyclic k ≡ true) same (IsIn-filter cyclic (numbers_from 0 g.nodes) node.0 (of_map _ node member.1)).1

      from : cyclic n ≡ true → list_any (has_number_of n) (delays_in_cycle g) ≡ true
      from h = list_any-IsIn (has_number_of n) (delays_in_cycle g) (node_id n) (in_map _ n (IsIn-filter_from cyclic (numbers_from 0 g.nodes) n (has_number g n l) h)) (let e : (n == n) ≡ true = grind (arith, nat_tests) in e)

  -- so are the nodes of the muted ends
  pub muted_below : All (λ (end : End). end.node.0 < length g.nodes) (muted_ends g)
  unfolding muted_ends
  muted_below k d l = (end_is g _ (IsIn-filter (muted g) (ends g) _ (IsIn-get_or (muted_ends g) k d l)).0).0

  -- which are readers
  muted_reader : (n : ℕ) (e : End) → IsIn e (ends g) → muted g e ≡ true → e.node.0 ≡ n → muted g (reader_of n) ≡ true
  muted_reader n e there is same = by_writer e.writer refl
    where
      by_writer : (t : Bool) → e.writer ≡ t → muted g (reader_of n) ≡ true
      by_writer true w =
          let loud : muted g e ≡ false = ap (λ t. let x : End = record { node = e.node; writer = t } in muted g x) w ∙ writer_unmuted g e.node.0 ((end_is g e there).1 w) in
          absurd cc
      by_writer false w = sym (ap₂ (λ k t. let x : End = record { node = record { 0 = k }; writer = t } in muted g x) same w) ∙ is

  pub muted_listed : (n : ℕ) → n < length g.nodes → list_any (is_of_node n) (muted_ends g) ≡ muted g (reader_of n)
  unfolding muted_ends
  muted_listed n l = same_tests _ _ to from
    where
      to : list_any (is_of_node n) (muted_ends g) ≡ true → muted g (reader_of n) ≡ true
      to h =
          let member = IsIn-list_any (is_of_node n) (muted_ends g) h in
          let end : End = member.0 in
          let same : end.node.0 ≡ n = let test : (end.node.0 == n) ≡ true = member.2 in grind (arith, nat_tests) in
          let found = IsIn-filter (muted g) (ends g) end member.1 in
          muted_reader n end found.0 found.1 same

      from : muted g (reader_of n) ≡ true → list_any (is_of_node n) (muted_ends g) ≡ true
      from h = list_any-IsIn (is_of_node n) (muted_ends g) (reader_of n) (IsIn-filter_from (muted g) (ends g) (reader_of n) (has_end g n l) h) (let e : (n == n) ≡ true = grind (arith, nat_tests) in e)
