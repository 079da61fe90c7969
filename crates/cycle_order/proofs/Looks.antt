-- How often a test of a legal order looks at connections: for each end once at those to its node.
use Rattle.std.proofs.Common.{ℕ, suc, ◌≡◌, ◌+◌, ◌*◌, ◌≤◌, length, List, [], ◌∷◌, ◌++◌, Bool, true, false, not, ◌&&◌, ◌||◌, inl, inr, refl, ap, subst, arith}
use Rattle.std.specs.Prelude.{if◌then◌else◌}
use Rattle.wa_base.specs.declared.graph_names.End.{End}
use Rattle.law_base.specs.Members.{IsIn, AreDistinct}
use Rattle.law_base.proofs.Members.{without, length-without, IsIn-without, IsIn-append_first, IsIn-append_second}
use Rattle.law_base.proofs.Tests.{and_parts}
use Rattle.conn_graph.specs.declared.edges.Ports.{Ports}
use Rattle.conn_graph.specs.Edges.{target_node}
use Rattle.conn_graph.specs.Ends.{ends_from, ends_of_node, ends}
use Rattle.conn_graph.specs.Graph.{Connections, IsGraph}
use Rattle.cycle_order.specs.Legality.{has, is_settled, is_end, edges_into, looks_for}
use Rattle.cycle_order.proofs.LegalityLaws.{is_in, from_in, end_there}
use Rattle.cycle_order.proofs.Sums.{keyed, keyed_le, keyed_suc}

-- distinct members of a list are no more than the list has
pub few_distinct : {X : Type 0} (xs ys : List X) → AreDistinct xs → ((x : X) → IsIn x xs → IsIn x ys) → length xs ≤ length ys
few_distinct [] ys once all = omega arith
few_distinct (x ∷ xs) ys once all =
    let here : IsIn x ys = all x (inl refl) in
    let rest = few_distinct xs (without x ys here) once.1 (λ y m. elim (IsIn-without x ys here y (all y (inr m))) [
      | inl same ↦ absurd (once.0 (subst (λ z. IsIn z xs) same m))
      | inr k ↦ k
    ]) in
    let one = length-without x ys here in
    omega arith

-- the looks at the connections to an end's node, with the one at their end
abbrev weight : Connections → End → ℕ
weight g e = length (edges_into g e.node.0) + 1

-- those of the ends that are not placed
abbrev pub left : Connections → List End → List End → ℕ
left g placed [] = 0
left g placed (d ∷ ds) = (if has placed d then 0 else weight g d) + left g placed ds

module _ (g : Connections) where
  more_has : (placed : List End) (e d : End) → has placed d ≡ true → has (placed ++ e ∷ []) d ≡ true
  more_has placed e d h = from_in (placed ++ e ∷ []) d (IsIn-append_first placed (e ∷ []) d (is_in placed d h))

  last_has : (placed : List End) (e : End) → has (placed ++ e ∷ []) e ≡ true
  last_has placed e = from_in (placed ++ e ∷ []) e (IsIn-append_second placed (e ∷ []) e (inl refl))

  head_le : (b c : Bool) (n : ℕ) → (b ≡ true → c ≡ true) → (if c then 0 else n) ≤ (if b then 0 else n)
  head_le true true n h = omega arith
  head_le true false n h = absurd (let no = h refl in cc)
  head_le false true n h = omega arith
  head_le false false n h = omega arith

  left_le : (placed : List End) (e : End) (ds : List End) → left g (placed ++ e ∷ []) ds ≤ left g placed ds
  left_le placed e [] = omega arith
  left_le placed e (d ∷ ds) =
      let rest = left_le placed e ds in
      let head = head_le (has placed d) (has (placed ++ e ∷ []) d) (weight g d) (more_has placed e d) in
      omega arith

  head_gone : (b c : Bool) (n : ℕ) → b ≡ false → c ≡ true → (if c then 0 else n) + n ≤ (if b then 0 else n)
  head_gone false true n f t = omega arith
  head_gone true c n f t = absurd cc
  head_gone false false n f t = absurd cc

  left_next : (placed : List End) (e : End) (ds : List End) → IsIn e ds → has placed e ≡ false → left g (placed ++ e ∷ []) ds + weight g e ≤ left g placed ds
  left_next placed e [] m fresh = absurd m
  left_next placed e (d ∷ ds) (inl same) fresh =
      let rest = left_le placed e ds in
      let head = head_gone (has placed d) (has (placed ++ e ∷ []) d) (weight g d) (subst (λ x. has placed x ≡ false) same fresh) (subst (λ x. has (placed ++ e ∷ []) x ≡ true) same (last_has placed e)) in
      let is : weight g e ≡ weight g d = ap (weight g) same in
      omega arith
  left_next placed e (d ∷ ds) (inr m) fresh =
      let rest = left_next placed e ds m fresh in
      let head = head_le (has placed d) (has (placed ++ e ∷ []) d) (weight g d) (more_has placed e d) in
      omega arith

  second_false : (a b : Bool) → not (a || b) ≡ true → b ≡ false
  second_false true b h = absurd cc
  second_false false true h = absurd cc
  second_false false false h = refl

  -- the test of a further end takes no more than what its place takes off
  pub looks_fit : (whole : IsGraph g) (muted placed : List End) (e : End) → looks_for g muted placed e + left g (placed ++ e ∷ []) (ends g) ≤ left g placed (ends g)
  looks_fit whole muted placed e = by_test (is_end g e && not (is_settled muted placed e)) refl
    where
      by_test : (b : Bool) → (is_end g e && not (is_settled muted placed e)) ≡ b → (if b then weight g e else 0) + left g (placed ++ e ∷ []) (ends g) ≤ left g placed (ends g)
      by_test true is =
          let parts = and_parts (is_end g e) (not (is_settled muted placed e)) is in
          let next = left_next placed e (ends g) (end_there g whole e parts.0) (second_false (has muted e) (has placed e) parts.1) in
          omega arith
      by_test false is = let rest = left_le placed e (ends g) in omega arith

  node_left : (i : ℕ) (b : Bool) (es : List End) → left g [] (ends_of_node i b ++ es) ≤ 2 * (length (edges_into g i) + 1) + left g [] es
  node_left i true es = omega arith
  node_left i false es = omega arith

  all_left : (i : ℕ) (ns : List Ports) → left g [] (ends_from i ns) ≤ 2 * (keyed (λ e. target_node e.to) g.edges i (length ns) + length ns)
  all_left i [] = omega arith
  all_left i (n ∷ ns) =
      let here = node_left i n.is_delay (ends_from (suc i) ns) in
      let rest = all_left (suc i) ns in
      let next = keyed_suc (λ e. target_node e.to) g.edges i (length ns) in
      let same : keyed (λ e. target_node e.to) g.edges (suc i) (length ns) ≡ keyed (λ e. target_node e.to) g.edges (i + 1) (length ns) = ap (λ k. keyed (λ e. target_node e.to) g.edges k (length ns)) (omega arith) in
      omega arith

  -- before an end is placed, each connection is left twice at most, and each node
  pub most_looks : left g [] (ends g) ≤ 2 * (length g.edges + length g.nodes)
  unfolding ends
  most_looks = let all = all_left 0 g.nodes in let few = keyed_le (λ e. target_node e.to) g.edges 0 (length g.nodes) in omega arith
