-- How many arrows a graph has, and the order of its ends.
use Rattle.std.proofs.Common.{ℕ, zero, suc, ◌≡◌, ◌+◌, ◌*◌, ◌-◌, ◌<◌, ◌≤◌, length, List, [], ◌∷◌, ◌++◌, Bool, true, false, not, cond, refl, ◌∙◌, ap, arith}
use Rattle.std.specs.Prelude.{◌==◌, ◌&&◌, if◌then◌else◌}
use Rattle.std.specs.List.{filter, flat_map, range_with_len}
use Rattle.std.proofs.lemmas.Bool.{eqb-true}
use Rattle.std.proofs.lemmas.List.{length-map}
use Rattle.conn_graph.specs.declared.edges.Edge.{Edge}
use Rattle.conn_graph.specs.declared.edges.Ports.{Ports}
use Rattle.conn_graph.specs.Ends.{ends_of_node, ends_from, ends, is_delay, in_cycle, muted, reader_of, arrives_at}
use Rattle.conn_graph.specs.Graph.{Connections}
use Rattle.cycle_order.specs.Arrows.{edges_from, vertex_of, writer_targets, reader_targets, targets_of_node, end_arrows}
use Rattle.cycle_order.specs.Choices.{unmuted_ends}
use Rattle.cycle_order.specs.Counts.{total, AreRising}
use Rattle.cycle_order.proofs.Counts.{rising_from, rising_filter}

-- ---- each connection leaves one node, and leads to one

-- how many of so many numbers are this one
one_of : ℕ → ℕ → ℕ → ℕ
one_of k a zero = 0
one_of k a (suc n) = (if k == a then 1 else 0) + one_of k (a + 1) n

not_later : (k a n : ℕ) → k < a → one_of k a n ≡ 0
unfolding one_of
not_later k a zero l = refl
not_later k a (suc n) l = by_test (k == a) refl (not_later k (a + 1) n (omega arith))
  where
    by_test : (b : Bool) → (k == a) ≡ b → one_of k (a + 1) n ≡ 0 → (if b then 1 else 0) + one_of k (a + 1) n ≡ 0
    by_test true e h = let same = eqb-true k a e in absurd (omega arith)
    by_test false e h = omega arith

once_at_most : (k a n : ℕ) → one_of k a n ≤ 1
unfolding one_of
once_at_most k a zero = omega arith
once_at_most k a (suc n) = by_test (k == a) refl (once_at_most k (a + 1) n)
  where
    by_test : (b : Bool) → (k == a) ≡ b → one_of k (a + 1) n ≤ 1 → (if b then 1 else 0) + one_of k (a + 1) n ≤ 1
    by_test true e h = let same = eqb-true k a e in let none = not_later k (a + 1) n (omega arith) in omega arith
    by_test false e h = omega arith

-- how many connections have one of so many numbers as their key
unfoldable pub keyed : (Edge → ℕ) → List Edge → ℕ → ℕ → ℕ
keyed key es a zero = 0
keyed key es a (suc n) = length (filter (λ e. key e == a) es) + keyed key es (a + 1) n

module _ (key : Edge → ℕ) where
  keyed_more : (e : Edge) (es : List Edge) (a n : ℕ) → keyed key (e ∷ es) a n ≡ one_of (key e) a n + keyed key es a n
  unfolding keyed one_of
  keyed_more e es a zero = refl
  keyed_more e es a (suc n) = let rest = keyed_more e es (a + 1) n in by_test (key e == a) rest
    where
      by_test : (b : Bool) → keyed key (e ∷ es) (a + 1) n ≡ one_of (key e) (a + 1) n + keyed key es (a + 1) n
          → length (cond b (e ∷ filter (λ x. key x == a) es) (filter (λ x. key x == a) es)) + keyed key (e ∷ es) (a + 1) n
          ≡ ((if b then 1 else 0) + one_of (key e) (a + 1) n) + (length (filter (λ x. key x == a) es) + keyed key es (a + 1) n)
      by_test true h = omega arith
      by_test false h = omega arith

  none_keyed : (a n : ℕ) → keyed key [] a n ≡ 0
  unfolding keyed
  none_keyed a zero = refl
  none_keyed a (suc n) = let rest = none_keyed (a + 1) n in omega arith

  pub keyed_le : (es : List Edge) (a n : ℕ) → keyed key es a n ≤ length es
  keyed_le [] a n = let none = none_keyed a n in omega arith
  keyed_le (e ∷ es) a n =
      let more = keyed_more e es a n in
      let one = once_at_most (key e) a n in
      let rest = keyed_le es a n in omega arith

  pub keyed_suc : (es : List Edge) (a n : ℕ) → keyed key es a (suc n) ≡ length (filter (λ e. key e == a) es) + keyed key es (a + 1) n
  unfolding keyed
  keyed_suc es a n = refl

-- how many connections leave so many nodes
abbrev pub leaving : List Edge → ℕ → ℕ → ℕ
leaving es a n = keyed (λ e. e.from.0) es a n

pub leaving_le : (es : List Edge) (a n : ℕ) → leaving es a n ≤ length es
leaving_le es a n = keyed_le (λ e. e.from.0) es a n

pub leaving_next : (es : List Edge) (a n : ℕ) → a < n → leaving es a (n - a) ≡ length (filter (λ e. e.from.0 == a) es) + leaving es (a + 1) (n - (a + 1))
leaving_next es a n l = ap (leaving es a) (let e : n - a ≡ suc (n - (a + 1)) = omega arith in e) ∙ keyed_suc (λ e. e.from.0) es a (n - (a + 1))

module _ (g : Connections) where
  pairs_total : (a n : ℕ) → total (flat_map (targets_of_node g) (range_with_len a n)) ≤ leaving g.edges a n + n
  unfolding keyed
  pairs_total a zero = omega arith
  pairs_total a (suc n) =
      let rest = pairs_total (a + 1) n in
      let writer = writer_le a in
      let reader : length (reader_targets g (edges_from g a)) ≡ length (edges_from g a) = length-map (edges_from g a) (λ e. vertex_of (arrives_at g e.to)) in
      omega arith
    where
      writer_le : (i : ℕ) → length (writer_targets g i) ≤ 1
      writer_le i = by_test (is_delay g i && not (in_cycle g i))
        where
          by_test : (b : Bool) → length (if b then vertex_of (reader_of i) ∷ [] else []) ≤ 1
          by_test true = omega arith
          by_test false = omega arith

  pub total-end_arrows : total (end_arrows g) ≤ length g.edges + length g.nodes
  unfolding end_arrows
  total-end_arrows = let all = pairs_total 0 (length g.nodes) in let few = leaving_le g.edges 0 (length g.nodes) in omega arith

-- ---- the ends are listed in the order of their vertices

ends_rise : (i : ℕ) (ns : List Ports) → AreRising (2 * i) (ends_from i ns)
ends_rise i [] = tt
ends_rise i (n ∷ ns) = by_kind n.is_delay (ends_rise (suc i) ns)
  where
    by_kind : (b : Bool) → AreRising (2 * suc i) (ends_from (suc i) ns) → AreRising (2 * i) (ends_of_node i b ++ ends_from (suc i) ns)
    by_kind true rest = (omega arith, (omega arith, rising_from (suc (2 * i + 1)) (2 * suc i) (ends_from (suc i) ns) (omega arith) rest))
    by_kind false rest = (omega arith, rising_from (suc (2 * i + 1)) (2 * suc i) (ends_from (suc i) ns) (omega arith) rest)

pub unmuted_rise : (g : Connections) → AreRising 0 (unmuted_ends g)
unfolding unmuted_ends ends
unmuted_rise g = rising_filter (λ e. not (muted g e)) 0 (ends_from 0 g.nodes) (ends_rise 0 g.nodes)
