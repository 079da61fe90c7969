-- The groups of a key have its needs, and nothing else.
use Rattle.std.proofs.Common.{ℕ, zero, suc, ◌≡◌, ◌+◌, ◌-◌, ◌/◌, ◌<◌, ◌≤◌, List, [], ◌∷◌, map, filter, Bool, true, false, Option, None, Some, inl, inr, refl, sym, ap, subst, arith}
use Rattle.std.specs.Prelude.{if◌then◌else◌, nat_lt, ◌==◌, ◌&&◌, not, slice_get}
use Rattle.std.specs.Option.{option_map_or}
use Rattle.std.specs.List.{flat_map, range_with_len}
use Rattle.std.proofs.lemmas.Bool.Decides.{nat_tests}
use Rattle.wa_base.specs.declared.graph_names.End.{End}
use Rattle.law_base.specs.Members.{IsIn}
use Rattle.law_base.proofs.Members.{IsIn-filter, IsIn-filter_from, IsIn-append}
use Rattle.node_table.specs.Kinds.{row, is_delay_kind}
use Rattle.node_table.specs.declared.kinds.Kind.{Kind}
use Rattle.node_table.specs.declared.kinds.Kind.TheVariants.{Delay}
use Rattle.node_table.specs.declared.rows.Channels.{Channels}
use Rattle.node_table.specs.declared.rows.Channels.TheVariants.{Always, OfInput, OfBuffer}
use Rattle.conn_graph.specs.declared.edges.Edge.{Edge}
use Rattle.conn_graph.specs.declared.edges.Target.{Target}
use Rattle.conn_graph.specs.declared.edges.Target.TheVariants.{Input, Param}
use Rattle.conn_graph.specs.Cells.{enters}
use Rattle.conn_graph.specs.Edges.{target_node, is_input, is_param, same_target}
use Rattle.conn_graph.specs.Ends.{writer_of, reader_of, muted}
use Rattle.meaning.specs.declared.world.World.{World}
use Rattle.meaning.specs.World.{node_at, kind_of, param_id}
use Rattle.meaning.specs.Counts.{world_in}
use Rattle.meaning.specs.Values.{world_at}
use Rattle.explain.specs.declared.facts.Key.{Key}
use Rattle.explain.specs.declared.facts.Key.TheVariants.{Count, Inlet, Par, Hist, Out}
use Rattle.explain.specs.Accounts.{Account}
use Rattle.explain.specs.Needs.{needs, needs_ago, writer_counts, counts_by_row, counts_by_kind, count_needs, history_needs, delayed_needs, output_by_kind, output_needs}
use Rattle.explain.proofs.Members.{IsIn-flat_map, IsIn-range}
use Rattle.derivations.specs.Groups.{led, edge_group, input_of, one, source_keys, param_frame, first_counted, quanta_counted, writer_count_group, row_count_group, kind_count_group, count_group, history_group, delayed_keys, delay_keys, tail_keys, output_group, group}
use Rattle.derivations.proofs.Placing.{get_in, in_get}

-- ---- members

pub of_flat_map : {X Y : Type 0} (f : X → List Y) (xs : List X) (y : Y) → IsIn y (flat_map f xs) → (x : X) × IsIn x xs × IsIn y (f x)
of_flat_map f [] y h = absurd h
of_flat_map f (x ∷ xs) y h = elim (IsIn-append (f x) (flat_map f xs) y h) [
  | inl here ↦ (x, inl refl, here)
  | inr later ↦ let r = of_flat_map f xs y later in (r.0, inr r.1, r.2)
]

pub of_range : (first n v : ℕ) → IsIn v (range_with_len first n) → (first ≤ v) × (v < first + n)
of_range first zero v h = absurd h
of_range first (suc n) v (inl same) = (omega (arith, same), omega (arith, same))
of_range first (suc n) v (inr h) = let r = of_range (first + 1) n v h in let low = r.0 in let high = r.1 in (omega arith, omega arith)

map_is : {X Y : Type 0} (f : X → Y) (xs : List X) → map f xs ≡ flat_map (λ x. f x ∷ []) xs
map_is f [] = refl
map_is f (x ∷ xs) = ap (λ ys. f x ∷ ys) (map_is f xs)

test_is : (a b : ℕ) → a < b → nat_lt a b ≡ true
test_is a b l = grind (arith, nat_tests)

test_low : (a b : ℕ) → nat_lt a b ≡ true → a < b
test_low a b t = grind (arith, nat_tests)

-- ---- connections

both_true : (a b : Bool) → (a && b) ≡ true → a ≡ true
both_true true b h = refl
both_true false b h = absurd cc

enters_target : (t : Target) (e : Edge) → same_target t e.to ≡ true → enters (target_node t) e ≡ true
enters_target (Input node i) e h = by_input e.to h
  where
    by_input : (u : Target) → is_input node.0 i u ≡ true → (target_node u == node.0) ≡ true
    by_input (Input other k) h = both_true (other.0 == node.0) (k == i) h
    by_input (Param id) h = absurd cc
enters_target (Param id) e h = by_param e.to h
  where
    by_param : (u : Target) → is_param id u ≡ true → (target_node u == id.node.0) ≡ true
    by_param (Input other k) h = absurd cc
    by_param (Param other) h = both_true (other.node.0 == id.node.0) _ h

module _ (t : Target) (keys : Edge → List Key) (edges : List Edge) where
  abbrev leads : Edge → Bool
  leads e = same_target t e.to

  abbrev into : List Edge
  into = filter (enters (target_node t)) edges

  pub of_edges : (k : Key) → IsIn k (flat_map keys (filter leads edges)) → (g : ℕ) × IsIn k (edge_group t keys into g)
  of_edges k h =
      let r = of_flat_map keys (filter leads edges) k h in
      let x : Edge = r.0 in
      let is = IsIn-filter leads edges x r.1 in
      let there = in_get into x (IsIn-filter_from (enters (target_node t)) edges x is.0 (enters_target t x is.1)) in
      (there.0, at there.0 x there.1 is.1 r.2)
    where
      at : (g : ℕ) (x : Edge) → slice_get into g ≡ Some x → same_target t x.to ≡ true → IsIn k (keys x) → IsIn k (edge_group t keys into g)
      at g x got true_is h = subst (λ o. IsIn k (option_map_or (led t keys) o [])) (sym got) (subst (λ b. IsIn k (if b then keys x else [])) (sym true_is) h)

  pub in_edges : (g : ℕ) (k : Key) → IsIn k (edge_group t keys into g) → IsIn k (flat_map keys (filter leads edges))
  in_edges g k h = by_place (slice_get into g) refl h
    where
      by_test : (x : Edge) (b : Bool) → same_target t x.to ≡ b → IsIn x edges → IsIn k (if b then keys x else []) → IsIn k (flat_map keys (filter leads edges))
      by_test x true is there h = IsIn-flat_map keys (filter leads edges) x k (IsIn-filter_from leads edges x there is) h
      by_test x false is there h = absurd h

      by_place : (o : Option Edge) → slice_get into g ≡ o → IsIn k (option_map_or (led t keys) o []) → IsIn k (flat_map keys (filter leads edges))
      by_place None got h = absurd h
      by_place (Some x) got h = by_test x (same_target t x.to) refl (IsIn-filter (enters (target_node t)) edges x (get_in into g x got)).0 h

module _ (q : ℕ) (tape : List World) (a : Account) where
  abbrev HasGroup : (ℕ → List Key) → Key → Type 0
  HasGroup groups k = (g : ℕ) × IsIn k (groups g)

  -- ---- counts

  abbrev count_key : ℕ → Edge → Key
  count_key j x = Count j (reader_of x.from.0) x.output

  of_row : (j n : ℕ) (c : Channels) (k : Key) → IsIn k (counts_by_row q tape a j n c) → HasGroup (row_count_group q tape a j n c) k
  of_row j n (Always channels) k h = absurd h
  of_row j n OfBuffer k h = absurd h
  of_row j n OfInput k h =
      of_edges (input_of n 0) (λ x. one (count_key j x)) (world_in tape j).graph.value.edges k (subst (IsIn k) (map_is (count_key j) _) h)

  in_row : (j n : ℕ) (c : Channels) (g : ℕ) (k : Key) → IsIn k (row_count_group q tape a j n c g) → IsIn k (counts_by_row q tape a j n c)
  in_row j n (Always channels) g k h = absurd h
  in_row j n OfBuffer g k h = absurd h
  in_row j n OfInput g k h =
      subst (IsIn k) (sym (map_is (count_key j) _)) (in_edges (input_of n 0) (λ x. one (count_key j x)) (world_in tape j).graph.value.edges g k h)

  of_writer : (j n : ℕ) (k : Key) → IsIn k (writer_counts q tape a j n) → HasGroup (writer_count_group q tape a j n) k
  of_writer j n k h =
      let birth : ℕ = first_counted q tape a j n in
      let many : ℕ = quanta_counted q tape a j n in
      let r = of_flat_map (λ i. one (Count i (writer_of n) 0)) (range_with_len birth many) k (subst (IsIn k) (map_is (λ i. Count i (writer_of n) 0) (range_with_len birth many)) h) in
      let v : ℕ = r.0 in
      let within = of_range birth many v r.1 in
      let low = within.0 in
      let high = within.1 in
      let g : ℕ = v - birth in
      let whole : birth + g ≡ v = omega arith in
      let t : nat_lt g many ≡ true = test_is g many (omega arith) in
      (g, subst (λ b. IsIn k (if b then one (Count (birth + g) (writer_of n) 0) else [])) (sym t) (subst (λ i. IsIn k (one (Count i (writer_of n) 0))) (sym whole) r.2))

  in_writer : (j n g : ℕ) (k : Key) → IsIn k (writer_count_group q tape a j n g) → IsIn k (writer_counts q tape a j n)
  in_writer j n g k h = by_test (nat_lt g (quanta_counted q tape a j n)) refl h
    where
      by_test : (b : Bool) → nat_lt g (quanta_counted q tape a j n) ≡ b → IsIn k (if b then one (Count (first_counted q tape a j n + g) (writer_of n) 0) else []) → IsIn k (writer_counts q tape a j n)
      by_test true is h =
          let low = test_low g (quanta_counted q tape a j n) is in
          subst (IsIn k) (sym (map_is (λ i. Count i (writer_of n) 0) (range_with_len (first_counted q tape a j n) (quanta_counted q tape a j n))))
          (IsIn-flat_map (λ i. one (Count i (writer_of n) 0)) (range_with_len (first_counted q tape a j n) (quanta_counted q tape a j n)) (first_counted q tape a j n + g) k
          (IsIn-range (first_counted q tape a j n) (quanta_counted q tape a j n) (first_counted q tape a j n + g) (omega arith) (omega arith)) h)
      by_test false is h = absurd h

  of_count : (j : ℕ) (e : End) (k : Key) → IsIn k (count_needs q tape a j e) → HasGroup (count_group q tape a j e) k
  of_count j e k h = by_muted (muted w.graph.value e) h
    where
      w : World
      w = world_in tape j

      kind : Kind
      kind = kind_of w e.node.0

      by_end : (b : Bool) → IsIn k (if b then writer_counts q tape a j e.node.0 else counts_by_row q tape a j e.node.0 (row kind).channels)
          → HasGroup (λ g. if b then writer_count_group q tape a j e.node.0 g else row_count_group q tape a j e.node.0 (row kind).channels g) k
      by_end true h = of_writer j e.node.0 k h
      by_end false h = of_row j e.node.0 (row kind).channels k h

      by_muted : (b : Bool) → IsIn k (if b then [] else counts_by_kind q tape a j e kind) → HasGroup (λ g. if b then [] else kind_count_group q tape a j e kind g) k
      by_muted true h = absurd h
      by_muted false h = by_end (is_delay_kind kind && not e.writer) h

  in_count : (j : ℕ) (e : End) (g : ℕ) (k : Key) → IsIn k (count_group q tape a j e g) → IsIn k (count_needs q tape a j e)
  in_count j e g k h = by_muted (muted w.graph.value e) h
    where
      w : World
      w = world_in tape j

      kind : Kind
      kind = kind_of w e.node.0

      by_end : (b : Bool) → IsIn k (if b then writer_count_group q tape a j e.node.0 g else row_count_group q tape a j e.node.0 (row kind).channels g)
          → IsIn k (if b then writer_counts q tape a j e.node.0 else counts_by_row q tape a j e.node.0 (row kind).channels)
      by_end true h = in_writer j e.node.0 g k h
      by_end false h = in_row j e.node.0 (row kind).channels g k h

      by_muted : (b : Bool) → IsIn k (if b then [] else kind_count_group q tape a j e kind g) → IsIn k (if b then [] else counts_by_kind q tape a j e kind)
      by_muted true h = absurd h
      by_muted false h = by_end (is_delay_kind kind && not e.writer) h

  -- ---- histories

  abbrev ago_keys : ℕ → ℕ → ℕ → ℕ → List Key
  ago_keys f n c ago = needs_ago q tape a f n c (kind_of (world_at q tape f) n) ago

  abbrev age : ℕ → ℕ → ℕ
  age f n = f + 1 - (node_at (world_at q tape f) n).attrs.birth

  of_history : (f n c : ℕ) (k : Key) → IsIn k (history_needs q tape a f n c) → HasGroup (history_group q tape a f n c) k
  of_history f n c k h =
      let r = of_flat_map (ago_keys f n c) (range_with_len 0 (age f n)) k h in
      let ago : ℕ = r.0 in
      let high = (of_range 0 (age f n) ago r.1).1 in
      (ago, subst (λ b. IsIn k (if b then ago_keys f n c ago else [])) (sym (test_is ago (age f n) (omega arith))) r.2)

  in_history : (f n c g : ℕ) (k : Key) → IsIn k (history_group q tape a f n c g) → IsIn k (history_needs q tape a f n c)
  in_history f n c g k h = by_test (nat_lt g (age f n)) refl h
    where
      by_test : (b : Bool) → nat_lt g (age f n) ≡ b → IsIn k (if b then ago_keys f n c g else []) → IsIn k (history_needs q tape a f n c)
      by_test true is h = let low = test_low g (age f n) is in IsIn-flat_map (ago_keys f n c) (range_with_len 0 (age f n)) g k (IsIn-range 0 (age f n) g (omega arith) (omega arith)) h
      by_test false is h = absurd h

  -- ---- outputs

  in_kind : (f : ℕ) (e : End) (o c : ℕ) (kind : Kind) (k : Key) → IsIn k (delay_keys q tape a f e kind) → IsIn k (output_by_kind q tape a f e o c kind)
  in_kind f e o c (Delay longest time capacity) k h = by_end e.writer h
    where
      by_end : (b : Bool) → IsIn k (if b then [] else delayed_keys q tape a f e.node.0) → IsIn k (if b then Inlet f e 0 c ∷ [] else delayed_needs q tape a f e.node.0)
      by_end true h = absurd h
      by_end false h = inr h
  in_kind f e o c other k h = absurd h

  pub in_tail : (f : ℕ) (e : End) (o c : ℕ) (k : Key) → IsIn k (tail_keys q tape a f e c) → IsIn k (output_needs q tape a f e o c)
  in_tail f e o c k h = by_muted (muted w.graph.value e) h
    where
      w : World
      w = world_at q tape f

      kind : Kind
      kind = kind_of w e.node.0

      by_channel : (b : Bool) → IsIn k (if b then delay_keys q tape a f e kind else []) → IsIn k (Count (f / q) e o ∷ (if b then output_by_kind q tape a f e o c kind else []))
      by_channel true h = inr (in_kind f e o c kind k h)
      by_channel false h = absurd h

      by_muted : (b : Bool) → IsIn k (if b then [] else if nat_lt c (a.counts (f / q) e) then delay_keys q tape a f e kind else [])
          → IsIn k (if b then [] else Count (f / q) e o ∷ (if nat_lt c (a.counts (f / q) e) then output_by_kind q tape a f e o c kind else []))
      by_muted true h = absurd h
      by_muted false h = by_channel (nat_lt c (a.counts (f / q) e)) h

  in_output : (f : ℕ) (e : End) (o c g : ℕ) (k : Key) → IsIn k (output_group q tape a f e o c g) → IsIn k (output_needs q tape a f e o c)
  in_output f e o c zero k h = in_tail f e o c k h
  in_output f e o c (suc zero) k h = h
  in_output f e o c (suc (suc g)) k h = absurd h

  -- ---- all keys

  pub of_needs : (key k : Key) → IsIn k (needs q tape a key) → (g : ℕ) × IsIn k (group q tape a key g)
  unfolding needs
  of_needs (Count j e o) k h = of_count j e k h
  of_needs (Inlet f e i c) k h = of_edges (input_of e.node.0 i) (source_keys q tape a f) (world_at q tape f).graph.value.edges k h
  of_needs (Par f node name) k h = of_edges (Param (param_id node.0 name)) (source_keys q tape a (param_frame q tape f node.0 name)) (world_at q tape f).graph.value.edges k h
  of_needs (Hist f node c) k h = of_history f node.0 c k h
  of_needs (Out f e o c) k h = (1, h)

  pub in_needs : (key : Key) (g : ℕ) (k : Key) → IsIn k (group q tape a key g) → IsIn k (needs q tape a key)
  unfolding needs
  in_needs (Count j e o) g k h = in_count j e g k h
  in_needs (Inlet f e i c) g k h = in_edges (input_of e.node.0 i) (source_keys q tape a f) (world_at q tape f).graph.value.edges g k h
  in_needs (Par f node name) g k h = in_edges (Param (param_id node.0 name)) (source_keys q tape a (param_frame q tape f node.0 name)) (world_at q tape f).graph.value.edges g k h
  in_needs (Hist f node c) g k h = in_history f node.0 c g k h
  in_needs (Out f e o c) g k h = in_output f e o c g k h
