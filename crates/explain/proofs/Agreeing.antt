-- Two accounts that have in common what an equation needs: what is connected, counts and parameters.
use Rattle.std.proofs.Common.{ℕ, pos, ◌≡◌, ◌+◌, ◌-◌, ◌*◌, ◌/◌, ◌<◌, ◌≤◌, ◌+ℤ◌, ◌==◌, List, [], ◌∷◌, map, Bool, true, false, inl, inr, refl, sym, ◌∙◌, ap, arith}
use Rattle.std.specs.Prelude.{if◌then◌else◌, nat_lt, unsigned_abs, ◌&&◌, not}
use Rattle.std.specs.List.{range_with_len}
use Rattle.std.proofs.lemmas.Bool.Decides.{nat_tests}
use Rattle.wa_base.specs.declared.graph_names.End.{End}
use Rattle.wa_base.specs.declared.graph_names.Interp.{Interp}
use Rattle.wa_base.specs.declared.graph_names.Interp.TheVariants.{Speakers}
use Rattle.wa_base.specs.declared.graph_names.ParamName.{ParamName}
use Rattle.law_base.specs.Members.{IsIn}
use Rattle.law_base.proofs.Members.{same_map}
use Rattle.mix_rules.specs.Counts.{greatest, input_count}
use Rattle.mix_rules.specs.Mixing.{mix, fan_in}
use Rattle.node_table.specs.Kinds.{row, is_delay_kind}
use Rattle.node_table.specs.declared.rows.Channels.{Channels}
use Rattle.node_table.specs.declared.rows.Channels.TheVariants.{Always, OfInput, OfBuffer}
use Rattle.conn_graph.specs.declared.edges.Edge.{Edge}
use Rattle.conn_graph.specs.Graph.{edges_to_input, edges_to_param}
use Rattle.conn_graph.specs.Ends.{writer_of, reader_of, in_cycle, muted}
use Rattle.meaning.specs.declared.world.World.{World}
use Rattle.meaning.specs.Lists.{since}
use Rattle.meaning.specs.World.{node_at, kind_of, param_id, intrinsic_value, is_k_rate, nominal}
use Rattle.meaning.specs.Counts.{world_in, input_channels, seen_counts, reader_channels, output_channels, count_by_kind, count_rule}
use Rattle.meaning.specs.Values.{no_frame, seen, mixed_sum, input_value, computed_value, world_at}
use Rattle.meaning.proofs.Seeing.{same_since}
use Rattle.explain.specs.declared.facts.Key.{Key}
use Rattle.explain.specs.declared.facts.Key.TheVariants.{Count, Out}
use Rattle.explain.specs.declared.facts.Fact.{Fact}
use Rattle.explain.specs.Accounts.{Account, frame_in, frames_in, counts_in, value_in, stated, derived}
use Rattle.explain.specs.Needs.{carried, connections_needs, param_needs, writer_counts, counts_by_row, counts_by_kind, count_needs}
use Rattle.explain.proofs.Members.{IsIn-map, IsIn-flat_map, IsIn-range, same_flat_map}
use Rattle.explain.proofs.Mixes.{mix_reads}

-- a frame and those before it are what an equation sees
pub seen_is : (q : ℕ) (tape : List World) (x : Account) (f g : ℕ) → g ≤ f → seen f (frames_in q tape x f) (frame_in q tape x f) g ≡ frame_in q tape x g
seen_is q tape x f g l = by_test (g == f) refl
  where
    by_test : (t : Bool) → (g == f) ≡ t → (if t then frame_in q tape x f else frames_in q tape x f g) ≡ frame_in q tape x g
    by_test true is = let same : f ≡ g = grind (arith, nat_tests) in ap (frame_in q tape x) same
    by_test false is = let before : nat_lt g f ≡ true = grind (arith, nat_tests) in ap (λ t. if t then frame_in q tape x g else no_frame) before

-- and so it is with the counts
pub counts_are : (x : Account) (q : ℕ) (tape : List World) (j k : ℕ) (e : End) → k ≤ j → seen_counts j (counts_in q tape x j) (x.counts j) k e ≡ x.counts k e
counts_are x q tape j k e l = by_test (k == j) refl
  where
    by_test : (t : Bool) → (k == j) ≡ t → (if t then x.counts j else counts_in q tape x j k) e ≡ x.counts k e
    by_test true is = let same : j ≡ k = grind (arith, nat_tests) in ap (λ i. x.counts i e) same
    by_test false is = let before : nat_lt k j ≡ true = grind (arith, nat_tests) in ap (λ t. (if t then x.counts k else λ d. 1) e) before

-- two accounts say the same of a key, and both what its equation gives
pub record Alike (q : ℕ) (tape : List World) (a b : Account) (key : Key) : Type 0 where
  pub left : derived q tape a key ≡ stated q tape a key
  pub right : derived q tape b key ≡ stated q tape b key
  pub same : stated q tape a key ≡ stated q tape b key

abbrev pub AllAlike : ℕ → List World → Account → Account → List Key → Type 0
AllAlike q tape a b keys = (k : Key) → IsIn k keys → Alike q tape a b k

module _ (q : ℕ) (tape : List World) (a b : Account) where
  pub same_value : (k : Key) → Alike q tape a b k → value_in q tape a k ≡ value_in q tape b k
  same_value k alike = ap (λ (x : Fact). x.value) alike.same

  pub same_count : (j : ℕ) (e : End) (o : ℕ) → Alike q tape a b (Count j e o) → a.counts j e ≡ b.counts j e
  same_count j e o alike = ap unsigned_abs (same_value (Count j e o) alike)

  -- ---- what is carried

  pub count_carried : (f : ℕ) (e : End) (o : ℕ) → AllAlike q tape a b (carried q tape b f e o) → a.counts (f / q) e ≡ b.counts (f / q) e
  count_carried f e o all = same_count (f / q) e o (all (Count (f / q) e o) (inl refl))

  pub value_carried : (f : ℕ) (e : End) (o : ℕ) → AllAlike q tape a b (carried q tape b f e o) → (c : ℕ) → c < b.counts (f / q) e → a.values f e o c ≡ b.values f e o c
  value_carried f e o all c l =
      same_value (Out f e o c) (all (Out f e o c) (inr (IsIn-map (λ k. Out f e o k) (range_with_len 0 (b.counts (f / q) e)) c (IsIn-range 0 (b.counts (f / q) e) c (omega arith) (omega arith)))))

  pub same_carried : (f : ℕ) (e : End) (o : ℕ) → AllAlike q tape a b (carried q tape b f e o) → carried q tape a f e o ≡ carried q tape b f e o
  same_carried f e o all = ap (λ n. Count (f / q) e o ∷ map (λ c. Out f e o c) (range_with_len 0 n)) (count_carried f e o all)

  pub same_mix : (f : ℕ) (e : End) (o : ℕ) → AllAlike q tape a b (carried q tape b f e o) → (interp : Interp) (to c : ℕ)
      → mix interp (a.counts (f / q) e) to (a.values f e o) c ≡ mix interp (b.counts (f / q) e) to (b.values f e o) c
  same_mix f e o all interp to c =
      ap (λ n. mix interp n to (a.values f e o) c) (count_carried f e o all) ∙ mix_reads interp (b.counts (f / q) e) to (a.values f e o) (b.values f e o) c (value_carried f e o all)

  -- ---- what is connected

  of_edge : (f : ℕ) (xs : List Edge) → AllAlike q tape a b (connections_needs q tape b f xs) → (x : Edge) → IsIn x xs → AllAlike q tape a b (carried q tape b f (reader_of x.from.0) x.output)
  of_edge f xs all x is k h = all k (IsIn-flat_map (λ y. carried q tape b f (reader_of y.from.0) y.output) xs x k is h)

  pub same_sum : (f : ℕ) (xs : List Edge) → AllAlike q tape a b (connections_needs q tape b f xs) → (interp : Interp) (to c : ℕ)
      → mixed_sum (frame_in q tape a f) interp to c xs ≡ mixed_sum (frame_in q tape b f) interp to c xs
  same_sum f xs all interp to c = ap fan_in (same_map _ _ xs (λ x is. same_mix f (reader_of x.from.0) x.output (of_edge f xs all x is) interp to c))

  pub same_connections : (f : ℕ) (xs : List Edge) → AllAlike q tape a b (connections_needs q tape b f xs) → connections_needs q tape a f xs ≡ connections_needs q tape b f xs
  same_connections f xs all = same_flat_map _ _ xs (λ x is. same_carried f (reader_of x.from.0) x.output (of_edge f xs all x is))

  -- ---- inputs

  same_channels : (w : World) (j n i : ℕ) → ((x : Edge) → IsIn x (edges_to_input w.graph.value n i) → a.counts j (reader_of x.from.0) ≡ b.counts j (reader_of x.from.0))
      → input_channels w (a.counts j) n i ≡ input_channels w (b.counts j) n i
  same_channels w j n i each = ap (input_count (node_at w n).attrs.mode (node_at w n).attrs.count) (same_map _ _ (edges_to_input w.graph.value n i) each)

  pub same_input : (f n i c : ℕ) → AllAlike q tape a b (connections_needs q tape b f (edges_to_input (world_at q tape f).graph.value n i))
      → input_value (frame_in q tape a f) n i c ≡ input_value (frame_in q tape b f) n i c
  unfolding input_value
  same_input f n i c all =
      ap (λ to. if nat_lt c to then mixed_sum (frame_in q tape a f) interp to c edges else pos 0)
      (same_channels w (f / q) n i (λ x is. count_carried f (reader_of x.from.0) x.output (of_edge f edges all x is)))
      ∙ ap (λ v. if nat_lt c (input_channels w (b.counts (f / q)) n i) then v else pos 0) (same_sum f edges all interp (input_channels w (b.counts (f / q)) n i) c)
    where
      w : World
      w = world_at q tape f

      interp : Interp
      interp = (node_at w n).attrs.interp

      edges : List Edge
      edges = edges_to_input w.graph.value n i

  -- ---- parameters

  pub same_param : (f n : ℕ) (name : ParamName) → AllAlike q tape a b (param_needs q tape b f n name)
      → computed_value q f (frames_in q tape a f) (frame_in q tape a f) (param_id n name) ≡ computed_value q f (frames_in q tape b f) (frame_in q tape b f) (param_id n name)
  unfolding computed_value
  same_param f n name all =
      ap (λ s. nominal (kind_of w n) (intrinsic_value w (param_id n name) g +ℤ s))
      (ap (λ x. mixed_sum x Speakers 1 0 edges) (seen_is q tape a f g early)
      ∙ same_sum g edges all Speakers 1 0
      ∙ sym (ap (λ x. mixed_sum x Speakers 1 0 edges) (seen_is q tape b f g early)))
    where
      w : World
      w = world_at q tape f

      edges : List Edge
      edges = edges_to_param w.graph.value (param_id n name)

      g : ℕ
      g = if is_k_rate w (param_id n name) then q * (f / q) else f

      by_rate : (t : Bool) → (if t then q * (f / q) else f) ≤ f
      by_rate true = omega arith
      by_rate false = omega arith

      early : g ≤ f
      early = by_rate (is_k_rate w (param_id n name))

  pub same_param_needs : (f n : ℕ) (name : ParamName) → AllAlike q tape a b (param_needs q tape b f n name) → param_needs q tape a f n name ≡ param_needs q tape b f n name
  same_param_needs f n name all =
      let w : World = world_at q tape f in
      same_connections (if is_k_rate w (param_id n name) then q * (f / q) else f) (edges_to_param w.graph.value (param_id n name)) all

  -- ---- counts

  same_row : (j n : ℕ) (channels : Channels) → AllAlike q tape a b (counts_by_row q tape b j n channels)
      → output_channels q (world_in tape j) j (a.counts j) channels n ≡ output_channels q (world_in tape j) j (b.counts j) channels n
  same_row j n (Always channels) all = refl
  same_row j n OfBuffer all = refl
  same_row j n OfInput all =
      let edges : List Edge = edges_to_input (world_in tape j).graph.value n 0 in
      same_channels (world_in tape j) j n 0 (λ x h. same_count j (reader_of x.from.0) x.output
      (all (Count j (reader_of x.from.0) x.output) (IsIn-map (λ (y : Edge). Count j (reader_of y.from.0) y.output) edges x h)))

  same_reader : (j n : ℕ) → AllAlike q tape a b (writer_counts q tape b j n)
      → reader_channels q (world_in tape j) j (counts_in q tape a j) (a.counts j) n ≡ reader_channels q (world_in tape j) j (counts_in q tape b j) (b.counts j) n
  same_reader j n all = by_cycle (in_cycle (world_in tape j).graph.value n) all
    where
      birth : ℕ
      birth = (node_at (world_in tape j) n).attrs.birth / q

      keys_to : ℕ → List Key
      keys_to end = map (λ k. Count k (writer_of n) 0) (range_with_len birth (end - birth))

      at : Account → ℕ → ℕ
      at x k = seen_counts j (counts_in q tape x j) (x.counts j) k (writer_of n)

      same_at : (end : ℕ) → AllAlike q tape a b (keys_to end) → (k : ℕ) → birth ≤ k → k < birth + (end - birth) → k ≤ j → at a k ≡ at b k
      same_at end all k low high last =
          counts_are a q tape j k (writer_of n) last
          ∙ same_count k (writer_of n) 0 (all (Count k (writer_of n) 0) (IsIn-map (λ i. Count i (writer_of n) 0) (range_with_len birth (end - birth)) k (IsIn-range birth (end - birth) k low high)))
          ∙ sym (counts_are b q tape j k (writer_of n) last)

      by_cycle : (t : Bool) → AllAlike q tape a b (keys_to (if t then j else j + 1))
          → greatest (since (at a) birth ((if t then j else j + 1) - birth)) ≡ greatest (since (at b) birth ((if t then j else j + 1) - birth))
      by_cycle true all = ap greatest (same_since (at a) (at b) birth (j - birth) (λ k low high. same_at j all k low high (omega arith)))
      by_cycle false all = ap greatest (same_since (at a) (at b) birth (j + 1 - birth) (λ k low high. same_at (j + 1) all k low high (omega arith)))

  pub same_counted : (j : ℕ) (e : End) → AllAlike q tape a b (count_needs q tape b j e)
      → count_rule q (world_in tape j) j (counts_in q tape a j) (a.counts j) e ≡ count_rule q (world_in tape j) j (counts_in q tape b j) (b.counts j) e
  unfolding count_rule
  same_counted j e all = by_muted (muted w.graph.value e) all
    where
      w : World
      w = world_in tape j

      by_end : (t : Bool) (channels : Channels) → AllAlike q tape a b (if t then writer_counts q tape b j e.node.0 else counts_by_row q tape b j e.node.0 channels)
          → (if t then reader_channels q w j (counts_in q tape a j) (a.counts j) e.node.0 else output_channels q w j (a.counts j) channels e.node.0)
          ≡ (if t then reader_channels q w j (counts_in q tape b j) (b.counts j) e.node.0 else output_channels q w j (b.counts j) channels e.node.0)
      by_end true channels all = same_reader j e.node.0 all
      by_end false channels all = same_row j e.node.0 channels all

      by_muted : (t : Bool) → AllAlike q tape a b (if t then [] else counts_by_kind q tape b j e (kind_of w e.node.0))
          → (if t then 1 else count_by_kind q w j (counts_in q tape a j) (a.counts j) (kind_of w e.node.0) e)
          ≡ (if t then 1 else count_by_kind q w j (counts_in q tape b j) (b.counts j) (kind_of w e.node.0) e)
      by_muted true all = refl
      by_muted false all = by_end (is_delay_kind (kind_of w e.node.0) && not e.writer) (row (kind_of w e.node.0)).channels all
