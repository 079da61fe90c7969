-- No end has more than 32 channels.
use Rattle.std.proofs.Common.{ℕ, zero, suc, ◌≡◌, ◌+◌, ◌*◌, ◌<◌, ◌≤◌, length, List, [], ◌∷◌, map, All, Bool, true, false, Option, None, Some, inl, inr, refl, sym, subst, arith}
use Rattle.std.specs.Prelude.{if◌then◌else◌, nat_lt, ◌&&◌, not, ◌==◌, slice_get, slice_index_or}
use Rattle.std.specs.Option.{option_map_or}
use Rattle.std.proofs.lemmas.Bool.{cases_lt}
use Rattle.std.proofs.lemmas.Bool.Decides.{nat_tests}
use Rattle.std.proofs.lemmas.List.{get_or_past}
use Rattle.wa_base.specs.declared.graph_names.BufId.{BufId}
use Rattle.wa_base.specs.declared.graph_names.End.{End}
use Rattle.wa_base.specs.declared.graph_names.Mode.{Mode}
use Rattle.wa_base.specs.declared.graph_names.Mode.TheVariants.{Max, ClampedMax, Explicit}
use Rattle.mix_rules.specs.Counts.{greatest, input_count}
use Rattle.sched_source.specs.Schedule.{plays_in}
use Rattle.buffer_store.specs.declared.buffers.Buffer.{Buffer as AudioBuffer}
use Rattle.buffer_store.specs.Buffers.{IsBuffer}
use Rattle.node_table.specs.Kinds.{row, is_delay_kind}
use Rattle.node_table.specs.declared.nodes.Node.{Node}
use Rattle.node_table.specs.declared.rows.Channels.{Channels}
use Rattle.node_table.specs.declared.rows.Channels.TheVariants.{Always, OfInput, OfBuffer}
use Rattle.conn_graph.specs.declared.edges.Edge.{Edge}
use Rattle.conn_graph.specs.Graph.{edges_to_input}
use Rattle.conn_graph.specs.Ends.{writer_of, reader_of, height, muted}
use Rattle.meaning.specs.declared.world.World.{World}
use Rattle.meaning.specs.declared.scheds.Play.{Play}
use Rattle.meaning.specs.Lists.{since}
use Rattle.meaning.specs.World.{sounding, no_world, no_node, node_at, kind_of, channels_in, find_play}
use Rattle.meaning.specs.Validity.{IsValid}
use Rattle.meaning.specs.Counts.{Counts, world_in, seen_counts, reader_channels, output_channels, count_by_kind, count_rule, count_at, count, counts_before}
use Rattle.meaning.proofs.CountLaws.{count_recursion, count_silence}
use Rattle.meaning.proofs.NodeKinds.{row_there}
use Rattle.node_table.proofs.NodeLists.{HasLanes}

-- what a world has of channels is at most 32
record IsNarrow (w : World) : Type 0 where
  count : (i : ℕ) → (node_at w i).attrs.count ≤ 32
  always : (i n : ℕ) → (row (kind_of w i)).channels ≡ Always n → n ≤ 32
  buffers : (b : Option BufId) → channels_in w.store b ≤ 32

greatest_map : {X : Type 0} (f : X → ℕ) (xs : List X) → ((x : X) → f x ≤ 32) → greatest (map f xs) ≤ 32
greatest_map f [] few = omega arith
greatest_map f (x ∷ xs) few = let here = few x in let more = greatest_map f xs few in omega (arith, here, more)

greatest_since : (at : ℕ → ℕ) (first n : ℕ) → ((k : ℕ) → first ≤ k → k < first + n → at k ≤ 32) → greatest (since at first n) ≤ 32
greatest_since at first zero few = omega arith
greatest_since at first (suc n) few = let here = few (first + n) (omega arith) (omega arith) in let more = greatest_since at first n (λ k l m. few k l (omega arith)) in omega (arith, here, more)

input_few : (mode : Mode) (channels : ℕ) (counts : List ℕ) → channels ≤ 32 → greatest counts ≤ 32 → input_count mode channels counts ≤ 32
input_few Max channels counts own others = others
input_few ClampedMax channels counts own others = omega arith
input_few Explicit channels counts own others = own

module _ (q : ℕ) (w : World) (narrow : IsNarrow w) (j : ℕ) (past : ℕ → Counts) (now : Counts) (past_few : (k : ℕ) (e : End) → past k e ≤ 32) (now_few : (e : End) → now e ≤ 32) where
  channels_few : (n : ℕ) (c : Channels) → (row (kind_of w n)).channels ≡ c → output_channels q w j now c n ≤ 32
  channels_few n (Always channels) is = narrow.always n channels is
  channels_few n OfInput is =
      input_few (node_at w n).attrs.mode (node_at w n).attrs.count _ (narrow.count n) (greatest_map (λ (e : Edge). now (reader_of e.from.0)) (edges_to_input w.graph.value n 0) (λ e. now_few (reader_of e.from.0)))
  channels_few n OfBuffer is = by_play (find_play w.scheds.items n)
    where
      by_buffer : (t : Bool) (b : Option BufId) → (if t then channels_in w.store b else 1) ≤ 32
      by_buffer true b = narrow.buffers b
      by_buffer false b = omega arith

      by_play : (o : Option Play) → option_map_or (λ (p : Play). if plays_in q p.sched (q * j) then channels_in w.store p.buffer else 1) o 1 ≤ 32
      by_play None = omega arith
      by_play (Some p) = by_buffer (plays_in q p.sched (q * j)) p.buffer

  rule_few : (e : End) → count_rule q w j past now e ≤ 32
  unfolding count_rule
  rule_few e = by_muted (muted w.graph.value e)
    where
      seen_few : (k : ℕ) (t : Bool) (n : ℕ) → (if t then now else past k) (writer_of n) ≤ 32
      seen_few k true n = now_few (writer_of n)
      seen_few k false n = past_few k (writer_of n)

      by_end : (t : Bool) → (if t then reader_channels q w j past now e.node.0 else output_channels q w j now (row (kind_of w e.node.0)).channels e.node.0) ≤ 32
      by_end true = greatest_since (λ k. seen_counts j past now k (writer_of e.node.0)) _ _ (λ k low high. seen_few k (k == j) e.node.0)
      by_end false = channels_few e.node.0 (row (kind_of w e.node.0)).channels refl

      by_muted : (t : Bool) → (if t then 1 else count_by_kind q w j past now (kind_of w e.node.0) e) ≤ 32
      by_muted true = omega arith
      by_muted false = by_end (is_delay_kind (kind_of w e.node.0) && not e.writer)

-- ---- worlds that are valid, and the one past the end of a tape

of_buffers : (store : List AudioBuffer) → All IsBuffer store → (b : Option BufId) → channels_in store b ≤ 32
of_buffers store each None = omega arith
of_buffers store each (Some b) = in_list store each b.0
  where
    in_list : (xs : List AudioBuffer) → All IsBuffer xs → (i : ℕ) → option_map_or (λ (x : AudioBuffer). x.shape.channels) (slice_get xs i) 1 ≤ 32
    in_list [] each i = omega arith
    in_list (x ∷ xs) each zero = (each 0 x (omega arith)).channels_high
    in_list (x ∷ xs) each (suc i) = in_list xs (λ k d l. each (suc k) d (omega arith)) i

counts_fit : (w : World) → IsValid w → (i : ℕ) → (node_at w i).attrs.count ≤ 32
counts_fit w valid zero = subst (λ n. n ≤ 32) (sym valid.nodes.first.count) valid.spec.channels_high
counts_fit w valid (suc i) = elim (cases_lt (suc i) (length w.nodes)) [
  | inl there ↦ (valid.nodes.others (suc i) (omega arith) there).count_high
  | inr past ↦ subst (λ (n : Node). n.attrs.count ≤ 32) (sym (get_or_past w.nodes (suc i) no_node past)) (omega arith)
]

always_few : (w : World) → IsValid w → (i n : ℕ) → (row (kind_of w i)).channels ≡ Always n → n ≤ 32
always_few w valid i n is = (subst (λ c. HasLanes c (row (kind_of w i)).outputs) is (row_there w valid i).lanes).1

narrow_world : (w : World) → IsValid w → IsNarrow (sounding w)
narrow_world w valid = record { count = counts_fit w valid; always = always_few w valid; buffers = of_buffers w.store valid.store.each }

narrow_none : IsNarrow (sounding no_world)
narrow_none = record { count = λ i. omega arith; always = λ i n is. absurd cc; buffers = no_buffers }
  where
    no_buffers : (b : Option BufId) → channels_in [] b ≤ 32
    no_buffers None = omega arith
    no_buffers (Some b) = omega arith

narrow_from : (tape : List World) (j : ℕ) → ((k : ℕ) → k < length tape → IsValid (slice_index_or tape k no_world)) → IsNarrow (sounding (slice_index_or tape j no_world))
narrow_from [] j each = narrow_none
narrow_from (w ∷ ws) zero each = narrow_world w (each 0 (omega arith))
narrow_from (w ∷ ws) (suc j) each = narrow_from ws j (λ k l. each (suc k) (omega arith))

module _ (q : ℕ) (tape : List World) (valid : All IsValid tape) where
  narrow_in : (j : ℕ) → IsNarrow (world_in tape j)
  narrow_in j = narrow_from tape j (λ k l. valid k no_world l)

  by_height : (j : ℕ) → ((k : ℕ) (e : End) → counts_before q tape j k e ≤ 32) → (h : ℕ) (e : End) → count_at q tape j h e ≤ 32
  by_height j before zero e = subst (λ (c : Counts). c e ≤ 32) (sym (count_silence q tape j)) (omega arith)
  by_height j before (suc h) e =
      subst (λ (c : Counts). c e ≤ 32) (sym (count_recursion q tape j h)) (rule_few q (world_in tape j) (narrow_in j) j (counts_before q tape j) (count_at q tape j h) before (by_height j before h) e)

  below : (n j : ℕ) → j < n → (e : End) → count q tape j e ≤ 32
  unfolding count
  below zero j l e = absurd (omega arith)
  below (suc n) j l e = by_height j (λ k d. by_test k d (nat_lt k j) refl (λ low. below n k low d)) (height (world_in tape j).graph.value) e
    where
      by_test : (k : ℕ) (d : End) (t : Bool) → nat_lt k j ≡ t → (k < n → count q tape k d ≤ 32) → (if t then count q tape k else λ e. 1) d ≤ 32
      by_test k d true is lower = lower (let low : k < j = grind (arith, nat_tests) in omega arith)
      by_test k d false is lower = omega arith

  pub counts_few : (j : ℕ) (e : End) → count q tape j e ≤ 32
  counts_few j e = below (j + 1) j (omega arith) e
