-- Counting the channels along a legal order.
use Rattle.std.proofs.Common.{ℕ, ◌≡◌, ◌+◌, ◌*◌, ◌/◌, ◌<◌, ◌≤◌, length, List, [], ◌∷◌, ◌++◌, drop, slice_index_or, slice_set, Bool, true, false, inl, inr, refl, sym, ◌∙◌, ap, arith, subst}
use Rattle.std.specs.Prelude.{if◌then◌else◌, ◌==◌}
use Rattle.std.proofs.Math.ListN.{drop_of_length-le}
use Rattle.std.proofs.lemmas.List.{get_or-set_same, get_or-set_other, length-set}
use Rattle.std.proofs.lemmas.Bool.Decides.{nat_tests}
use Rattle.wa_base.specs.Contexts.{quantum_of}
use Rattle.wa_base.specs.declared.graph_names.End.{End}
use Rattle.law_base.specs.Members.{IsIn}
use Rattle.node_table.specs.declared.rows.Channels.TheVariants.{Always}
use Rattle.node_table.specs.Kinds.{row, outputs}
use Rattle.conn_graph.specs.Ends.{same_end, ends}
use Rattle.conn_graph.specs.Orders.{IsLegalAfter, IsLegalOrder}
use Rattle.conn_graph.proofs.EndLaws.{same_end_is}
use Rattle.meaning.specs.declared.world.World.{World}
use Rattle.meaning.specs.World.{sounding, kind_of}
use Rattle.meaning.specs.Validity.{IsValid}
use Rattle.meaning.specs.Counts.{Counts, count_rule, count_by_kind, count, counts_before}
use Rattle.meaning.proofs.Joined.{joined}
use Rattle.meaning.proofs.OrderLaws.{IsKnown, known_before, known_source, all_known}
use Rattle.meaning.proofs.QuantumLaws.{count_right, muted_one}
use Rattle.quantum_blocks.specs.Blocks.{slot, counts_in}
use Rattle.quantum_blocks.specs.Fits.{AreInRange}
use Rattle.delay_bank.specs.Banks.{BankView as DelayBank}
use Rattle.quantum_render.specs.Listening.{HasKept}
use Rattle.quantum_render.specs.Plans.{AreMost, AreCounted, AsCounted}
use Rattle.quantum_render.proofs.ReaderCounts.{are_most}
use Rattle.quantum_blocks.proofs.Orders.{no_end, next_in_order}
use Rattle.quantum_render.proofs.Ports.{some_frames, outputs_few}
use Rattle.quantum_blocks.proofs.Slots.{slot_low, slot_apart, slot-half, not_same}
use Rattle.quantum_blocks.proofs.Sources.{end_low}

-- where each end has one channel
pub one_each : (w : World) → IsValid w → (counts : List ℕ) → length counts ≡ 2 * length w.nodes → ((k : ℕ) → k < length counts → slice_index_or counts k 1 ≡ 1) → AreInRange w counts
one_each w valid counts places ones = record {
  places = places;
  low = λ k l. let e = ones k l in omega arith;
  high = λ k l. let e = ones k l in omega arith;
  lanes = λ k l. let few = outputs_few w valid (k / 2) in rw (ones k l) (omega arith);
  mono = λ k l t. ones k l;
}

-- after so many ends of an order the known ends have their counts
pub record Counting (w : World) (delays : DelayBank) (first : ℕ) (order : List End) (i : ℕ) (counts : List ℕ) : Type 0 where
  pub done : List End
  pub legal : IsLegalAfter w.graph.value done (drop i order)
  pub range : AreInRange w counts
  pub known : (tape : List World) → first ≡ quantum_of w.spec * length tape → HasKept delays w tape first → (d : End) → IsIn d (ends w.graph.value) → IsKnown w.graph.value done d → counts_in counts d ≡ count (quantum_of w.spec) (tape ++ w ∷ []) (length tape) d

pub counting_begins : (w : World) → IsValid w → (delays : DelayBank) (first : ℕ) (order : List End) → IsLegalOrder w.graph.value order → (counts : List ℕ) → length counts ≡ 2 * length w.nodes
    → ((k : ℕ) → k < length counts → slice_index_or counts k 1 ≡ 1) → Counting w delays first order 0 counts
counting_begins w valid delays first order legal counts places ones = record {
  done = [];
  legal = legal;
  range = one_each w valid counts places ones;
  known = λ tape time kept d in_d k. elim k [
    | inl m ↦ ones (slot d) (subst (λ n. slot d < n) (sym places) (slot_low d (length w.nodes) (end_low w valid d in_d))) ∙ sym (muted_one (quantum_of w.spec) (some_frames w valid) w (joined w valid) tape d in_d m)
    | inr none ↦ absurd none
  ];
}

module _ (w : World) (valid : IsValid w) (delays : DelayBank) (first : ℕ) (order : List End) (i : ℕ) (counts : List ℕ) (c : Counting w delays first order i counts) (l : i < length order) where
  abbrev x : End
  x = slice_index_or order i no_end

  pub next : IsLegalAfter w.graph.value c.done (x ∷ drop (i + 1) order)
  next = next_in_order w order c.done i c.legal l

  pub next_slot : slot x < length counts
  next_slot = subst (λ n. slot x < n) (sym c.range.places) (slot_low x (length w.nodes) (end_low w valid x next.0))

  module _ (same : delays.quantum ≡ quantum_of w.spec) (v : ℕ) (is : (j : ℕ) (earlier : ℕ → Counts) → first ≡ quantum_of w.spec * j → AreMost delays w j earlier → v ≡ count_by_kind (quantum_of w.spec) (sounding w) j earlier (counts_in counts) (kind_of w x.node.0) x) where
    own_count : (tape : List World) → first ≡ quantum_of w.spec * length tape → HasKept delays w tape first → v ≡ count (quantum_of w.spec) (tape ++ w ∷ []) (length tape) x
    unfolding count_rule
    own_count tape time kept =
        is (length tape) (counts_before (quantum_of w.spec) (tape ++ w ∷ []) (length tape)) time (are_most delays w (some_frames w valid) same tape first time kept)
        ∙ ap (λ b. if b then 1 else count_by_kind (quantum_of w.spec) (sounding w) (length tape) (counts_before (quantum_of w.spec) (tape ++ w ∷ []) (length tape)) (counts_in counts) (kind_of w x.node.0) x) (sym next.1)
        ∙ count_right (quantum_of w.spec) (some_frames w valid) w (joined w valid) tape (counts_before (quantum_of w.spec) (tape ++ w ∷ []) (length tape)) (λ n k delay low high. refl) (counts_in counts) x next.0
        (λ d in_d a. c.known tape time kept d in_d (known_source w.graph.value c.done x next.3 d in_d a))

    counted_more : (tape : List World) → first ≡ quantum_of w.spec * length tape → HasKept delays w tape first → (d : End) → IsIn d (ends w.graph.value) → IsKnown w.graph.value (x ∷ c.done) d
        → counts_in (slice_set counts (slot x) v) d ≡ count (quantum_of w.spec) (tape ++ w ∷ []) (length tape) d
    counted_more tape time kept d in_d known = by_test (same_end d x) refl
      where
        by_test : (b : Bool) → same_end d x ≡ b → slice_index_or (slice_set counts (slot x) v) (slot d) 1 ≡ count (quantum_of w.spec) (tape ++ w ∷ []) (length tape) d
        by_test true t =
            let same : d ≡ x = same_end_is d x t in
            ap (λ (e : End). slice_index_or (slice_set counts (slot x) v) (slot e) 1) same
            ∙ get_or-set_same counts (slot x) v 1 next_slot
            ∙ own_count tape time kept
            ∙ ap (count (quantum_of w.spec) (tape ++ w ∷ []) (length tape)) (sym same)
        by_test false t =
            get_or-set_other counts (slot x) (slot d) v 1 (slot_apart d x (not_same d x t)) ∙ c.known tape time kept d in_d (known_before w.graph.value x c.done d known t)

    -- what holds of each count, and of the new one, holds afterwards
    each_still : (P : ℕ → ℕ → Type 0) → P (slot x) v → ((k : ℕ) → k < length counts → P k (slice_index_or counts k 1))
        → (k : ℕ) → k < length (slice_set counts (slot x) v) → P k (slice_index_or (slice_set counts (slot x) v) k 1)
    each_still P own each k l = by_test (k == slot x) refl
      where
        by_test : (b : Bool) → (k == slot x) ≡ b → P k (slice_index_or (slice_set counts (slot x) v) k 1)
        by_test true t = let here : slot x ≡ k = grind (arith, nat_tests) in
            subst (λ j. P j (slice_index_or (slice_set counts (slot x) v) j 1)) here (subst (P (slot x)) (sym (get_or-set_same counts (slot x) v 1 next_slot)) own)
        by_test false t = let apart : k ≡ slot x → ⊥ = λ e. grind (arith, nat_tests) in
            subst (P k) (sym (get_or-set_other counts (slot x) k v 1 apart)) (each k (subst (λ n. k < n) (length-set counts (slot x) v) l))

    pub counting_goes_on : 1 ≤ v → v ≤ 32 → outputs (kind_of w x.node.0) * v ≤ 32 → ((row (kind_of w x.node.0)).channels ≡ Always 1 → v ≡ 1) → Counting w delays first order (i + 1) (slice_set counts (slot x) v)
    counting_goes_on low high lanes mono = record {
      done = x ∷ c.done;
      legal = next.4;
      range = record {
        places = length-set counts (slot x) v ∙ c.range.places;
        low = each_still (λ k n. 1 ≤ n) low c.range.low;
        high = each_still (λ k n. n ≤ 32) high c.range.high;
        lanes = each_still (λ k n. outputs (kind_of w (k / 2)) * n ≤ 32) (subst (λ k. outputs (kind_of w k) * v ≤ 32) (sym (slot-half x)) lanes) c.range.lanes;
        mono = each_still (λ k n. (row (kind_of w (k / 2))).channels ≡ Always 1 → n ≡ 1) (subst (λ k. (row (kind_of w k)).channels ≡ Always 1 → v ≡ 1) (sym (slot-half x)) mono) c.range.mono;
      };
      known = counted_more;
    }

  -- where the next end has its count already
  pub counting_holds : delays.quantum ≡ quantum_of w.spec → AsCounted delays w first counts x → Counting w delays first order (i + 1) counts
  counting_holds same is = record {
    done = x ∷ c.done;
    legal = next.4;
    range = c.range;
    known = λ tape time kept d in_d known. by_test tape time kept d in_d known (same_end d x) refl;
  }
    where
      by_test : (tape : List World) → first ≡ quantum_of w.spec * length tape → HasKept delays w tape first → (d : End) → IsIn d (ends w.graph.value) → IsKnown w.graph.value (x ∷ c.done) d
          → (b : Bool) → same_end d x ≡ b → counts_in counts d ≡ count (quantum_of w.spec) (tape ++ w ∷ []) (length tape) d
      by_test tape time kept d in_d known true t =
          let same_end : d ≡ x = same_end_is d x t in
          ap (counts_in counts) same_end ∙ own_count same (counts_in counts x) is tape time kept ∙ ap (count (quantum_of w.spec) (tape ++ w ∷ []) (length tape)) (sym same_end)
      by_test tape time kept d in_d known false t = c.known tape time kept d in_d (known_before w.graph.value x c.done d known t)

pub counting_ends : (w : World) (delays : DelayBank) (first : ℕ) (order : List End) (i : ℕ) (counts : List ℕ) → Counting w delays first order i counts → length order ≤ i → (tape : List World) → first ≡ quantum_of w.spec * length tape → HasKept delays w tape first → AreCounted (quantum_of w.spec) w counts tape
counting_ends w delays first order i counts c l tape time kept d in_d =
    let legal : IsLegalAfter w.graph.value c.done [] = subst (IsLegalAfter w.graph.value c.done) (drop_of_length-le order l) c.legal in
    c.known tape time kept d in_d (all_known w.graph.value c.done legal d in_d)
