-- What the delays of a world keep while the ends of a quantum are rendered along an order.
use Rattle.std.proofs.Common.{ℕ, ℤ, pos, ◌≡◌, ◌+◌, ◌-◌, ◌*◌, ◌/◌, ◌<◌, ◌≤◌, length, List, [], ◌∷◌, ◌++◌, Bool, true, false, ◌⊎◌, inl, inr, refl, sym, ◌∙◌, ap, arith, subst}
use Rattle.std.specs.Prelude.{if◌then◌else◌, nat_lt}
use Rattle.std.proofs.lemmas.Bool.Decides.{nat_tests}
use Rattle.wa_base.specs.Contexts.{quantum_of}
use Rattle.wa_base.specs.declared.graph_names.End.{End}
use Rattle.law_base.specs.Members.{IsIn}
use Rattle.node_table.specs.Kinds.{outputs, is_delay_kind}
use Rattle.node_table.specs.declared.kinds.Kind.TheVariants.{Delay}
use Rattle.conn_graph.specs.declared.edges.Edge.{Edge}
use Rattle.conn_graph.specs.Ends.{writer_of, reader_of, ends, is_delay, in_cycle, arrow, muted}
use Rattle.conn_graph.specs.Orders.{IsLegalAfter}
use Rattle.conn_graph.proofs.EndLaws.{has_writer, writer_arrow}
use Rattle.conn_graph.proofs.MutingLaws.{writer_unmuted}
use Rattle.meaning.specs.declared.world.World.{World}
use Rattle.meaning.specs.World.{sounding, node_at, kind_of}
use Rattle.meaning.specs.Validity.{IsValid, IsJoined}
use Rattle.meaning.specs.Counts.{world_in, count}
use Rattle.meaning.specs.Values.{frame, value}
use Rattle.meaning.specs.Blocks.{drafted}
use Rattle.meaning.specs.Worlds.{HasCapacity}
use Rattle.meaning.proofs.Asking.{asked_count}
use Rattle.meaning.proofs.Joined.{joined}
use Rattle.meaning.proofs.QuantumLaws.{AreRight, HasSources}
use Rattle.meaning.proofs.TapeLaws.{world_after}
use Rattle.automation.specs.Levels.{LevelView}
use Rattle.delay_bank.specs.Kept.{IsKept}
use Rattle.delay_bank.specs.Banks.{BankView as DelayBank, delay_at}
use Rattle.quantum_blocks.specs.Blocks.{BlockView, at, shown, block_of, counts_in, drafts_of}
use Rattle.quantum_render.specs.Plans.{AreCounted}
use Rattle.quantum_render.specs.Sites.{SiteView}
use Rattle.quantum_render.specs.Listening.{writer_in, HasKept, IsTimely}
use Rattle.quantum_render.specs.Renders.{IsFed, IsWritten, Stores}
use Rattle.quantum_render.proofs.Ports.{some_frames}
use Rattle.quantum_render.proofs.Listening.{is_among, among_in, in_among, not_among, now_among, other_among}
use Rattle.law_base.proofs.Places.{this_or_other}
use Rattle.law_base.proofs.Rows.{quantum_at, quantum_from}
use Rattle.quantum_blocks.proofs.Sources.{end_low}

-- up to which frame the writer of a delay has written, by the ends that are done in a quantum of q frames
abbrev pub written_until : ℕ → List End → ℕ → ℕ → ℕ
written_until q done first n = if is_among done (writer_of n) then first + q else first

-- each delay keeps what its writer wrote, as far as the ends are done
abbrev pub AreKeptBy : DelayBank → World → List World → ℕ → List End → Type 0
AreKeptBy bank w tape first done = (n : ℕ) (longest time : ℤ) (capacity : ℕ) → n < length w.nodes → kind_of w n ≡ Delay longest time capacity
    → IsKept (quantum_of w.spec) (delay_at bank n) capacity (node_at w n).attrs.birth (written_until (quantum_of w.spec) done first n) (writer_in (quantum_of w.spec) (frame (quantum_of w.spec) (tape ++ w ∷ [])) n)

-- a frame of a quantum
frame_within : (q first g j : ℕ) → first ≡ q * j → first ≤ g → g < first + q → g / q ≡ j
frame_within q first g j begins low high =
    ap (λ n. n / q) (let e : g ≡ q * j + (g - first) = omega (arith, begins, low) in e) ∙ quantum_at q j (g - first) (omega (arith, low, high))

module _ (w : World) (valid : IsValid w) (tape : List World) (first : ℕ) (begins : first ≡ quantum_of w.spec * length tape) (counts : List ℕ) (counted : AreCounted (quantum_of w.spec) w counts tape) (timely : IsTimely w) where
  abbrev q : ℕ
  q = quantum_of w.spec

  some : 0 < q
  some = some_frames w valid

  abbrev longer : List World
  longer = tape ++ w ∷ []

  -- the counts of a writer are those of the tape
  count_of_writer : (n k : ℕ) → (writer_in q (frame q longer) n).counts k ≡ count q longer k (writer_of n)
  count_of_writer n k = ap (λ i. count q longer i (writer_of n)) (quantum_from q k some)

  is_delay_at : (n : ℕ) (longest time : ℤ) (capacity : ℕ) → kind_of w n ≡ Delay longest time capacity → is_delay w.graph.value n ≡ true
  is_delay_at n longest time capacity kind = (joined w valid).delays n ∙ ap is_delay_kind kind

  writer_there : (n : ℕ) (longest time : ℤ) (capacity : ℕ) → kind_of w n ≡ Delay longest time capacity → IsIn (writer_of n) (ends w.graph.value)
  writer_there n longest time capacity kind = has_writer w.graph.value n (is_delay_at n longest time capacity kind)

  -- of what a reader asks for nothing has more channels than it
  few_for : (n d f : ℕ) (longest time : ℤ) (capacity : ℕ) → kind_of w n ≡ Delay longest time capacity → muted w.graph.value (reader_of n) ≡ false → IsIn (reader_of n) (ends w.graph.value) → f / q ≡ length tape
      → (in_cycle w.graph.value n ≡ true → q ≤ d) → (node_at w n).attrs.birth + d ≤ f → (writer_in q (frame q longer) n).counts ((f - d) / q) ≤ counts_in counts (reader_of n)
  few_for n d f longest time capacity kind unmuted there now long born =
      let u : World = world_in longer (f / q) in
      let same : u ≡ sounding w = world_after tape w (f / q) now in
      let few = asked_count q some longer f (subst IsJoined (sym same) (joined w valid)) n d
      (subst (λ (x : World). is_delay_kind (kind_of x n) ≡ true) (sym same) (ap is_delay_kind kind))
      (subst (λ (x : World). muted x.graph.value (reader_of n) ≡ false) (sym same) unmuted)
      (λ cycle. long (subst (λ (x : World). in_cycle x.graph.value n ≡ true) same cycle))
      (subst (λ (x : World). (node_at x n).attrs.birth + d ≤ f) (sym same) born) in
      subst (λ c. c ≤ counts_in counts (reader_of n)) (sym (count_of_writer n ((f - d) / q)))
      (subst (λ c. count q longer ((f - d) / q) (writer_of n) ≤ c) (ap (λ j. count q longer j (reader_of n)) now ∙ sym (counted (reader_of n) there)) few)

  module _ (blocks : List BlockView) (done : List End) (right : AreRight q longer (length tape) w (drafts_of blocks counts) done) (bank : DelayBank) (kept : AreKeptBy bank w tape first done)
      (x : End) (in_x : IsIn x (ends w.graph.value)) (unmuted : muted w.graph.value x ≡ false) (new : IsIn x done → ⊥) (sources : HasSources w done x) (edges : List Edge) (levels : List LevelView)
      (longest time : ℤ) (capacity : ℕ) (kind : kind_of w x.node.0 ≡ Delay longest time capacity) where
    abbrev s : SiteView
    s = record { world = w; end = x; into = edges; counts = counts; levels = levels; first = first }

    abbrev n : ℕ
    n = x.node.0

    low : n < length w.nodes
    low = end_low w valid x in_x

    -- the delay of an end that is rendered next is fed
    pub is_fed : IsFed s bank blocks (frame q longer) longest capacity
    is_fed = record {
      now = written_until q done first n;
      kept = kept n longest time capacity low kind;
      written = by_done (is_among done (writer_of n));
      in_time = λ reader none.
          let here : x ≡ reader_of n = ap (λ b. let e : End = record { node = x.node; writer = b } in e) reader in
          let before = sources (writer_of n) (writer_there n longest time capacity kind) (writer_unmuted w.graph.value n (is_delay_at n longest time capacity kind))
          (subst (λ e. arrow w.graph.value (writer_of n) e ≡ true) (sym here) (writer_arrow w.graph.value n (is_delay_at n longest time capacity kind) none)) in
          ap (λ b. if b then first + q else first) (in_among done (writer_of n) before);
      born = timely.born n low;
      whole = subst (HasCapacity q w.spec) kind (timely.capacity n low);
      counts = λ g l. by_counts g l (nat_lt g first) refl;
      values = λ g l. by_values g l (nat_lt g first) refl (is_among done (writer_of n)) refl;
      few = λ reader d k l long born.
          let here : x ≡ reader_of n = ap (λ b. let e : End = record { node = x.node; writer = b } in e) reader in
          few_for n d (first + k) longest time capacity kind (subst (λ e. muted w.graph.value e ≡ false) here unmuted) (subst (λ e. IsIn e (ends w.graph.value)) here in_x)
          (frame_within q first (first + k) (length tape) begins (omega arith) (omega arith)) long born;
    }
      where
        by_done : (b : Bool) → ((if b then first + q else first) ≡ first) ⊎ ((if b then first + q else first) ≡ first + q)
        by_done true = inr refl
        by_done false = inl refl

        by_counts : (g : ℕ) → g < first + q → (b : Bool) → nat_lt g first ≡ b
            → (if b then frame q longer g else drafted (sounding w) (counts_in counts) (drafts_of blocks counts (g - first))).counts (writer_of n) ≡ (writer_in q (frame q longer) n).counts (g / q)
        by_counts g l true t = sym (count_of_writer n (g / q))
        by_counts g l false t =
            let late : first ≤ g = grind (arith, nat_tests) in
            counted (writer_of n) (writer_there n longest time capacity kind)
            ∙ ap (λ j. count q longer j (writer_of n)) (sym (frame_within q first g (length tape) begins late l))
            ∙ sym (count_of_writer n (g / q))

        by_values : (g : ℕ) → g < written_until q done first n → (b : Bool) → nat_lt g first ≡ b → (among : Bool) → is_among done (writer_of n) ≡ among
            → (if b then frame q longer g else drafted (sounding w) (counts_in counts) (drafts_of blocks counts (g - first))).values (writer_of n) 0 ≡ (writer_in q (frame q longer) n).frames g
        by_values g l true t among is = refl
        by_values g l false t true is =
            let late : first ≤ g = grind (arith, nat_tests) in
            let soon : g < first + q = subst (λ b. g < (if b then first + q else first)) is l in
            ap (λ (v : ℕ → ℕ → ℤ). v 0) (right (g - first) (omega arith) (writer_of n) (writer_there n longest time capacity kind) (inr (among_in done (writer_of n) is)))
            ∙ ap (λ f. value q longer f (writer_of n) 0) (let e : q * length tape + (g - first) ≡ g = omega (arith, begins) in e)
        by_values g l false t false is =
            let late : first ≤ g = grind (arith, nat_tests) in
            let soon : g < first = subst (λ b. g < (if b then first + q else first)) is l in
            absurd (omega arith)

  -- ---- after one more end

  module _ (blocks : List BlockView) (done : List End) (bank bank' : DelayBank) (kept : AreKeptBy bank w tape first done) (x : End) (in_x : IsIn x (ends w.graph.value)) (new : IsIn x done → ⊥)
      (right : AreRight q longer (length tape) w (drafts_of blocks counts) (x ∷ done)) (lanes : (block_of blocks x).lanes ≡ outputs (kind_of w x.node.0) * counts_in counts x)
      (edges : List Edge) (levels : List LevelView) (stores : Stores (record { world = w; end = x; into = edges; counts = counts; levels = levels; first = first }) (block_of blocks x) bank bank') where
    -- what the writer of a tape writes in the quantum
    is_written : (longest time : ℤ) (capacity : ℕ) → kind_of w x.node.0 ≡ Delay longest time capacity → x ≡ writer_of x.node.0
        → IsWritten (record { world = w; end = x; into = edges; counts = counts; levels = levels; first = first }) (block_of blocks x) (writer_in q (frame q longer) x.node.0)
    is_written longest time capacity kind here = record {
      count = count_of_writer x.node.0 (first / q) ∙ ap (λ j. count q longer j (writer_of x.node.0)) (ap (λ n. n / q) begins ∙ quantum_from q (length tape) some) ∙ ap (count q longer (length tape)) (sym here) ∙ sym (counted x in_x);
      frames = λ c k l now.
          ap (λ (e : End). value q longer (first + k) e 0 c) (sym here)
          ∙ ap (λ f. value q longer (f + k) x 0 c) begins
          ∙ ap (λ (v : ℕ → ℕ → ℤ). v 0 c) (sym (right k now x in_x (inr (inl refl))))
          ∙ own c k l;
    }
      where
        one : outputs (kind_of w x.node.0) ≡ 1
        one = ap outputs kind

        own : (c k : ℕ) → c < counts_in counts x → (if nat_lt c (counts_in counts x) then shown (block_of blocks x) k (0 * counts_in counts x + c) else pos 0) ≡ at (block_of blocks x) c k
        own c k l =
            ap (λ b. if b then shown (block_of blocks x) k (0 * counts_in counts x + c) else pos 0) (let yes : nat_lt c (counts_in counts x) ≡ true = grind (arith, nat_tests) in yes)
            ∙ ap (shown (block_of blocks x) k) (let e : 0 * counts_in counts x + c ≡ c = omega arith in e)
            ∙ ap (λ b. if b then at (block_of blocks x) c k else pos 0) (let long = lanes in let here = one in let within : c < (block_of blocks x).lanes = rw lanes (rw one (omega arith)) in let yes : nat_lt c (block_of blocks x).lanes ≡ true = grind (arith, nat_tests) in yes)

    pub kept_more : AreKeptBy bank' w tape first (x ∷ done)
    kept_more n longest time capacity low kind = elim (this_or_other n x.node.0) [
      | inl here ↦
          let own : kind_of w x.node.0 ≡ Delay longest time capacity = subst (λ k. kind_of w k ≡ Delay longest time capacity) here kind in
          subst (λ k. IsKept q (delay_at bank' k) capacity (node_at w k).attrs.birth (written_until q (x ∷ done) first k) (writer_in q (frame q longer) k)) (sym here)
          (by_end x.writer refl (subst (λ k. k < length w.nodes) here low) own)
      | inr apart ↦
          subst (λ b. IsKept q (delay_at bank' n) capacity (node_at w n).attrs.birth (if b then first + q else first) (writer_in q (frame q longer) n)) (sym (other_among done x (writer_of n) (λ e. apart (ap (λ (d : End). d.node.0) e))))
          (subst (λ o. IsKept q o capacity (node_at w n).attrs.birth (written_until q done first n) (writer_in q (frame q longer) n)) (sym (stores.others n apart)) (kept n longest time capacity low kind))
    ]
      where
        by_end : (b : Bool) → x.writer ≡ b → x.node.0 < length w.nodes → kind_of w x.node.0 ≡ Delay longest time capacity
            → IsKept q (delay_at bank' x.node.0) capacity (node_at w x.node.0).attrs.birth (written_until q (x ∷ done) first x.node.0) (writer_in q (frame q longer) x.node.0)
        by_end true writer there own =
            let here : x ≡ writer_of x.node.0 = ap (λ b. let e : End = record { node = x.node; writer = b } in e) writer in
            let old = subst (λ b. IsKept q (delay_at bank x.node.0) capacity (node_at w x.node.0).attrs.birth (if b then first + q else first) (writer_in q (frame q longer) x.node.0))
            (subst (λ e. is_among done e ≡ false) here (not_among done x new)) (kept x.node.0 longest time capacity there own) in
            subst (λ b. IsKept q (delay_at bank' x.node.0) capacity (node_at w x.node.0).attrs.birth (if b then first + q else first) (writer_in q (frame q longer) x.node.0))
            (sym (subst (λ e. is_among (x ∷ done) e ≡ true) here (now_among done x)))
            (stores.own writer capacity (node_at w x.node.0).attrs.birth (writer_in q (frame q longer) x.node.0) old (is_written longest time capacity own here))
        by_end false reader there own =
            subst (λ b. IsKept q (delay_at bank' x.node.0) capacity (node_at w x.node.0).attrs.birth (if b then first + q else first) (writer_in q (frame q longer) x.node.0))
            (sym (other_among done x (writer_of x.node.0) (λ e. let same : true ≡ x.writer = ap (λ (d : End). d.writer) e in absurd (let no = same ∙ reader in cc))))
            (subst (λ o. IsKept q o capacity (node_at w x.node.0).attrs.birth (written_until q done first x.node.0) (writer_in q (frame q longer) x.node.0)) (sym (stores.read reader)) (kept x.node.0 longest time capacity there own))

  -- once all ends are done, each delay keeps the quantum
  pub all_kept : (done : List End) → IsLegalAfter w.graph.value done [] → (bank : DelayBank) → bank.quantum ≡ q → AreKeptBy bank w tape first done → HasKept bank w tape (first + q)
  all_kept done legal bank same kept n longest time capacity low kind =
      subst (λ k. IsKept k (delay_at bank n) capacity (node_at w n).attrs.birth (first + q) (writer_in q (frame q longer) n)) (sym same)
      (subst (λ b. IsKept q (delay_at bank n) capacity (node_at w n).attrs.birth (if b then first + q else first) (writer_in q (frame q longer) n))
      (in_among done (writer_of n) (legal (writer_of n) (writer_there n longest time capacity kind) (writer_unmuted w.graph.value n (is_delay_at n longest time capacity kind))))
      (kept n longest time capacity low kind))
