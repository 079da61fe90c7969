-- Counts see only along arrows, and so settle.
use Rattle.std.proofs.Common.{ℕ, suc, ◌≡◌, ◌<◌, ◌≤◌, ◌+◌, ◌-◌, ◌/◌, ◌⊎◌, inl, inr, length, List, Bool, true, false, refl, sym, ◌∙◌, ap, subst, arith}
use Rattle.std.specs.Prelude.{if◌then◌else◌, nat_lt, ◌==◌, ◌&&◌, not}
use Rattle.std.proofs.lemmas.Bool.Decides.{nat_tests}
use Rattle.wa_base.specs.declared.graph_names.End.{End}
use Rattle.law_base.specs.Members.{IsIn}
use Rattle.law_base.specs.Reaching.{reaches}
use Rattle.law_base.specs.Heights.{at_moment, before, state}
use Rattle.law_base.proofs.Reaching.{direct, further, up_to}
use mathlib.Core.Path.{fun_ext}
use Rattle.law_base.proofs.HeightLaws.{settled}
use Rattle.law_base.proofs.SchemeLaws.{before_is, before_none, moment-zero, moment-suc}
use Rattle.mix_rules.specs.Counts.{greatest}
use Rattle.node_table.specs.Kinds.{row, is_delay_kind}
use Rattle.node_table.specs.declared.kinds.Kind.{Kind}
use Rattle.node_table.specs.declared.rows.Channels.{Channels}
use Rattle.node_table.specs.declared.rows.Channels.TheVariants.{Always, OfInput, OfBuffer}
use Rattle.conn_graph.specs.Ends.{writer_of, input_end, ends, in_cycle, arrow, height, muted}
use Rattle.conn_graph.proofs.EndLaws.{has_writer, writer_arrow}
use Rattle.meaning.specs.declared.world.World.{World}
use Rattle.meaning.specs.Lists.{since}
use Rattle.meaning.specs.World.{node_at, kind_of}
use Rattle.meaning.specs.Validity.{IsJoined}
use Rattle.meaning.specs.Counts.{world_in, Counts, seen_counts, reader_channels, output_channels, count_by_kind, count_rule, count_scheme, count_at, count, counts_before}
use Rattle.meaning.proofs.Seeing.{AgreeFor, plain_end, writer_end, reader_end, same_channels, same_since}

-- the writers of the delays had as many channels in the quanta from their births on up to quantum j
abbrev pub SameBefore : ℕ → World → ℕ → (ℕ → Counts) → (ℕ → Counts) → Type 0
SameBefore q w j past past' = (n k : ℕ) → is_delay_kind (kind_of w n) ≡ true → (node_at w n).attrs.birth / q ≤ k → k < j → past k (writer_of n) ≡ past' k (writer_of n)

-- then its reader has as many, where its writer has now too, or the delay is in a cycle
reader_like : (q : ℕ) (w : World) (j : ℕ) (past past' : ℕ → Counts) (s t : Counts) (n : ℕ) → is_delay_kind (kind_of w n) ≡ true → SameBefore q w j past past'
    → (in_cycle w.graph.value n ≡ false → s (writer_of n) ≡ t (writer_of n)) → reader_channels q w j past s n ≡ reader_channels q w j past' t n
reader_like q w j past past' s t n is before now = by_cycle (in_cycle w.graph.value n) refl
  where
    birth : ℕ
    birth = (node_at w n).attrs.birth / q

    at : (ℕ → Counts) → Counts → ℕ → ℕ
    at earlier here k = seen_counts j earlier here k (writer_of n)

    at_quantum : (k : ℕ) → birth ≤ k → (k < j) ⊎ ((k ≡ j) × (in_cycle w.graph.value n ≡ false)) → at past s k ≡ at past' t k
    at_quantum k low (inl l) =
        let other : (k == j) ≡ false = grind (arith, nat_tests) in
        ap (λ b. (if b then s else past k) (writer_of n)) other ∙ before n k is low l ∙ sym (ap (λ b. (if b then t else past' k) (writer_of n)) other)
    at_quantum k low (inr (here, none)) =
        let same : (k == j) ≡ true = grind (arith, nat_tests) in
        ap (λ b. (if b then s else past k) (writer_of n)) same ∙ now none ∙ sym (ap (λ b. (if b then t else past' k) (writer_of n)) same)

    before_or_now : (k : ℕ) → k < j + 1 → (k < j) ⊎ (k ≡ j)
    before_or_now k l = grind arith

    by_cycle : (b : Bool) → in_cycle w.graph.value n ≡ b
        → greatest (since (at past s) birth ((if b then j else j + 1) - birth)) ≡ greatest (since (at past' t) birth ((if b then j else j + 1) - birth))
    by_cycle true cycle = ap greatest (same_since (at past s) (at past' t) birth (j - birth) (λ k low high. at_quantum k low (inl (omega arith))))
    by_cycle false none = ap greatest (same_since (at past s) (at past' t) birth (j + 1 - birth) (λ k low high. elim (before_or_now k (omega arith)) [
      | inl l ↦ at_quantum k low (inl l)
      | inr here ↦ at_quantum k low (inr (here, none))
    ]))

module _ (q : ℕ) (w : World) (joined : IsJoined w) (j : ℕ) (past past' : ℕ → Counts) (before : SameBefore q w j past past') where
  channels_like : (e : End) (s t : Counts) → e ≡ input_end w.graph.value e.node.0 → AgreeFor w e s t → (c : Channels) → output_channels q w j s c e.node.0 ≡ output_channels q w j t c e.node.0
  channels_like e s t own agree (Always n) = refl
  channels_like e s t own agree OfInput = same_channels w joined s t e own agree 0
  channels_like e s t own agree OfBuffer = refl

  by_kind : (e : End) (s t : Counts) → IsIn e (ends w.graph.value) → AgreeFor w e s t → (k : Kind) → kind_of w e.node.0 ≡ k
      → count_by_kind q w j past s k e ≡ count_by_kind q w j past' t k e
  by_kind e s t h agree k is = by_end (is_delay_kind k) e.writer (ap is_delay_kind is) refl
    where
      by_end : (d b : Bool) → is_delay_kind (kind_of w e.node.0) ≡ d → e.writer ≡ b
          → (if d && not b then reader_channels q w j past s e.node.0 else output_channels q w j s (row k).channels e.node.0)
          ≡ (if d && not b then reader_channels q w j past' t e.node.0 else output_channels q w j t (row k).channels e.node.0)
      by_end false b plain at = channels_like e s t (plain_end w joined e h plain) agree (row k).channels
      by_end true true delay writer = channels_like e s t (writer_end w joined e delay writer) agree (row k).channels
      by_end true false delay reader =
          reader_like q w j past past' s t e.node.0 delay before (λ none.
          agree (writer_of e.node.0) (has_writer w.graph.value e.node.0 (joined.delays e.node.0 ∙ delay))
          (subst (λ x. arrow w.graph.value (writer_of e.node.0) x ≡ true) (sym (reader_end e reader)) (writer_arrow w.graph.value e.node.0 (joined.delays e.node.0 ∙ delay) none)))

  pub count_sees : (e : End) (s t : Counts) → IsIn e (ends w.graph.value) → AgreeFor w e s t → count_rule q w j past s e ≡ count_rule q w j past' t e
  unfolding count_rule
  count_sees e s t h agree = ap (λ n. if muted w.graph.value e then 1 else n) (by_kind e s t h agree _ refl)

module _ (q : ℕ) (w : World) (joined : IsJoined w) (j : ℕ) (past : ℕ → Counts) where
  pub count_local : (e : End) (s t : Counts) → IsIn e (ends w.graph.value) → AgreeFor w e s t → count_rule q w j past s e ≡ count_rule q w j past t e
  count_local e s t h agree = count_sees q w joined j past past (λ n k is low high. refl) e s t h agree

  pub count_quiet : (e : End) (n : ℕ) → n ≤ length (ends w.graph.value) → reaches (arrow w.graph.value) (ends w.graph.value) n e e ≡ true → (s : Counts) → count_rule q w j past s e ≡ 1
  unfolding count_rule muted height
  count_quiet e n l r s = rw (up_to (arrow w.graph.value) (ends w.graph.value) n _ e e l r) refl

-- from the number of ends on, every height gives the count
pub count_settled : (q : ℕ) (tape : List World) (j : ℕ) → IsJoined (world_in tape j) → (h : ℕ) → height (world_in tape j).graph.value ≤ h
    → (e : End) → IsIn e (ends (world_in tape j).graph.value) → count_at q tape j h e ≡ count q tape j e
unfolding count height count_at at_moment
count_settled q tape j joined h low e is =
    let w : World = world_in tape j in
    let earlier = before (count_scheme q) (world_in tape) j in
    settled (ends w.graph.value) (λ a b. arrow w.graph.value a b ≡ true) (λ n a b. reaches (arrow w.graph.value) (ends w.graph.value) n a b ≡ true)
    (direct _ _) (further _ _) (λ _. 1) (count_rule q w j earlier) (count_local q w joined j earlier) (count_quiet q w joined j earlier) h low e is

-- one height up
pub count_suc : (q : ℕ) (tape : List World) (j h : ℕ) → count_at q tape j (suc h) ≡ count_rule q (world_in tape j) j (before (count_scheme q) (world_in tape) j) (count_at q tape j h)
unfolding count_at
count_suc q tape j h = moment-suc (count_scheme q) (world_in tape) j h

-- the rule reads what the writers of the delays had in the quanta before
pub count_rule_alike : (q : ℕ) (w : World) (j : ℕ) (past past' : ℕ → Counts) → SameBefore q w j past past' → count_rule q w j past ≡ count_rule q w j past'
unfolding count_rule
count_rule_alike q w j past past' before = fun_ext (λ now. fun_ext (λ e. ap (λ n. if muted w.graph.value e then 1 else n) (by_kind now e (kind_of w e.node.0) refl)))
  where
    by_kind : (now : Counts) (e : End) (k : Kind) → kind_of w e.node.0 ≡ k → count_by_kind q w j past now k e ≡ count_by_kind q w j past' now k e
    by_kind now e k is = by_end (is_delay_kind k) e.writer (ap is_delay_kind is)
      where
        by_end : (d b : Bool) → is_delay_kind (kind_of w e.node.0) ≡ d
            → (if d && not b then reader_channels q w j past now e.node.0 else output_channels q w j now (row k).channels e.node.0)
            ≡ (if d && not b then reader_channels q w j past' now e.node.0 else output_channels q w j now (row k).channels e.node.0)
        by_end false b plain = refl
        by_end true true delay = refl
        by_end true false delay = reader_like q w j past past' now now e.node.0 delay before (λ none. refl)

-- the counts' own past is the counts before
pub counts_before_are : (q : ℕ) (tape : List World) (j : ℕ) → before (count_scheme q) (world_in tape) j ≡ counts_before q tape j
unfolding count count_at state
counts_before_are q tape j = fun_ext (λ k. by_test k (nat_lt k j) refl)
  where
    by_test : (k : ℕ) (b : Bool) → nat_lt k j ≡ b → before (count_scheme q) (world_in tape) j k ≡ (if b then count q tape k else λ e. 1)
    by_test k true l = before_is (count_scheme q) (world_in tape) j k (grind (arith, nat_tests))
    by_test k false l = before_none (count_scheme q) (world_in tape) j k (grind (arith, nat_tests))

pub count_recursion : (q : ℕ) (tape : List World) (j h : ℕ) → count_at q tape j (suc h) ≡ count_rule q (world_in tape j) j (counts_before q tape j) (count_at q tape j h)
count_recursion q tape j h = count_suc q tape j h ∙ ap (λ past. count_rule q (world_in tape j) j past (count_at q tape j h)) (counts_before_are q tape j)

-- The rule gives an end's count, wherever the ends that it sees have theirs, and the quanta before too.
pub count_gives : (q : ℕ) (tape : List World) (j : ℕ) → IsJoined (world_in tape j) → (past : ℕ → Counts) → SameBefore q (world_in tape j) j past (counts_before q tape j)
    → (counts : Counts) (e : End) → IsIn e (ends (world_in tape j).graph.value)
    → AgreeFor (world_in tape j) e counts (count q tape j) → count_rule q (world_in tape j) j past counts e ≡ count q tape j e
unfolding count
count_gives q tape j joined past before counts e is agree =
    let w : World = world_in tape j in
    let full = height w.graph.value in
    count_sees q w joined j past (counts_before q tape j) before e counts (count q tape j) is agree
    ∙ ap (λ (c : Counts). c e) (sym (count_recursion q tape j full))
    ∙ count_settled q tape j joined (suc full) (omega arith) e is

-- a muted end has one channel
pub muted_count : (q : ℕ) (tape : List World) (j : ℕ) → IsJoined (world_in tape j) → (e : End) → IsIn e (ends (world_in tape j).graph.value)
    → muted (world_in tape j).graph.value e ≡ true → count q tape j e ≡ 1
unfolding muted height
muted_count q tape j joined e is m =
    let w : World = world_in tape j in
    let past = counts_before q tape j in
    sym (count_gives q tape j joined past (λ n k delay low high. refl) (count q tape j) e is (λ d in_d a. refl))
    ∙ count_quiet q w joined j past e (length (ends w.graph.value)) (omega arith) m (count q tape j)

pub count_silence : (q : ℕ) (tape : List World) (j : ℕ) → count_at q tape j 0 ≡ (λ e. 1)
unfolding count_at
count_silence q tape j = moment-zero (count_scheme q) (world_in tape) j
