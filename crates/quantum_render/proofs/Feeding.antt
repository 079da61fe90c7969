-- What the reader of a delay gives in a quantum.
use Rattle.std.proofs.Common.{ℕ, ℤ, pos, ◌≡◌, ◌+◌, ◌-◌, ◌/◌, ◌<◌, ◌≤◌, List, Bool, true, false, inl, inr, refl, sym, ◌∙◌, ap, arith, subst}
use Rattle.std.specs.Prelude.{if◌then◌else◌, nat_lt, ◌==◌}
use Rattle.std.proofs.lemmas.Bool.Decides.{nat_tests}
use Rattle.wa_base.specs.Contexts.{quantum_of}
use Rattle.wa_base.specs.declared.graph_names.End.{End}
use Rattle.mix_rules.specs.Mixing.{mix}
use Rattle.delay_line.specs.Spans.{delay_at as frames_back}
use Rattle.node_table.specs.declared.kinds.Kind.TheVariants.{Delay}
use Rattle.conn_graph.specs.Ends.{writer_of, reader_of, in_cycle}
use Rattle.meaning.specs.World.{node_at, kind_of}
use Rattle.meaning.specs.Values.{Frame, seen, input_value, delay_frames, delayed, value_by_kind}
use Rattle.meaning.proofs.Asking.{delay_within, delay_long}
use Rattle.delay_bank.specs.Kept.{IsAsked, AreFew, read_back}
use Rattle.delay_bank.specs.Banks.{BankView as DelayBank}
use Rattle.quantum_blocks.specs.Blocks.{BlockView, counts_in}
use Rattle.quantum_render.specs.Sites.{SiteView}
use Rattle.quantum_render.specs.Listening.{writer_in}
use Rattle.quantum_render.specs.Renders.{IsFed, past_of, here_of}

module _ (s : SiteView) (bank : DelayBank) (old : List BlockView) (before : ℕ → Frame) (longest time : ℤ) (capacity : ℕ) (kind : kind_of s.world s.end.node.0 ≡ Delay longest time capacity) (reader : s.end.writer ≡ false)
    (fed : IsFed s bank old before longest capacity) where
  abbrev q : ℕ
  q = quantum_of s.world.spec

  abbrev n : ℕ
  n = s.end.node.0

  abbrev birth : ℕ
  birth = (node_at s.world n).attrs.birth

  -- how many frames the delay lasts at frame k of the quantum
  abbrev pub lasts : ℕ → ℕ
  lasts k = delay_frames q (s.first + k) (past_of s old before) (here_of s old k) n

  here : s.end ≡ reader_of n
  here = ap (λ b. let e : End = record { node = s.end.node; writer = b } in e) reader

  most : (k : ℕ) → lasts k ≤ capacity
  most k = delay_within q (s.first + k) (past_of s old before) (here_of s old k) n longest time capacity kind fed.whole

  long : (k : ℕ) → in_cycle s.world.graph.value n ≡ true → q ≤ lasts k
  long k cycle = delay_long q (s.first + k) (past_of s old before) (here_of s old k) n cycle

  -- what was not written yet is asked for in a cycle alone
  early : fed.now ≡ s.first → (k : ℕ) → q ≤ lasts k
  early first k = by_cycle (in_cycle s.world.graph.value n) refl
    where
      by_cycle : (b : Bool) → in_cycle s.world.graph.value n ≡ b → q ≤ lasts k
      by_cycle true cycle = long k cycle
      by_cycle false none = let now = fed.in_time reader none in omega (arith, first, now)

  module _ (delays : List ℕ) (are : (k : ℕ) → k < q → frames_back delays k ≡ lasts k) where
    pub is_asked : IsAsked q s.first fed.now capacity delays
    is_asked = record {
      written = fed.written;
      kept = λ k l. subst (λ d. d ≤ capacity) (sym (are k l)) (most k);
      earlier = λ first k l. subst (λ d. q ≤ d) (sym (are k l)) (early first k);
    }

    pub are_few : (channels : ℕ) → channels ≡ counts_in s.counts s.end → AreFew q birth (writer_in q before n) channels s.first delays
    are_few channels count k l born =
        subst (λ m. (writer_in q before n).counts ((s.first + k - frames_back delays k) / q) ≤ m) (ap (counts_in s.counts) (sym here) ∙ sym count)
        (fed.few reader (frames_back delays k) k l (λ cycle. subst (λ d. q ≤ d) (sym (are k l)) (long k cycle)) born)

    -- what an equation sees of a frame is what the frame has
    saw : (k g : ℕ) → seen (s.first + k) (past_of s old before) (here_of s old k) g ≡ past_of s old before g
    saw k g = by_test (g == s.first + k) refl
      where
        past_now : past_of s old before (s.first + k) ≡ here_of s old k
        past_now =
            ap (λ b. if b then before (s.first + k) else here_of s old (s.first + k - s.first)) (let no : nat_lt (s.first + k) s.first ≡ false = grind (arith, nat_tests) in no)
            ∙ ap (here_of s old) (let e : s.first + k - s.first ≡ k = omega arith in e)

        by_test : (b : Bool) → (g == s.first + k) ≡ b → (if b then here_of s old k else past_of s old before g) ≡ past_of s old before g
        by_test true t = let same : g ≡ s.first + k = grind (arith, nat_tests) in sym (ap (past_of s old before) same ∙ past_now)
        by_test false t = refl

    -- the frame that is read at frame k of the quantum
    abbrev read_at : ℕ → ℕ
    read_at k = s.first + k - lasts k

    inside : (k : ℕ) → k < q → lasts k ≤ s.first + k → read_at k < fed.now
    inside k l born = elim fed.written [ inl first ↦ let d = early first k in omega (arith, first, d, l, born) | inr next ↦ omega (arith, next, l) ]

    counts_are : (k : ℕ) → k < q → (writer_in q before n).counts (read_at k / q) ≡ (seen (s.first + k) (past_of s old before) (here_of s old k) (read_at k)).counts (writer_of n)
    counts_are k l = sym (ap (λ (y : Frame). y.counts (writer_of n)) (saw k (read_at k)) ∙ fed.counts (read_at k) (omega (arith, l)))

    values_are : (k : ℕ) → k < q → lasts k ≤ s.first + k → (writer_in q before n).frames (read_at k) ≡ (seen (s.first + k) (past_of s old before) (here_of s old k) (read_at k)).values (writer_of n) 0
    values_are k l born = sym (ap (λ (y : Frame). y.values (writer_of n) 0) (saw k (read_at k)) ∙ fed.values (read_at k) (inside k l born))

    pub gives : (channels : ℕ) → channels ≡ counts_in s.counts s.end → (k o c : ℕ) → k < q
        → read_back q birth (writer_in q before n) (node_at s.world n).attrs.interp channels (s.first + k) (frames_back delays k) c
        ≡ value_by_kind q (s.first + k) (past_of s old before) (here_of s old k) (Delay longest time capacity) s.end o c
    gives channels count k o c l =
        ap (λ d. read_back q birth (writer_in q before n) (node_at s.world n).attrs.interp channels (s.first + k) d c) (are k l)
        ∙ by_birth (nat_lt (s.first + k) (birth + lasts k)) refl
        ∙ ap (λ b. if b then input_value (here_of s old k) n 0 c else delayed q (s.first + k) (past_of s old before) (here_of s old k) n c) (sym reader)
      where
        by_birth : (b : Bool) → nat_lt (s.first + k) (birth + lasts k) ≡ b
            → (if b then pos 0 else mix (node_at s.world n).attrs.interp ((writer_in q before n).counts (read_at k / q)) channels ((writer_in q before n).frames (read_at k)) c)
            ≡ (if b then pos 0 else mix (node_at s.world n).attrs.interp ((seen (s.first + k) (past_of s old before) (here_of s old k) (read_at k)).counts (writer_of n)) (counts_in s.counts (reader_of n))
            ((seen (s.first + k) (past_of s old before) (here_of s old k) (read_at k)).values (writer_of n) 0) c)
        by_birth true t = refl
        by_birth false t =
            ap (λ m. mix (node_at s.world n).attrs.interp m channels ((writer_in q before n).frames (read_at k)) c) (counts_are k l)
            ∙ ap (λ m. mix (node_at s.world n).attrs.interp ((seen (s.first + k) (past_of s old before) (here_of s old k) (read_at k)).counts (writer_of n)) m ((writer_in q before n).frames (read_at k)) c) (count ∙ ap (counts_in s.counts) here)
            ∙ ap (λ v. mix (node_at s.world n).attrs.interp ((seen (s.first + k) (past_of s old before) (here_of s old k) (read_at k)).counts (writer_of n)) (counts_in s.counts (reader_of n)) v c) (values_are k l (let late : birth + lasts k ≤ s.first + k = grind (arith, nat_tests) in omega (arith, late)))
