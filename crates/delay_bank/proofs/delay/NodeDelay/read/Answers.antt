use Rattle.std.proofs.Common.{ℕ, pos, ◌≡◌, ◌+◌, ◌-◌, ◌*◌, ◌/◌, ◌<◌, ◌≤◌, ◌⊎◌, List, length, true, inl, inr, sym, ◌∙◌, ap, arith, subst}
use Rattle.std.specs.Prelude.{nat_lt, if◌then◌else◌}
use Rattle.law_base.proofs.Rows.{rows_up, place_in}
use Rattle.wa_base.specs.declared.graph_names.Interp.{Interp}
use Rattle.mix_rules.specs.Mixing.{mix}
use Rattle.std.proofs.lemmas.Bool.{cases_lt}
use Rattle.std.proofs.lemmas.Bool.Decides.{nat_tests}
use Rattle.mix_rules.specs.Blocks.{sample}
use Rattle.delay_line.specs.Delays.{Writer, delayed}
use Rattle.delay_line.specs.Spans.{IsReached, heard_count, delay_at}
use Rattle.delay_bank.specs.Kept.{DelayView, HasKept, IsAsked, since_birth, read_back}
use Rattle.delay_bank.proofs.Keeping.{heard_few, by_context}
use Rattle.delay_bank.proofs.delay.NodeDelay.read.Goals as goal

-- what the delay is asked for, by its own time, capacity and quantum
by_delay : (q : ℕ) (d : DelayView) (longest born now : ℕ) (writer : Writer) → HasKept q d longest born now writer → (first : ℕ) (delays : List ℕ) → IsAsked q first now longest delays → IsAsked d.line.block first d.time d.line.capacity delays
by_delay q d longest born now writer kept first delays asked = subst (λ b. IsAsked b first d.time d.line.capacity delays) (sym kept.block) (record {
  written = subst (λ t. (t ≡ first) ⊎ (t ≡ first + q)) (sym kept.time) asked.written;
  kept = λ k l. subst (λ n. delay_at delays k ≤ n) (sym kept.capacity) (asked.kept k l);
  earlier = λ here. asked.earlier (sym kept.time ∙ here);
})

-- where the writer has written no more than a quantum, and the delay is born after that began, the writer has written nothing
none_written : (q first born blocks : ℕ) → first < born → first + q ≡ born + blocks * q → first + q ≤ born
none_written q first born blocks early long = elim (cases_lt 0 blocks) [
  | inl some ↦ absurd (let more = rows_up q 1 blocks some in omega (arith, more, early, long))
  | inr none ↦ let zero : blocks ≡ 0 = omega (arith, none) in let nothing = ap (λ n. n * q) zero in omega (arith, nothing, long)
]

-- a delay that is born after the quantum begins has written nothing
unborn : (q : ℕ) (d : DelayView) (longest born now : ℕ) (writer : Writer) → HasKept q d longest born now writer → (first : ℕ) (delays : List ℕ) → IsAsked q first now longest delays → first < d.birth
    → (interp : Interp) (channels k c : ℕ) → k < q → pos 0 ≡ read_back q born writer interp channels (first + k) (delay_at delays k) c
unborn q d longest born now writer kept first delays asked early interp channels k c low =
    let birth = kept.birth in
    let long = kept.long in
    let late : first + q ≤ born = elim asked.written [ inl here ↦ absurd (omega arith) | inr here ↦ none_written q first born _ (omega (arith, early, birth)) (sym here ∙ long) ] in
    let e : nat_lt (first + k) (born + delay_at delays k) ≡ true = let l : first + k < born + delay_at delays k = omega arith in grind (arith, nat_tests) in
    ap (λ b. if b then pos 0 else mix interp (writer.counts ((first + k - delay_at delays k) / q)) channels (writer.frames (first + k - delay_at delays k)) c) (sym e)

pub returns-then-not-has : goal.returns-then-not-has
returns-then-not-has c = record {
  values = λ q longest born now writer kept asked few whole channel k low here.
      let there : channel * q + k < length c.args.out.now = subst (λ n. channel * q + k < n) (sym (c.requires.out ∙ ap (λ b. c.args.asked.channels * b) kept.block)) (place_in q channel c.args.asked.channels k low here) in
      let silent : sample q c.silence.new.out channel k ≡ pos 0 = c.silence.ensures (channel * q + k) there in
      elim (cases_lt c.args.asked.first c.args.self.now.birth) [
        | inl early ↦ silent ∙ unborn q c.args.self.now longest born now writer kept c.args.asked.first c.args.asked.delays.now asked early c.args.asked.interp c.args.asked.channels k channel here
        | inr lived ↦ absurd (let yes = c.has.ensures.asked (by_delay q c.args.self.now longest born now writer kept c.args.asked.first c.args.asked.delays.now asked) lived in let no = c.if-not-has.true in cc)
      ];
}

pub returns : goal.returns
returns c = record {
  values = λ q longest born now writer kept asked few whole channel k low here.
      let has = subst (λ (d : DelayView). HasKept q d longest born now writer) (sym c.self.view_is) kept in
      let line = c.self.inside.line in
      let frames = has.block in
      let some : 0 < q = let size = c.self.invariant.size.low in let own = c.self.invariant.block in omega (arith, frames, own, size) in
      let d = delay_at c.args.asked.delays.now k in
      let lived : born ≤ c.args.asked.first = subst (λ b. b ≤ c.args.asked.first) kept.birth (c.has.ensures.born c.if-not-has.false) in
      let since : c.args.asked.first - c.self.inside.birth ≡ c.args.asked.first - born = ap (λ b. c.args.asked.first - b) has.birth in
      let reached : IsReached line (c.args.asked.first - born + k) d = subst (λ b. IsReached line (c.args.asked.first - b + k) d) has.birth (subst (λ (v : DelayView). IsReached v.line (c.args.asked.first - v.birth + k) d) (sym c.self.view_is) (c.has.ensures.reached c.if-not-has.false k (subst (λ b. k < b) (sym kept.block) here))) in
      let heard = heard_few q some line frames born c.args.asked.first lived whole writer has.keeps k d c.args.asked.channels reached (few k here) in
      subst (λ b. sample b c.read_line.new.out channel k ≡ delayed b (since_birth q born writer) c.args.asked.interp c.args.asked.channels (c.args.asked.first - c.self.inside.birth + k) d channel) frames
      (c.read_line.ensures (since_birth q born writer) channel k has.keeps low (subst (λ b. k < b) (sym frames) here) (subst (λ n. heard_count line (n + k) d ≤ c.args.asked.channels) (sym since) heard))
      ∙ ap (λ n. delayed q (since_birth q born writer) c.args.asked.interp c.args.asked.channels (n + k) d channel) since
      ∙ by_context q some born c.args.asked.first lived whole writer c.args.asked.interp c.args.asked.channels k d channel;
}
