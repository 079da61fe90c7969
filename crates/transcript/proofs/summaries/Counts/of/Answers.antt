use Rattle.std.proofs.Common.{◌≡◌, ◌∷◌, ◌+◌, suc, drop, sym, ◌∙◌, ap, arith}
use Rattle.std.proofs.Math.Seq.{drop-cons}
use Rattle.std.specs.Int.{from_bool}
use Rattle.transcript.specs.Summary.{count, is_call, is_end, is_refusal}
use Rattle.transcript.proofs.Counting.{count_more, at_most_one}
use Rattle.transcript.proofs.summaries.Counts.of.Goals as goal

pub loop-line-preserved : goal.loop-line-preserved
loop-line-preserved c =
    let inv = c.loop-line.invariant in
    let lines = c.args.lines.now in
    let i = c.loop-line.line-index in
    let x = c.line-item.result in
    let next : suc i ≡ i + 1 = omega arith in
    let left : drop i lines ≡ x ∷ drop (i + 1) lines =
    drop-cons lines i x c.loop-line-test.true ∙ ap (λ y. y ∷ drop (suc i) lines) (sym c.line-item.is) ∙ ap (λ n. x ∷ drop n lines) next in
    let calls = c.from-calls.ensures ∙ ap from_bool c.is_call.ensures in
    let ended = c.from-ended.ensures ∙ ap from_bool c.is_end.ensures in
    let refused = c.from-refused.ensures ∙ ap from_bool c.is_refusal.ensures in
    record {
      calls = ap (λ n. c.loop-line.calls + n + count is_call (drop (i + 1) lines)) calls ∙ count_more is_call c.loop-line.calls i _ lines x left inv.calls;
      ended = ap (λ n. c.loop-line.ended + n + count is_end (drop (i + 1) lines)) ended ∙ count_more is_end c.loop-line.ended i _ lines x left inv.ended;
      refused = ap (λ n. c.loop-line.refused + n + count is_refusal (drop (i + 1) lines)) refused ∙ count_more is_refusal c.loop-line.refused i _ lines x left inv.refused;
      few_calls = omega (arith, calls, at_most_one (is_call x), inv.few_calls);
      few_ended = omega (arith, ended, at_most_one (is_end x), inv.few_ended);
      few_refused = omega (arith, refused, at_most_one (is_refusal x), inv.few_refused);
    }
