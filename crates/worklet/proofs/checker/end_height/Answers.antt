use Rattle.std.proofs.Common.{ℕ, ◌≡◌, ◌+◌, List, length, subst, sym, arith}
use Rattle.std.proofs.lemmas.Result.{IfOk-weaker}
use Rattle.worklet.specs.Errors.{AreFine, HasHeight}
use Rattle.worklet.proofs.Judging.{fine_more}
use Rattle.worklet.proofs.checker.end_height.Goals as goal

pub loop-place-preserved : goal.loop-place-preserved
loop-place-preserved c =
    let code = c.args.code.now in
    let place = c.loop-place.place in
    let height = c.in_ok-height.height in
    let has : HasHeight code c.loop-place.heights.items place height =
    subst (λ (v : List ℕ). HasHeight code v place height) c.deref.ensures.value c.in_ok-height.ensures.height in
    subst (λ (v : List ℕ). AreFine code v (place + 1)) (sym c.in_ok-push.ensures.items)
    (fine_more code c.loop-place.heights.items place height c.loop-place.invariant has c.in_ok-judge.ensures.fine)

pub returns-clause-height : goal.returns-clause-height
returns-clause-height c =
    let code = c.args.code.now in
    let items = c.loop-place.heights.items in
    let at : c.loop-place.place ≡ length code = omega arith in
    IfOk-weaker c.arrival-2.result _ _
    (λ height has. record {
      long = c.requires;
      there = omega arith;
      heights = items;
      before = subst (λ (n : ℕ). AreFine code items n) at c.loop-place.invariant;
      fault = subst (λ (v : List ℕ). HasHeight code v (length code) height) c.deref-2.ensures.value has;
    })
    c.arrival-2.ensures.height
