use Rattle.std.proofs.Common.{◌≡◌, ◌+◌, ◌∷◌, ◌<◌, suc, length, drop, replicate, slice_index_or, sym, ◌∙◌, ap, subst, arith, rules}
use Rattle.std.proofs.Math.Seq.{drop-cons}
use Rattle.std.proofs.lemmas.Grind.{get_or_default_zero}
use Rattle.std.specs.Prelude.{vec_len}
use Rattle.script_ast.specs.WellFormed.{AreCallsAfter}
use Rattle.session.specs.Session.{held_by}
use Rattle.session.proofs.Lists.{zero_at, counted_more, few_held, past_all}
use Rattle.session.proofs.replay.list_lengths.Goals as goal

pub loop-call-init : goal.loop-call-init
loop-call-init c =
    let zeros : c.in_ok-lengths.lengths.items ≡ replicate (length c.args.calls.now) 0 = search rules in
    record {
      calls = c.requires;
      long = c.in_ok-lengths.ensures.len;
      counted = λ holder. let none = zero_at c.in_ok-lengths.lengths.items (length c.args.calls.now) holder zeros in omega (arith, none);
    }

below : (c : goal.After-lengths-in-loop-call-2-1) → c.call-item.result.holder < vec_len c.loop-call.lengths
below c =
    let inv = c.loop-call.invariant in
    let left = drop-cons c.args.calls.now c.loop-call.call-index c.call-item.result c.loop-call-test.true ∙ ap (λ x. x ∷ drop (suc c.loop-call.call-index) c.args.calls.now) (sym c.call-item.is) in
    let calls = subst (AreCallsAfter c.loop-call.call-index) left inv.calls in
    let low = calls.0.1 in
    let here = c.loop-call-test.true in
    omega (arith, low, here, inv.long)

pub index_mut-requires : goal.index_mut-requires
index_mut-requires c =
    let inv = c.loop-call.invariant in
    let left = drop-cons c.args.calls.now c.loop-call.call-index c.call-item.result c.loop-call-test.true ∙ ap (λ x. x ∷ drop (suc c.loop-call.call-index) c.args.calls.now) (sym c.call-item.is) in
    let calls = subst (AreCallsAfter c.loop-call.call-index) left inv.calls in
    let low = calls.0.1 in
    let here = c.loop-call-test.true in
    omega (arith, low, here, inv.long)

pub overflow_add-index_mut : goal.overflow_add-index_mut
overflow_add-index_mut c =
    let inv = c.loop-call.invariant in
    let left = drop-cons c.args.calls.now c.loop-call.call-index c.call-item.result c.loop-call-test.true ∙ ap (λ x. x ∷ drop (suc c.loop-call.call-index) c.args.calls.now) (sym c.call-item.is) in
    let calls = subst (AreCallsAfter c.loop-call.call-index) left inv.calls in
    let low = calls.0.1 in
    let more = c.loop-call-test.true in
    let here : c.call-item.result.holder < length c.loop-call.lengths.items = omega (arith, low, more, inv.long) in
    let counted = inv.counted c.call-item.result.holder in
    let few = few_held c.call-item.result.holder c.args.calls.now in
    let value = c.index_mut.ensures.value ∙ get_or_default_zero c.loop-call.lengths.items c.call-item.result.holder c.index_mut.result.now (here) in
    let small = c.loop-call.lengths.small in
    let fits = c.loop-call.lengths.ok in
    omega (arith, counted, few, value, small, fits, inv.long)

pub loop-call-preserved : goal.loop-call-preserved
loop-call-preserved c =
    let inv = c.loop-call.invariant in
    let next : suc c.loop-call.call-index ≡ c.loop-call.call-index + 1 = omega arith in
    let left = drop-cons c.args.calls.now c.loop-call.call-index c.call-item.result c.loop-call-test.true ∙ ap (λ x. x ∷ drop (suc c.loop-call.call-index) c.args.calls.now) (sym c.call-item.is)
    ∙ ap (λ n. c.call-item.result ∷ drop n c.args.calls.now) next in
    let calls = subst (AreCallsAfter c.loop-call.call-index) left inv.calls in
    record {
      calls = calls.1;
      long = inv.long;
      counted = λ holder.
          counted_more c.loop-call.lengths.items c.call-item.result (drop (c.loop-call.call-index + 1) c.args.calls.now) c.index_mut.result.now (omega (arith, below c)) c.index_mut.ensures.value holder (length (held_by holder c.args.calls.now))
          (subst (λ xs. slice_index_or c.loop-call.lengths.items holder 0 + length (held_by holder xs) ≡ length (held_by holder c.args.calls.now)) left (inv.counted holder));
    }

pub returns : goal.returns
returns c = λ holder.
    let none = ap (λ xs. length (held_by holder xs)) (past_all c.loop-call.call-index c.args.calls.now (omega (arith, c.loop-call-test.false))) in
    let so_far = c.loop-call.invariant.counted holder in
    omega (arith, none, so_far)
