use Rattle.std.proofs.Common.{ℕ, zero, suc, ◌≡◌, ◌≤◌, ◌<◌, ◌+◌, ◌-◌, ◌/◌, ◌^◌, ap, sym, subst, ◌∙◌, arith, get_or}
use Rattle.std.proofs.Math.Nat.{pow-suc}
use Rattle.std.proofs.lemmas.Option.{get_or_from_slice_get}
use Rattle.param_events.specs.Events.{time_of}
use Rattle.param_cursor.proofs.Counting.{place_is}
use Rattle.param_cursor.proofs.cursor.Cursor.reseek.Goals as goal

halve : (size half steps began d j : ℕ) → 0 < size → half ≤ size / 2 → size < 2 ^ j → steps + j ≤ began + d → (i : ℕ) × (half < 2 ^ i) × (steps + 1 + i ≤ began + d)
halve size half steps began d zero some l small cost = absurd (omega arith)
halve size half steps began d (suc i) some l small cost = let e = pow-suc 2 i in (i, omega (arith, e), omega arith)

pub loop-low-preserved-then-time-first : goal.loop-low-preserved-then-time-first
loop-low-preserved-then-time-first g c =
    let steps = c.look.ensures.cost in
    record {
      order = omega arith;
      within = c.loop-low.invariant.within;
      before = λ d some.
          let back : c.loop-low.low + (c.loop-low.high - c.loop-low.low) / 2 + 1 - 1 ≡ c.loop-low.low + (c.loop-low.high - c.loop-low.low) / 2 = omega arith in
          let here = get_or_from_slice_get c.args.line.now.events _ c.look.result.now d c.look.ensures.event in
          let time : time_of (get_or c.args.line.now.events (c.loop-low.low + (c.loop-low.high - c.loop-low.low) / 2 + 1 - 1) d) ≡ c.time.result = ap (λ k. time_of (get_or c.args.line.now.events k d)) back ∙ ap time_of here ∙ sym c.time.ensures in
          omega (arith, time, c.if-time-first.true);
      behind = c.loop-low.invariant.behind;
      cost = λ d h. let old = c.loop-low.invariant.cost d h in
          let new = halve (c.loop-low.high - c.loop-low.low) (c.loop-low.high - (c.loop-low.low + (c.loop-low.high - c.loop-low.low) / 2 + 1)) c.loop-low.steps c.args.steps.now d old.0 (omega arith) (omega arith) old.1 old.2 in
          (new.0, new.1, omega (arith, steps, new.2));
    }

pub loop-low-preserved : goal.loop-low-preserved
loop-low-preserved g c =
    let steps = c.look.ensures.cost in
    record {
      order = omega arith;
      within = omega (arith, c.loop-low.invariant.within);
      before = c.loop-low.invariant.before;
      behind = λ d some.
          let here = get_or_from_slice_get c.args.line.now.events _ c.look.result.now d c.look.ensures.event in
          let time : time_of (get_or c.args.line.now.events (c.loop-low.low + (c.loop-low.high - c.loop-low.low) / 2) d) ≡ c.time.result = ap time_of here ∙ sym c.time.ensures in
          omega (arith, time, c.if-time-first.false);
      cost = λ d h. let old = c.loop-low.invariant.cost d h in
          let new = halve (c.loop-low.high - c.loop-low.low) (c.loop-low.low + (c.loop-low.high - c.loop-low.low) / 2 - c.loop-low.low) c.loop-low.steps c.args.steps.now d old.0 (omega arith) (omega arith) old.1 old.2 in
          (new.0, new.1, omega (arith, steps, new.2));
    }

pub returns-clause-stands : goal.returns-clause-stands
returns-clause-stands g c =
    let same : c.loop-low.low ≡ c.loop-low.high = omega (arith, c.loop-low.invariant.order, c.loop-low-test.false) in
    place_is c.args.first c.loop-low.low c.args.line.now.events c.len-high.ensures.timeline.ordered
    (record {
      within = omega (arith, c.loop-low.invariant.within, same);
      before = c.loop-low.invariant.before;
      behind = λ d l. let behind = c.loop-low.invariant.behind d (omega (arith, same, l)) in subst (λ k. c.args.first ≤ time_of (get_or c.args.line.now.events k d)) (sym same) behind;
    })
