use Rattle.std.proofs.Common.{◌≡◌, ◌<◌, take, drop, sym, subst, arith, get_or}
use Rattle.param_events.specs.Events.{time_of, until, after}
use Rattle.param_events.proofs.Order.{parted}
use Rattle.param_events.proofs.edits.place.Goals as goal

found : (c : goal.After-loop-low) → (until c.args.time c.args.events.now ≡ take c.loop-low.low c.args.events.now) × (after c.args.time c.args.events.now ≡ drop c.loop-low.low c.args.events.now)
found c =
    let same : c.loop-low.low ≡ c.loop-low.high = omega (arith, c.loop-low.invariant.order, c.loop-low-test.false) in
    parted c.args.time c.loop-low.low c.args.events.now c.requires (omega (arith, c.loop-low.invariant.within, same)) c.loop-low.invariant.before
    (λ d l. let behind = c.loop-low.invariant.behind d (omega (arith, same, l)) in subst (λ k. c.args.time < time_of (get_or c.args.events.now k d)) (sym same) behind)

pub returns-clause-before : goal.returns-clause-before
returns-clause-before c = (found c).0

pub returns-clause-after : goal.returns-clause-after
returns-clause-after c = (found c).1
