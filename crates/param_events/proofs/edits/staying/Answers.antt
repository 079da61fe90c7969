use Rattle.std.proofs.Common.{pos, ◌≡◌, ◌-◌, true, get_or, sym, ap, ◌∙◌, arith}
use Rattle.std.proofs.lemmas.Option.{get_or_from_slice_get}
use Rattle.param_events.specs.declared.events.Event.{Event}
use Rattle.param_events.specs.declared.events.Event.TheVariants.{Set}
use Rattle.param_events.specs.Edits.{stays}
use Rattle.param_events.proofs.Cancels.{stay_at, stays_down}
use Rattle.param_events.proofs.edits.staying.Goals as goal

pub returns-else-not-stays-clause-rest : goal.returns-else-not-stays-clause-rest
returns-else-not-stays-clause-rest c =
    let d : Event = Set 0 (pos 0) in
    let es = c.args.events.now in
    let count = c.loop-count.count in
    let last : stays c.args.time (get_or es (count - 1) d) ≡ true = ap (stays c.args.time) (get_or_from_slice_get es (count - 1) c.get.result.now d c.get.ensures) ∙ sym c.stays.ensures ∙ c.if-not-stays.false in
    stay_at c.args.time 0 count es d c.requires c.loop-count.invariant.within
    (λ k l. stays_down c.args.time 0 k (count - 1) es d c.requires (omega (arith, l)) (omega (arith, l, c.loop-count.invariant.within)) last)
    (c.loop-count.invariant.next d)

pub returns-after-loop-count-clause-rest : goal.returns-after-loop-count-clause-rest
returns-after-loop-count-clause-rest c =
    let d : Event = Set 0 (pos 0) in
    stay_at c.args.time 0 c.loop-count.count c.args.events.now d c.requires c.loop-count.invariant.within (λ k l. absurd (omega (arith, l, c.loop-count-test.false))) (c.loop-count.invariant.next d)
