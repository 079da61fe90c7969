use Rattle.std.proofs.Common.{◌≡◌, ◌<◌, slice_index_or, length, map, sym, ◌∙◌, ap, arith, subst}
use Rattle.std.proofs.lemmas.List.{get_or-set_other, length-map}
use Rattle.std.proofs.lemmas.List.Sums.{sum_by_more, sum_by-take-le}
use Rattle.automation.specs.Ready.{Rests, RunningView, Stands, param_of}
use Rattle.automation.proofs.Places.{place_of, in_list}
use Rattle.automation.proofs.Running.{cost_at, cost_running, item_more, place_is, place_low, places_stay}
use Rattle.automation.proofs.automation.reseek_each.Goals as goal

pub reseek-requires-clause-param : goal.reseek-requires-clause-param
reseek-requires-clause-param g c =
    let old = c.args.running.now in
    let place = place_is old c.loop-k.running c.loop-k.invariant.same c.loop-k.k c.index-running-k.result c.loop-k-test.true 0 in
    place_low old c.loop-k.k _ c.loop-k-test.true place (length c.args.params.now) c.requires.running

pub reseek-requires-clause-rests : goal.reseek-requires-clause-rests
reseek-requires-clause-rests g c =
    let old = c.args.running.now in
    let k = c.loop-k.k in
    let r : RunningView = c.index-running-k.result in
    let levels = c.requires.rests.0 in
    (levels, subst (Rests c.args.frames c.args.params.now c.args.first levels) (sym (c.loop-k.invariant.ahead k r (omega arith))) (c.requires.rests.1 (slice_index_or old k r) (in_list old k r c.loop-k-test.true)))

pub loop-k-preserved : goal.loop-k-preserved
loop-k-preserved g c =
    let k = c.loop-k.k in
    let inv = c.loop-k.invariant in
    let q = c.args.frames in
    let params = c.args.params.now in
    let first = c.args.first in
    let old = c.args.running.now in
    let running = c.loop-k.running in
    let r : RunningView = c.index-running-k.result in
    let y : RunningView = c.reseek.new.self in
    let within : k < length running = omega (arith, c.loop-k-test.true, c.loop-k.auto.running) in
    let was = inv.ahead k r (omega arith) in
    record {
      same = places_stay running k y r within c.reseek.ensures.param ∙ inv.same;
      ahead = λ j x later. get_or-set_other running k j y x (λ e. let same : j ≡ k = e in omega (arith, later, same)) ∙ inv.ahead j x (omega (arith, later));
      stands = item_more (Stands params first) running k y within c.reseek.ensures.stands inv.stands;
      rests = λ levels each. item_more (Rests q params first levels) running k y within
          (c.reseek.ensures.rests levels (subst (Rests q params first levels) (sym was) (each (slice_index_or old k r) (in_list old k r c.loop-k-test.true)))) (inv.rests levels each);
      cost = λ digits each.
          let here = c.reseek.ensures.cost digits each in
          let more = sum_by_more (cost_at digits params) (map param_of old) k 0 (omega (arith, c.loop-k-test.true, length-map old param_of)) in
          let cost = ap (cost_at digits params) (place_is old running inv.same k r c.loop-k-test.true 0) in
          omega (arith, here, more, cost, inv.cost digits each);
    }

pub returns-clause-stands : goal.returns-clause-stands
returns-clause-stands g c r is =
    let found = place_of c.loop-k.running r is in
    subst (Stands c.args.params.now c.args.first) (found.2 r) (c.loop-k.invariant.stands found.0 r (omega (arith, found.1, c.loop-k-test.false, c.loop-k.auto.running)))

pub returns-clause-rests : goal.returns-clause-rests
returns-clause-rests g c levels each r is =
    let found = place_of c.loop-k.running r is in
    subst (Rests c.args.frames c.args.params.now c.args.first levels) (found.2 r) (c.loop-k.invariant.rests levels each found.0 r (omega (arith, found.1, c.loop-k-test.false, c.loop-k.auto.running)))

pub returns-clause-cost : goal.returns-clause-cost
returns-clause-cost g c digits each =
    let places = map param_of c.args.running.now in
    let some = sum_by-take-le (cost_at digits c.args.params.now) places c.loop-k.k in
    let all = cost_running digits c.args.params.now places c.requires.running in
    omega (arith, some, all, c.loop-k.invariant.cost digits each)
