use Rattle.std.proofs.Common.{ap, sym, ◌∙◌, ◌≡◌, ◌-◌, ◌<◌, ◌∷◌, [], ◌++◌, suc, length, length-append, arith, rules}
use Rattle.param_events.specs.Pieces.{all}
use Rattle.param_events.proofs.Pieced.{pieced_same, pieced_push}
use Rattle.param_events.proofs.pieces.Events.push.Goals as goal

pub invariant_of-self-in_err-push : goal.invariant_of-self-in_err-push
invariant_of-self-in_err-push c =
    let ps = c.open_last.new.pieces.items in
    let last : c.len-last.result - 1 < length ps = search rules in
    let same = pieced_same ps (c.len-last.result - 1) c.index_mut.result.now c.push.new.self last c.index_mut.ensures.value c.in_err-push.ensures.items in
    c.self.invariant ∙ sym (ap length (same ∙ c.in_ok-open_last.ensures.same))

pub returns-in_err-push-clause-err : goal.returns-in_err-push-clause-err
returns-in_err-push-clause-err c =
    let ps = c.open_last.new.pieces.items in
    let last : c.len-last.result - 1 < length ps = search rules in
    let same = pieced_same ps (c.len-last.result - 1) c.index_mut.result.now c.push.new.self last c.index_mut.ensures.value c.in_err-push.ensures.items ∙ c.in_ok-open_last.ensures.same ∙ c.self.view_is in
    search rules

pub invariant_of-self-2 : goal.invariant_of-self-2
invariant_of-self-2 c =
    let ps = c.open_last.new.pieces.items in
    let last : suc (c.len-last.result - 1) ≡ length ps = search rules in
    let more = pieced_push ps (c.len-last.result - 1) c.index_mut.result.now c.push.new.self c.args.event last c.index_mut.ensures.value c.in_ok-push.ensures.items in
    let long = ap length more ∙ length-append (all ps) (c.args.event ∷ []) in
    let old = ap length c.in_ok-open_last.ensures.same in
    omega (arith, long, old, c.self.invariant)

pub returns-clause-ok : goal.returns-clause-ok
returns-clause-ok c =
    let ps = c.open_last.new.pieces.items in
    let last : suc (c.len-last.result - 1) ≡ length ps = search rules in
    pieced_push ps (c.len-last.result - 1) c.index_mut.result.now c.push.new.self c.args.event last c.index_mut.ensures.value c.in_ok-push.ensures.items
    ∙ ap (λ es. es ++ c.args.event ∷ []) (c.in_ok-open_last.ensures.same ∙ c.self.view_is)
