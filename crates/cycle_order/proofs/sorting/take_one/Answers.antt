use Rattle.std.proofs.Common.{◌≡◌, ◌<◌, ◌-◌, set, get_or, sym, ◌∙◌, subst, arith}
use Rattle.std.proofs.lemmas.List.{length-set, get_or-set_same}
use Rattle.cycle_order.specs.Sorting.{AreFree}
use Rattle.cycle_order.proofs.Sorted.{positive, not_free, free_lowered, free_pushed}
use Rattle.cycle_order.proofs.sorting.take_one.Goals as goal

pub returns-then-count-gt1-clause-free : goal.returns-then-count-gt1-clause-free
returns-then-count-gt1-clause-free c =
    let counts = c.args.counts.now in
    let v = c.args.vertex in
    let some = positive (get_or counts v 0) c.if-count-eq0.false in
    free_lowered counts c.args.free.now.items c.requires.free v some (get_or counts v 0 - 1)

pub returns-clause-free : goal.returns-clause-free
returns-clause-free c =
    let counts = c.args.counts.now in
    let free = c.args.free.now.items in
    let v = c.args.vertex in
    let some = positive (get_or counts v 0) c.if-count-eq0.false in
    let last : get_or counts v 0 - 1 ≡ 0 = let l = c.if-count-gt1.false in omega arith in
    subst (λ fs. AreFree (set counts v (get_or counts v 0 - 1)) fs) (sym c.in_ok-push.ensures.items)
    (free_pushed (set counts v (get_or counts v 0 - 1)) free v
    (free_lowered counts free c.requires.free v some (get_or counts v 0 - 1))
    (subst (λ n. v < n) (sym (length-set counts v (get_or counts v 0 - 1))) c.requires.vertex)
    (get_or-set_same counts v (get_or counts v 0 - 1) 0 c.requires.vertex ∙ last)
    (not_free counts free c.requires.free v some))
