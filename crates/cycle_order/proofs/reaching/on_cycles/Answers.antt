use Rattle.std.proofs.Common.{replicate, false, ◌∙◌, ap}
use Rattle.cycle_order.proofs.Sorted.{none_marked}
use Rattle.cycle_order.proofs.reaching.on_cycles.Goals as goal

pub returns-then-branch : goal.returns-then-branch
returns-then-branch c =
    c.in_ok-marks.ensures.items_if_clones_equal (λ y e. e) ∙ ap (λ n. replicate n false) c.len.ensures
    ∙ none_marked c.args.arrows.now (c.in_ok-are_sorted.ensures c.if-branch.true)
