use Rattle.std.proofs.Common.{◌<◌, get_or, sym, ◌∙◌, ap, subst}
use Rattle.prune_script.proofs.Marking.{IsIn-get_or, marking_none, seen_at, fresh_at, all_marked}
use Rattle.prune_script.proofs.live.mark.Goals as goal
use Rattle.prune_script.proofs.live.mark.Goals.{then-not-marks-node+in_ok-push, else-not-marks-node}

pub loop-node-init : goal.loop-node-init
loop-node-init c = marking_none c.args.marks.now c.args.waiting.now.items

pub bounds-marks-node : goal.bounds-marks-node
bounds-marks-node c = subst (λ n. get_or c.args.nodes.now c.loop-node.node-index 0 < n) (sym c.loop-node.auto.marks)
    (c.requires (get_or c.args.nodes.now c.loop-node.node-index 0) (IsIn-get_or c.args.nodes.now c.loop-node.node-index 0 c.loop-node-test.true))

pub bounds-marks-node-then-not-marks-node : goal.bounds-marks-node-then-not-marks-node
bounds-marks-node-then-not-marks-node c = subst (λ n. get_or c.args.nodes.now c.loop-node.node-index 0 < n) (sym c.loop-node.auto.marks)
    (c.requires (get_or c.args.nodes.now c.loop-node.node-index 0) (IsIn-get_or c.args.nodes.now c.loop-node.node-index 0 c.loop-node-test.true))

pub loop-node-preserved : goal.loop-node-preserved
loop-node-preserved c = elim c.if-not-marks-node.branch [
  | then-not-marks-node+in_ok-push w ↦
      fresh_at c.args.nodes.now c.loop-node.node-index c.args.marks.now c.args.waiting.now.items c.loop-node.marks c.loop-node.waiting.items c.if-not-marks-node.marks c.if-not-marks-node.waiting.items
      c.loop-node-test.true c.loop-node.invariant
      (subst (λ n. get_or c.args.nodes.now c.loop-node.node-index 0 < n) (sym c.loop-node.auto.marks)
      (c.requires (get_or c.args.nodes.now c.loop-node.node-index 0) (IsIn-get_or c.args.nodes.now c.loop-node.node-index 0 c.loop-node-test.true)))
      w.if-not-marks-node.true w.marks-is (ap (λ v. v.items) w.waiting-is ∙ w.in_ok-push.ensures.items)
  | else-not-marks-node w ↦
      seen_at c.args.nodes.now c.loop-node.node-index c.args.marks.now c.args.waiting.now.items c.loop-node.marks c.loop-node.waiting.items c.if-not-marks-node.marks c.if-not-marks-node.waiting.items
      c.loop-node-test.true c.loop-node.invariant
      w.if-not-marks-node.false w.marks-is (ap (λ v. v.items) w.waiting-is)
]

pub returns : goal.returns
returns c = all_marked c.args.nodes.now c.loop-node.node-index c.args.marks.now c.args.waiting.now.items c.loop-node.marks c.loop-node.waiting.items c.loop-node-test.false c.loop-node.invariant
