use Rattle.std.proofs.Common.{◌<◌, ◌≤◌, ◌+◌, ◌*◌, length, slice_index_or, None, ◌∙◌, arith, subst}
use Rattle.std.specs.Prelude.{IfSome}
use Rattle.std.proofs.lemmas.List.{get_or_default, length-set}
use Rattle.filter_bank.specs.Heard.{room_of}
use Rattle.filter_bank.specs.Banks.{IsSameIfThere}
use Rattle.law_base.proofs.Places.{one_related, one_more, there_low}
use Rattle.filter_bank.proofs.Growing.{same_after}
use Rattle.filter_bank.proofs.causal_nodes.grow_each.Goals as goal

within : (c : goal.In_ok-grow_one) → c.loop-node.node < length c.loop-node.nodes
within c =
    let low = c.loop-node-test.true in
    let few = c.min-count.ensures in
    let long = c.loop-node.invariant.long in
    grind arith

counted : (c : goal.In_ok-grow_one) → 2 * c.loop-node.node + 1 < length c.args.counts.now
counted c =
    let low = c.loop-node-test.true in
    let few = c.min-count.ensures in
    grind arith

pub loop-node-preserved : goal.loop-node-preserved
loop-node-preserved c = record {
  long = length-set c.loop-node.nodes c.loop-node.node c.grow_one.new.causal ∙ c.loop-node.invariant.long;
  same = one_related None c.loop-node.nodes c.loop-node.node c.grow_one.new.causal (within c) IsSameIfThere same_after c.args.nodes.now c.loop-node.invariant.same
      (subst (λ o. IsSameIfThere o c.grow_one.new.causal) (get_or_default c.loop-node.nodes c.loop-node.node c.index-nodes-node.result None (within c)) c.grow_one.ensures.same);
  room = one_more c.loop-node.nodes c.loop-node.node c.grow_one.new.causal (within c) (λ n f. (slice_index_or c.args.counts.now (2 * n + 1) 1 ≤ room_of f) × (room_of f ≤ 32)) c.loop-node.invariant.room
      (subst (λ k. IfSome c.grow_one.new.causal (λ f. (k ≤ room_of f) × (room_of f ≤ 32))) (get_or_default c.args.counts.now (2 * c.loop-node.node + 1) _ 1 (counted c)) c.in_ok-grow_one.ensures.ok);
}

pub returns-clause-ok : goal.returns-clause-ok
returns-clause-ok c n f is low =
    let past = c.loop-node-test.false in
    let few = c.min-count.ensures in
    let long = c.loop-node.invariant.long in
    let there = there_low c.loop-node.nodes n f is in
    c.loop-node.invariant.room n f (grind arith) is
