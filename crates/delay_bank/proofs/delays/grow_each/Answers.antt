use Rattle.std.proofs.Common.{◌<◌, ◌≤◌, ◌*◌, length, slice_index_or, None, refl, ◌∙◌, arith, subst}
use Rattle.std.specs.Prelude.{IfSome}
use Rattle.std.proofs.lemmas.List.{get_or_default, length-set}
use Rattle.law_base.proofs.Places.{one_related, one_more, there_low}
use Rattle.delay_bank.specs.Kept.{room_of, IsGrown}
use Rattle.delay_bank.proofs.Same.{grown_refl, grown_after}
use Rattle.delay_bank.proofs.delays.grow_each.Goals as goal

pub loop-node-init : goal.loop-node-init
loop-node-init c = record { long = refl; each = λ n. grown_refl _; room = λ n d low is. absurd (omega arith) }

within : (c : goal.In_ok-grow_one) → c.loop-node.node < length c.loop-node.delays
within c =
    let low = c.loop-node-test.true in
    let few = c.min-nodes.ensures in
    let long = c.loop-node.invariant.long in
    grind arith

counted : (c : goal.In_ok-grow_one) → 2 * c.loop-node.node < length c.args.counts.now
counted c =
    let low = c.loop-node-test.true in
    let few = c.min-nodes.ensures in
    grind arith

pub loop-node-preserved : goal.loop-node-preserved
loop-node-preserved c = record {
  long = length-set c.loop-node.delays c.loop-node.node c.grow_one.new.delay ∙ c.loop-node.invariant.long;
  each = one_related None c.loop-node.delays c.loop-node.node c.grow_one.new.delay (within c) IsGrown grown_after c.args.delays.now c.loop-node.invariant.each
      (subst (λ o. IsGrown o c.grow_one.new.delay) (get_or_default c.loop-node.delays c.loop-node.node c.index-delays-node.result None (within c)) c.grow_one.ensures.grown);
  room = one_more c.loop-node.delays c.loop-node.node c.grow_one.new.delay (within c) (λ n d. slice_index_or c.args.counts.now (2 * n) 1 ≤ room_of d) c.loop-node.invariant.room
      (subst (λ k. IfSome c.grow_one.new.delay (λ d. k ≤ room_of d)) (get_or_default c.args.counts.now (2 * c.loop-node.node) _ 1 (counted c)) c.in_ok-grow_one.ensures.ok);
}

pub returns-clause-ok : goal.returns-clause-ok
returns-clause-ok c n d is low =
    let past = c.loop-node-test.false in
    let few = c.min-nodes.ensures in
    let long = c.loop-node.invariant.long in
    let there = there_low c.loop-node.delays n d is in
    c.loop-node.invariant.room n d (grind arith) is

pub returns-in_err-grow_one-clause-each : goal.returns-in_err-grow_one-clause-each
returns-in_err-grow_one-clause-each c =
    let low = c.loop-node-test.true in
    let few = c.min-nodes.ensures in
    let long = c.loop-node.invariant.long in
    let there : c.loop-node.node < length c.loop-node.delays = grind arith in
    one_related None c.loop-node.delays c.loop-node.node c.grow_one.new.delay there IsGrown grown_after c.args.delays.now c.loop-node.invariant.each
    (subst (λ o. IsGrown o c.grow_one.new.delay) (get_or_default c.loop-node.delays c.loop-node.node c.index-delays-node.result None there) c.grow_one.ensures.grown)
