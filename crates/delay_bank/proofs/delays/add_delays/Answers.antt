use Rattle.std.proofs.Common.{◌≡◌, ◌+◌, ◌∷◌, [], length, length-append, None, sym, ◌∙◌, ap, arith, subst}
use Rattle.meaning.specs.World.{kind_of, node_at}
use Rattle.law_base.proofs.Places.{front_kept, more_item}
use Rattle.delay_bank.specs.Kept.{IsOf, first_delay}
use Rattle.delay_bank.proofs.Fresh.{fresh_of}
use Rattle.delay_bank.proofs.Quanta.{more_of}
use Rattle.delay_bank.proofs.delays.add_delays.Goals as goal

pub loop-node-preserved : goal.loop-node-preserved
loop-node-preserved c =
    let longer : length c.push.new.self.items ≡ length c.loop-node.delays.items + 1 = ap length c.in_ok-push.ensures.items ∙ length-append c.loop-node.delays.items (c.in_ok-delay_of.field-0 ∷ []) in
    let long = c.loop-node.invariant.long in
    let more = c.loop-node.invariant.more in
    record {
      long = longer ∙ ap (λ n. n + 1) long;
      more = omega arith;
      fewer = let low = c.loop-node-test.true in let nodes = c.len-node-end.ensures.value in grind arith;
      kept = rw c.in_ok-push.ensures.items (front_kept c.args.delays.now.items c.loop-node.delays.items c.in_ok-delay_of.field-0 more c.loop-node.invariant.kept);
      each = λ all. rw c.in_ok-push.ensures.items (more_of c.args.quantum c.loop-node.delays.items c.in_ok-delay_of.field-0 (c.loop-node.invariant.each all)
          (subst (IsOf c.args.quantum) (sym c.in_ok-delay_of.ensures) (fresh_of c.args.quantum _ _)));
      fresh = λ n low high. rw c.in_ok-push.ensures.items
          (more_item c.loop-node.delays.items c.in_ok-delay_of.field-0 None n (λ o. o ≡ first_delay c.args.quantum (kind_of c.args.world.now n) (node_at c.args.world.now n).attrs.birth)
          (omega arith) (λ l. c.loop-node.invariant.fresh n low (omega arith)) (λ e. c.in_ok-delay_of.ensures ∙ ap (λ k. first_delay c.args.quantum (kind_of c.args.world.now k) (node_at c.args.world.now k).attrs.birth) (let here : c.loop-node.node ≡ n = omega arith in here)));
    }

pub returns-clause-count : goal.returns-clause-count
returns-clause-count c =
    let long = c.loop-node.invariant.long in
    let more = c.loop-node.invariant.more in
    let fewer = c.loop-node.invariant.fewer in
    let past = c.loop-node-test.false in
    let nodes = c.len-node-end.ensures.value in
    grind arith
