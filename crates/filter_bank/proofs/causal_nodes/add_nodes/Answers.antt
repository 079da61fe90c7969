use Rattle.std.proofs.Common.{◌≡◌, ◌+◌, ◌∷◌, [], length, length-append, None, ◌∙◌, ap, arith}
use Rattle.meaning.specs.World.{kind_of, node_at}
use Rattle.filter_bank.specs.Heard.{first_heard}
use Rattle.law_base.proofs.Places.{front_kept, more_item}
use Rattle.filter_bank.proofs.causal_nodes.add_nodes.Goals as goal

pub loop-node-preserved : goal.loop-node-preserved
loop-node-preserved c =
    let longer : length c.push.new.self.items ≡ length c.loop-node.nodes.items + 1 = ap length c.in_ok-push.ensures.items ∙ length-append c.loop-node.nodes.items (c.in_ok-causal_of.field-0 ∷ []) in
    let long = c.loop-node.invariant.long in
    let more = c.loop-node.invariant.more in
    record {
      long = longer ∙ ap (λ n. n + 1) long;
      more = omega arith;
      fewer = let low = c.loop-node-test.true in let nodes = c.len-node-end.ensures.value in grind arith;
      kept = rw c.in_ok-push.ensures.items (front_kept c.args.nodes.now.items c.loop-node.nodes.items c.in_ok-causal_of.field-0 more c.loop-node.invariant.kept);
      fresh = λ n low high. rw c.in_ok-push.ensures.items
          (more_item c.loop-node.nodes.items c.in_ok-causal_of.field-0 None n (λ o. o ≡ first_heard (kind_of c.args.world.now n) (node_at c.args.world.now n).attrs.birth)
          (omega arith) (λ l. c.loop-node.invariant.fresh n low (omega arith)) (λ e. c.in_ok-causal_of.ensures ∙ ap (λ k. first_heard (kind_of c.args.world.now k) (node_at c.args.world.now k).attrs.birth) (let here : c.loop-node.node ≡ n = omega arith in here)));
    }

pub returns-clause-count : goal.returns-clause-count
returns-clause-count c =
    let long = c.loop-node.invariant.long in
    let more = c.loop-node.invariant.more in
    let fewer = c.loop-node.invariant.fewer in
    let past = c.loop-node-test.false in
    let nodes = c.len-node-end.ensures.value in
    grind arith
