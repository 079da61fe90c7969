use Rattle.std.proofs.Common.{◌≡◌, ◌<◌, length, Bool, true, false, refl, sym, ◌∙◌, arith, not}
use Rattle.conn_graph.proofs.EndOrders.{IsIn-ends}
use Rattle.explain_top.proofs.facts.has_end.Goals as goal

writes : (b : Bool) → not b ≡ false → b ≡ true
writes true e = refl
writes false e = absurd cc

not_both : (b : Bool) → not b ≡ true → b ≡ true → ⊥
not_both true n e = absurd cc
not_both false n e = absurd cc

never : false ≡ true → ⊥
never e = absurd cc

pub returns-then-not-end-clause-end : goal.returns-then-not-end-clause-end
returns-then-not-end-clause-end c =
    let there : c.args.end.node.0 < length c.args.world.now.graph.value.nodes = (let a = c.if-end-len.false in let b = c.len.ensures.number in omega arith) in
    ((λ t. (IsIn-ends c.args.world.now.graph.value c.args.end).1 (there, λ w. absurd (not_both c.args.end.writer t w))), (λ h. c.if-not-end.true))

pub returns-else-not-end-clause-end : goal.returns-else-not-end-clause-end
returns-else-not-end-clause-end c =
    let there : c.args.end.node.0 < length c.args.world.now.graph.value.nodes = (let a = c.if-end-len.false in let b = c.len.ensures.number in omega arith) in
    let told = IsIn-ends c.args.world.now.graph.value c.args.end in
    ((λ t. told.1 (there, λ w. sym c.is_delay.ensures ∙ t)), (λ h. c.is_delay.ensures ∙ (told.0 h).1 (writes c.args.end.writer c.if-not-end.false)))

pub returns-then-end-len-clause-end : goal.returns-then-end-len-clause-end
returns-then-end-len-clause-end c =
    let told = IsIn-ends c.args.world.now.graph.value c.args.end in
    ((λ t. absurd (never t)), (λ h. absurd (let l = (told.0 h).0 in let b = c.len.ensures.number in let f = c.if-end-len.true in omega (arith, l, b, f))))
