use Rattle.std.proofs.Common.{◌<◌, sym, ◌∙◌, subst, inl, inr}
use Rattle.meaning.specs.declared.world.World.{World}
use Rattle.quantum_blocks.proofs.Sources.{end_low, same_nodes}
use Rattle.quantum_render.proofs.rest.is_idle.Goals as goal

pub part-into-requires : goal.part-into-requires
part-into-requires c =
    let w : World = c.args.ahead.now.census.now.world.now in
    subst (λ k. c.args.end.node.0 < k) (sym (c.requires.plan.2.nodes ∙ same_nodes w c.requires.ahead.valid)) (end_low w c.requires.ahead.valid c.args.end c.requires.there)

pub stays_silent-requires-clause-into : goal.stays_silent-requires-clause-into
stays_silent-requires-clause-into c =
    let w : World = c.args.ahead.now.census.now.world.now in
    c.part-into.ensures ∙ c.requires.plan.2.each c.args.end.node.0 (subst (λ k. c.args.end.node.0 < k) (sym (c.requires.plan.2.nodes ∙ same_nodes w c.requires.ahead.valid)) (end_low w c.requires.ahead.valid c.args.end c.requires.there))

pub is_still-requires-clause-into : goal.is_still-requires-clause-into
is_still-requires-clause-into c =
    let w : World = c.args.ahead.now.census.now.world.now in
    c.part-into.ensures ∙ c.requires.plan.2.each c.args.end.node.0 (subst (λ k. c.args.end.node.0 < k) (sym (c.requires.plan.2.nodes ∙ same_nodes w c.requires.ahead.valid)) (end_low w c.requires.ahead.valid c.args.end c.requires.there))

pub returns-then-stays_silent : goal.returns-then-stays_silent
returns-then-stays_silent c u = record { unmuted = c.requires.unmuted; why = inl (c.stays_silent.ensures c.if-stays_silent.true) }

pub returns-else-stays_silent : goal.returns-else-stays_silent
returns-else-stays_silent c still = record { unmuted = c.requires.unmuted; why = inr (c.is_still.ensures still) }
