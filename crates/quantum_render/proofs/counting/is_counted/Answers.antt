use Rattle.std.proofs.Common.{◌<◌, length, sym, ◌∙◌, subst}
use Rattle.quantum_blocks.specs.Blocks.{slot}
use Rattle.quantum_blocks.proofs.Slots.{slot_low}
use Rattle.quantum_blocks.proofs.Sources.{same_nodes, end_low}
use Rattle.quantum_render.proofs.counting.is_counted.Goals as goal

pub part-into-requires : goal.part-into-requires
part-into-requires c =
    subst (λ n. c.args.end.node.0 < n) (sym (c.requires.plan.2.nodes ∙ same_nodes c.args.census.now.world.now c.requires.valid)) (end_low c.args.census.now.world.now c.requires.valid c.args.end c.requires.there)

pub count_of-requires-clause-into : goal.count_of-requires-clause-into
count_of-requires-clause-into c =
    let low = end_low c.args.census.now.world.now c.requires.valid c.args.end c.requires.there in
    let within : c.args.end.node.0 < length c.args.census.now.into.now = subst (λ n. c.args.end.node.0 < n) (sym (c.requires.plan.2.nodes ∙ same_nodes c.args.census.now.world.now c.requires.valid)) low in
    c.part-into.ensures ∙ c.requires.plan.2.each c.args.end.node.0 within

pub has_count-requires : goal.has_count-requires
has_count-requires c =
    let low = end_low c.args.census.now.world.now c.requires.valid c.args.end c.requires.there in
    subst (λ n. slot c.args.end < n) (sym c.requires.range.places) (slot_low c.args.end (length c.args.census.now.world.now.nodes) low)

pub returns : goal.returns
returns c same = λ j earlier begins most. c.has_count.ensures same ∙ c.count_of.ensures.value j earlier begins most
