use Rattle.std.proofs.Common.{sym, ◌∙◌, subst}
use Rattle.meaning.specs.declared.world.World.{World}
use Rattle.meaning.proofs.NodeKinds.{kind_is}
use Rattle.quantum_blocks.proofs.Sources.{end_low}
use Rattle.quantum_render.specs.Idle.{IsStill}
use Rattle.quantum_render.proofs.rest.is_still.Goals as goal

pub kind-requires : goal.kind-requires
kind-requires c = end_low c.args.ahead.now.census.now.world.now c.requires.ahead.valid c.args.end c.requires.there

pub is_still_gain-requires-clause-kind : goal.is_still_gain-requires-clause-kind
is_still_gain-requires-clause-kind c =
    let w : World = c.args.ahead.now.census.now.world.now in
    (c.in-Gain.gain, kind_is w c.args.end.node.0 c.kind.result.now (end_low w c.requires.ahead.valid c.args.end c.requires.there) c.kind.ensures.value ∙ c.in-Gain.is)

pub returns-in-Constant : goal.returns-in-Constant
returns-in-Constant c still =
    let w : World = c.args.ahead.now.census.now.world.now in
    let kind = kind_is w c.args.end.node.0 c.kind.result.now (end_low w c.requires.ahead.valid c.args.end c.requires.there) c.kind.ensures.value ∙ c.in-Constant.is in
    subst (IsStill w c.args.ahead.now.counts.now c.args.ahead.now.census.now.first c.args.ahead.now.until c.args.marks.now c.args.ahead.now.blocks.now c.args.end) (sym kind) (c.is_still_source.ensures still)

pub returns-in-Gain : goal.returns-in-Gain
returns-in-Gain c still =
    let w : World = c.args.ahead.now.census.now.world.now in
    let kind = kind_is w c.args.end.node.0 c.kind.result.now (end_low w c.requires.ahead.valid c.args.end c.requires.there) c.kind.ensures.value ∙ c.in-Gain.is in
    subst (IsStill w c.args.ahead.now.counts.now c.args.ahead.now.census.now.first c.args.ahead.now.until c.args.marks.now c.args.ahead.now.blocks.now c.args.end) (sym kind) (c.is_still_gain.ensures still)
