use Rattle.std.proofs.Common.{sym, ◌∙◌, ap, subst}
use Rattle.node_table.specs.Kinds.{IsInLimits}
use Rattle.meaning.specs.World.{kind_of}
use Rattle.meaning.proofs.NodeKinds.{kind_is, limits_there}
use Rattle.quantum_render.specs.Sites.{SiteView, IsSite}
use Rattle.quantum_blocks.proofs.Sources.{end_low}
use Rattle.quantum_render.proofs.site.Site.kind.Goals as goal

pub kind-requires : goal.kind-requires
kind-requires c = end_low c.self.inside.quantum.now.world.now c.self.invariant.0.quantum.valid c.self.inside.end c.self.invariant.0.there

pub returns-clause-value : goal.returns-clause-value
returns-clause-value c =
    sym (kind_is c.self.inside.quantum.now.world.now c.self.inside.end.node.0 c.kind.result.now (end_low c.self.inside.quantum.now.world.now c.self.invariant.0.quantum.valid c.self.inside.end c.self.invariant.0.there) c.kind.ensures.value)
    ∙ ap (λ (x : SiteView). kind_of x.world x.end.node.0) c.self.view_is

pub returns-clause-limits : goal.returns-clause-limits
returns-clause-limits c =
    subst IsInLimits (kind_is c.self.inside.quantum.now.world.now c.self.inside.end.node.0 c.kind.result.now (end_low c.self.inside.quantum.now.world.now c.self.invariant.0.quantum.valid c.self.inside.end c.self.invariant.0.there) c.kind.ensures.value)
    (limits_there c.self.inside.quantum.now.world.now c.self.invariant.0.quantum.valid c.self.inside.end.node.0)

pub returns-clause-site : goal.returns-clause-site
returns-clause-site c = subst (λ (x : SiteView). IsSite x.world x.end x.into x.counts x.levels x.first) c.self.view_is c.self.invariant.0
