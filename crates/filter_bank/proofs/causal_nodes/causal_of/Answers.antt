use Rattle.std.proofs.Common.{Some, Option, refl, ◌∙◌, ap, subst}
use Rattle.node_table.specs.Kinds.{IsInLimits}
use Rattle.meaning.proofs.NodeKinds.{kind_is, attrs_are, limits_there}
use Rattle.filter_bank.specs.Heard.{HeardView}
use Rattle.filter_bank.proofs.Fresh.{none_for}
use Rattle.filter_bank.proofs.causal_nodes.causal_of.Goals as goal

pub new-requires : goal.new-requires
new-requires c =
    let kind = kind_is c.args.world.now c.args.node.0 c.kind.result.now c.requires.node c.kind.ensures.value ∙ c.in-Causal.is in
    subst IsInLimits kind (limits_there c.args.world.now c.requires.valid c.args.node.0)

pub returns-in_ok-new-in-Causal : goal.returns-in_ok-new-in-Causal
returns-in_ok-new-in-Causal c =
    let kind = kind_is c.args.world.now c.args.node.0 c.kind.result.now c.requires.node c.kind.ensures.value ∙ c.in-Causal.is in
    let attrs = attrs_are c.args.world.now c.args.node.0 c.attrs-birth.result c.requires.node c.attrs-birth.ensures.value in
    ap (λ (x : HeardView). let found : Option HeardView = Some x in found) c.in_ok-new-in-Causal.ensures
    ∙ rw (kind, attrs) refl

pub returns-in_default : goal.returns-in_default
returns-in_default c =
    let kind = kind_is c.args.world.now c.args.node.0 c.kind.result.now c.requires.node c.kind.ensures.value in
    rw kind (none_for c.kind.result.now _ c.in_default.not-Causal)
