use Rattle.std.proofs.Common.{◌≡◌, Some, Option, inl, inr, refl, sym, ◌∙◌, ap, arith}
use Rattle.std.proofs.lemmas.List.Sums.{get_or-le-sum_by}
use Rattle.node_table.specs.declared.rows.Row.{Row}
use Rattle.node_table.specs.Rows.{frames_written}
use Rattle.node_table.specs.Kinds.{row, capacity_of}
use Rattle.node_table.specs.declared.nodes.Node.{Node}
use Rattle.meaning.specs.World.{no_node, kind_of}
use Rattle.meaning.proofs.NodeKinds.{kind_is, attrs_are}
use Rattle.delay_bank.specs.Kept.{DelayView}
use Rattle.delay_bank.proofs.delays.delay_of.Goals as goal

-- a delay keeps no more than all do
pub new-requires : goal.new-requires
new-requires c =
    let w = c.args.world.now in
    let kind = kind_is w c.args.node.0 c.kind.result.now c.requires.node c.kind.ensures.value in
    let own : capacity_of (kind_of w c.args.node.0) ≡ c.in-Written.frames = ap capacity_of kind ∙ ap frames_written (sym (ap (λ (r : Row). r.keeps) c.row.ensures) ∙ c.in-Written.is) in
    let all = get_or-le-sum_by (λ (n : Node). capacity_of n.kind) w.nodes c.args.node.0 no_node c.requires.node in
    let most = c.requires.valid.nodes.kept in
    omega (arith, own, all, most)

pub returns-in_ok-new-in-Written : goal.returns-in_ok-new-in-Written
returns-in_ok-new-in-Written c =
    let kind = kind_is c.args.world.now c.args.node.0 c.kind.result.now c.requires.node c.kind.ensures.value in
    let keeps = ap (λ k. (row k).keeps) kind ∙ sym (ap (λ (r : Row). r.keeps) c.row.ensures) ∙ c.in-Written.is in
    let attrs = attrs_are c.args.world.now c.args.node.0 c.attrs-birth.result c.requires.node c.attrs-birth.ensures.value in
    ap (λ (x : DelayView). let found : Option DelayView = Some x in found) c.in_ok-new-in-Written.ensures
    ∙ rw (keeps, attrs) refl

pub returns-in-Nothing : goal.returns-in-Nothing
returns-in-Nothing c =
    let kind = kind_is c.args.world.now c.args.node.0 c.kind.result.now c.requires.node c.kind.ensures.value in
    let keeps = ap (λ k. (row k).keeps) kind ∙ sym (ap (λ (r : Row). r.keeps) c.row.ensures) in
    elim c.in-Nothing.is [
      | inl is ↦ rw (keeps ∙ is) refl
      | inr is ↦ rw (keeps ∙ is) refl
    ]
