use Rattle.std.proofs.Common.{◌<◌, length, Bool, None, Some, sym, ◌∙◌, ap, subst}
use Rattle.std.specs.Prelude.{Option, if◌then◌else◌, option_map}
use Rattle.wa_base.specs.declared.graph_names.NodeId.{NodeId}
use Rattle.wa_base.specs.declared.graph_names.ParamName.{ParamName}
use Rattle.law_base.specs.Members.{IsIn}
use Rattle.node_table.specs.Kinds.{param_name}
use Rattle.node_table.specs.declared.kinds.Kind.{Kind}
use Rattle.meaning.specs.declared.world.World.{World}
use Rattle.meaning.specs.World.{kind_of, param_id}
use Rattle.meaning.specs.Validity.{param_ids}
use Rattle.meaning.proofs.NodeKinds.{kind_is}
use Rattle.control_side.specs.Params.{has_param, param_of_kind, param_at}
use Rattle.control_side.proofs.Parameters.{kept_name}
use Rattle.control_side.proofs.control.Control.param_at.Goals as goal

pub returns-then-has_param-clause-there : goal.returns-then-has_param-clause-there
returns-then-has_param-clause-there c kept =
    let w : World = c.world.result.now in
    let n = c.in_ok-node.node.0 in
    let low : n < length w.nodes = subst (λ (x : World). n < length x.nodes) (sym c.world.ensures.world) c.in_ok-node.ensures.there in
    let kind = kind_is w n c.kind.result.now low c.kind.ensures.value in
    subst (λ (x : World). IsIn (param_id n c.in_ok-name.name) (param_ids x)) c.world.ensures.world
    ((c.world.ensures.valid.params.each n c.in_ok-name.name low).1
    (ap param_name kind ∙ kept_name c.kind.result.now c.in_ok-name.name (sym c.has_param.ensures ∙ c.if-has_param.true) kept))

pub returns-else-has_param-clause-param : goal.returns-else-has_param-clause-param
returns-else-has_param-clause-param c =
    let w : World = c.world.result.now in
    let n = c.in_ok-node.node.0 in
    let low : n < length w.nodes = subst (λ (x : World). n < length x.nodes) (sym c.world.ensures.world) c.in_ok-node.ensures.there in
    let kind = ap (λ (x : World). kind_of x n) (sym c.world.ensures.world) ∙ kind_is w n c.kind.result.now low c.kind.ensures.value in
    sym
    (ap (λ (o : Option NodeId). param_at c.args.self.now o c.args.param.now) (sym c.node_named.ensures.node ∙ c.in_ok-node.was)
    ∙ ap (λ (o : Option ParamName). option_map (param_id n) (param_of_kind (kind_of c.args.self.now.world n) o)) (sym c.param_named.ensures ∙ c.in_ok-name.was)
    ∙ ap (λ (k : Kind). option_map (param_id n) (if has_param k c.in_ok-name.name then Some c.in_ok-name.name else None)) kind
    ∙ ap (λ (b : Bool). option_map (param_id n) (if b then Some c.in_ok-name.name else None)) (sym c.has_param.ensures ∙ c.if-has_param.false))
