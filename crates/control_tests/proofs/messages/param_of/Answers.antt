use Rattle.std.proofs.Common.{rules, ◌≡◌, ◌<◌, length, Option, Some, false, sym, ◌∙◌, ap, arith}
use Rattle.std.specs.Prelude.{option_map}
use Rattle.wa_base.specs.declared.graph_names.ParamName.{ParamName}
use Rattle.node_table.specs.declared.rows.ParamRow.{ParamRow}
use Rattle.node_table.specs.declared.rows.Row.{Row}
use Rattle.node_table.specs.Kinds.{param_name}
use Rattle.control_tests.proofs.KindOf.{kind_is}
use Rattle.control_tests.proofs.messages.param_of.Goals as goal

pub returns-then-eq : goal.returns-then-eq
returns-then-eq c =
    let low : c.args.node < length c.args.world.now.nodes = omega (arith, c.len.ensures.value, c.if-node-len.false) in
    let kind = kind_is c.args.world.now c.args.node c.kind.result.now low c.kind.ensures.value in
    let same : c.in_ok-param.param.name ≡ c.args.name = search rules in
    let named : param_name c.kind.result.now ≡ Some c.args.name =
    ap (λ (r : Row). option_map (λ (p : ParamRow). p.name) r.param) (sym c.row.ensures)
    ∙ ap (option_map (λ (p : ParamRow). p.name)) c.in_ok-param.was
    ∙ ap (λ (n : ParamName). let o : Option ParamName = Some n in o) same in
    (c.requires.params.each c.args.node c.args.name low).1 (ap param_name kind ∙ named)
