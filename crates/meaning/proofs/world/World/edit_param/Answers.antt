use Rattle.std.proofs.Common.{List, ap, sym, ◌∙◌}
use Rattle.conn_graph.specs.Edges.{same_param}
use Rattle.meaning.specs.declared.params.Param.{Param}
use Rattle.meaning.specs.World.{plain}
use Rattle.meaning.specs.Automation.{param_edited, with_params}
use Rattle.meaning.proofs.OneChanged.{none_changed}
use Rattle.meaning.proofs.Automating.{rewritten_is, kept_in_place, if_made, if_not_made}
use Rattle.meaning.proofs.world.World.edit_param.Goals as goal

-- the parameter is changed in its place
pub returns-clause-ok : goal.returns-clause-ok
returns-clause-ok c =
    if_made c.edit.result c.edit.ensures.ok
    (λ is. ap (λ (ps : List Param). with_params (plain c.args.self.now) ps)
    (rewritten_is c.args.self.now c.args.id c.in-Some.place c.at_mut.result.now c.edit.new.self (param_edited c.args.now c.args.edit.now) c.requires.valid (sym c.find.ensures.place ∙ c.in-Some.is) c.at_mut.ensures.value is))

pub returns-clause-err : goal.returns-clause-err
returns-clause-err c =
    if_not_made c.edit.result c.edit.ensures.err
    (λ is. ap (λ (ps : List Param). with_params (plain c.args.self.now) ps) (kept_in_place c.args.self.now.params.items c.in-Some.place c.at_mut.result.now c.edit.new.self c.at_mut.ensures.value is))

-- a world that lacks the parameter stays
pub returns-in_default-clause-ok : goal.returns-in_default-clause-ok
returns-in_default-clause-ok c =
    ap (λ (ps : List Param). with_params (plain c.args.self.now) ps)
    (sym (none_changed (λ (p : Param). same_param p.id c.args.id) (param_edited c.args.now c.args.edit.now) c.args.self.now.params.items (sym c.find.ensures.place ∙ c.in_default.is)))
