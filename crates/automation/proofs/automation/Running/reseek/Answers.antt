use Rattle.std.proofs.Common.{◌≡◌, slice_index_or, sym, ap, arith, subst}
use Rattle.law_base.specs.Members.{IsIn}
use Rattle.meaning.specs.declared.params.Param.{Param}
use Rattle.automation.specs.Ready.{param_of}
use Rattle.automation.proofs.Places.{in_list}
use Rattle.automation.proofs.Running.{cost_is}
use Rattle.automation.proofs.automation.Running.reseek.Goals as goal

pub returns-then-not-rests-clause-cost : goal.returns-then-not-rests-clause-cost
returns-then-not-rests-clause-cost g c digits each =
    let params = c.args.params.now in
    let p : Param = c.index-params-self.result in
    let i = c.args.self.now.param in
    let is = subst (λ n. p ≡ slice_index_or params n p) (ap param_of c.self.view_is) c.index-params-self.is in
    let here = c.reseek.ensures.cost (digits p) (each p (subst (λ (x : Param). IsIn x params) (sym is) (in_list params i p c.requires.param))) in
    let cost = cost_is digits params i p c.requires.param is in
    omega (arith, here, cost)
