use Rattle.std.proofs.Common.{ap, refl, subst}
use Rattle.filter_bank.specs.Heard.{HeardView, IsSame}
use Rattle.filter_bank.proofs.causal_node.CausalNode.grow.Goals as goal

pub returns-clause-same : goal.returns-clause-same
returns-clause-same c =
    subst (λ (f : HeardView). IsSame f (record { birth = c.self.inside.birth; time = c.self.inside.time; state = c.grow.new.self })) c.self.view_is (record {
      birth = refl;
      time = refl;
      outputs = λ frames. ap (λ g. g frames) c.grow.ensures.value;
      stands_on = c.grow.ensures.stands;
      stood = c.grow.ensures.back;
    })
