use Rattle.std.proofs.Common.{ap, FitsSigned, rules}
use Rattle.std.specs.Int.{w64}
use Rattle.std.proofs.lemmas.Int.{to_z-of_z}
use Rattle.param_events.specs.Timeline.{Timeline}
use Rattle.meaning.specs.declared.params.Param.{Param}
use Rattle.meaning.proofs.Automating.{once_made}
use Rattle.meaning.proofs.params.Param.edit.Goals as goal

pub returns-in-Cancel-clause-ok : goal.returns-in-Cancel-clause-ok
returns-in-Cancel-clause-ok c =
    let fits : FitsSigned w64 c.in-Cancel.time = search rules in
    once_made c.made-in-Cancel.result c.cancel.result c.made-in-Cancel.ensures.ok c.cancel.ensures.ok
    (λ is. rw c.in-Cancel.is (ap (λ (line : Timeline). let p : Param = record c.args.self.now { line = line } in p) (simp (to_z-of_z _ _ fits) at is)))
