use Rattle.std.proofs.lemmas.Bool.{leb-true, le-leb}
use Rattle.worklet.proofs.Judging.{inside_from, inside_back}
use Rattle.worklet.proofs.rules.stays_inside.Goals as goal

pub returns : goal.returns
returns c =
    let far = c.most_passed.ensures in (
      λ holds. inside_from c.args.code.now c.args.place c.most_passed.result far.most (leb-true _ _ holds),
      λ inside. le-leb _ _ (inside_back c.args.code.now c.args.place c.most_passed.result far.some inside),
    )
