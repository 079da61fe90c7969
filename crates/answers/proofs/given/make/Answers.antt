use Rattle.std.proofs.Common.{IsTrue, sym, subst}
use Rattle.std.proofs.lemmas.Result.{on_ok_weaker}
use Rattle.io_edge.proofs.Pieces.{Sets-made}
use Rattle.answers.proofs.given.make.Goals as goal

pub returns-clause-all : goal.returns-clause-all
returns-clause-all g c = on_ok_weaker c.append_all.result (λ added told.
    Sets-made _ _ _ _ _ (c.in_ok-create.ensures.made told) (added (subst IsTrue (sym c.in_ok-create.ensures.tells) told))) c.append_all.ensures.all
