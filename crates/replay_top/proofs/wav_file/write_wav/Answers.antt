use Rattle.std.proofs.Common.{IsTrue, ap, sym, subst}
use Rattle.std.proofs.lemmas.Result.{on_ok_weaker}
use Rattle.io_edge.proofs.Pieces.{Sets-made}
use Rattle.replay_top.proofs.wav_file.write_wav.Goals as goal

pub returns-clause-all : goal.returns-clause-all
returns-clause-all g c = on_ok_weaker c.append_wav.result (λ added told.
    Sets-made _ _ _ _ _ (rw (ap (λ r. r.out) c.reading.view_is) at (c.in_ok-create.ensures.made told)) (added (subst IsTrue (sym c.in_ok-create.ensures.tells) told))) c.append_wav.ensures.all
