use Rattle.std.proofs.Common.{refl, inl}
use Rattle.std.proofs.KnownBytes.{Appends-nil}
use Rattle.replay_top.proofs.replay.replay_generated.Goals as goal

pub returns-in-Err-clause-ends : goal.returns-in-Err-clause-ends
returns-in-Err-clause-ends g c =
    ((λ n. g.F.Files.paths c.args.files.now), (λ n told q. refl), inl ((0, Appends-nil (g.T.Sink.written c.args.transcript.now)), λ told q. refl))
