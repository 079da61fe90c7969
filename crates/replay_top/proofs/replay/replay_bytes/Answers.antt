use Rattle.std.proofs.Common.{◌≡◌, Err, refl, inl, rules}
use Rattle.std.proofs.KnownBytes.{Appends-nil}
use Rattle.script_json.specs.Script.{script_of}
use Rattle.replay_top.specs.declared.status.Status.TheVariants.{BadScript}
use Rattle.replay_top.proofs.Ends.{text_answered, replays}
use Rattle.replay_top.proofs.replay.replay_bytes.Goals as goal

pub returns-in-Err-NoMemory-clause-ends : goal.returns-in-Err-NoMemory-clause-ends
returns-in-Err-NoMemory-clause-ends g c =
    ((λ n. g.F.Files.paths c.args.files.now), (λ n told q. refl), inl ((0, Appends-nil (g.T.Sink.written c.args.transcript.now)), λ told q. refl))

pub returns-in-Err-clause-ends : goal.returns-in-Err-clause-ends
returns-in-Err-clause-ends g c =
    let fault : script_of c.args.bytes ≡ Err c.in-Err.fault = search rules in (
      (λ n. g.F.Files.paths c.args.files.now),
      (λ n told q. refl),
      rw fault (replays _ _ _ _ _ _ _ (text_answered _ BadScript _ _ _ _ _ _ _ _ (λ whole. whole) c.answer_fault.ensures.ends)),
    )
