use Rattle.std.proofs.Common.{refl, ap, inl, arith}
use Rattle.std.proofs.KnownBytes.{Appends-nil}
use Rattle.command_line.specs.Words.{renders}
use Rattle.replay_top.proofs.Ends.{replays, answers_since}
use Rattle.replay_top.proofs.Outcomes.{writable, runs_supported, rendering_answered}
use Rattle.replay_top.proofs.replay.replay_script.Goals as goal

pub answer_outcome-requires-clause-writable : goal.answer_outcome-requires-clause-writable
answer_outcome-requires-clause-writable g c =
    let outcome = c.in-Ok.ensures.outcome in
    rw outcome.2.rendered (writable _ outcome.0 c.args.script.now)

pub answer_outcome-requires-clause-rate : goal.answer_outcome-requires-clause-rate
answer_outcome-requires-clause-rate g c = λ ran.
    let outcome = c.in-Ok.ensures.outcome in
    let supported = runs_supported outcome.0 c.args.script.now (rw outcome.2.end at ran) in
    omega (arith, supported.rate_low)

pub returns-in-Ok-clause-ends : goal.returns-in-Ok-clause-ends
returns-in-Ok-clause-ends g c =
    let outcome = c.in-Ok.ensures.outcome in
    let audio = c.renders.ensures in
    let mode = ap (λ r. renders r.mode) c.reading.view_is in (
      outcome.0,
      outcome.1,
      replays _ _ _ _ _ _ _ (answers_since _ _ _ _ _ _ _ c.in-Ok.ensures.paths _ _ (rw (← rendering_answered c.args.reading.now outcome.0 c.args.script.now, ← mode)
          (rw (outcome.2.lines, outcome.2.end, outcome.2.quanta, outcome.2.rendered, c.in-Ok.ensures.tells, c.in-Ok.ensures.writes, audio) at c.answer_outcome.ensures.ends))),
    )

pub returns-in-Err-NoMemory-clause-ends : goal.returns-in-Err-NoMemory-clause-ends
returns-in-Err-NoMemory-clause-ends g c =
    ((λ n. g.F.Files.paths c.args.files.now), (λ n told q. refl), inl ((0, Appends-nil (g.T.Sink.written c.args.transcript.now)), c.in-Err-NoMemory.ensures.paths))
