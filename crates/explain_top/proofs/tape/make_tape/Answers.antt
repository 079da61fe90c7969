use Rattle.std.proofs.Common.{◌≡◌, true, sym, ◌∙◌, ap, subst}
use Rattle.session.specs.Rendering.{completes}
use Rattle.session.specs.Session.{session_of}
use Rattle.explain_top.specs.Tapes.{IsTapeOf}
use Rattle.explain_top.proofs.Taping.{few_quanta, tape_of_session}
use Rattle.explain_top.proofs.tape.make_tape.Goals as goal

pub into_tape-requires : goal.into_tape-requires
into_tape-requires g c =
    let told = c.in-Ok.ensures.outcome in
    let ended : completes (session_of told.0 c.args.script.now).end ≡ true = ap completes (sym told.2.end ∙ c.in-Completed.is) in
    few_quanta told.0 c.args.script.now c.run_observed.new.observer ended told.3 told.4

pub returns-in-Completed-clause-tape : goal.returns-in-Completed-clause-tape
returns-in-Completed-clause-tape g c =
    let told = c.in-Ok.ensures.outcome in
    let ended : completes (session_of told.0 c.args.script.now).end ≡ true = ap completes (sym told.2.end ∙ c.in-Completed.is) in (
      told.0,
      told.1,
      subst (IsTapeOf c.args.script.now.context (session_of told.0 c.args.script.now)) (sym c.in_ok-into_tape-in-Completed.ensures)
          (tape_of_session told.0 c.args.script.now c.run_observed.new.observer ended told.3 told.4),
    )
