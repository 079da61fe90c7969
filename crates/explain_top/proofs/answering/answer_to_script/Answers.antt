use Rattle.std.proofs.Common.{◌≡◌, [], Err, ap, rules}
use Rattle.std.proofs.lemmas.Result.{IfOk-weaker}
use Rattle.transcript.specs.Text.{text_of}
use Rattle.explain_top.specs.Answer.{without_file}
use Rattle.explain_top.specs.Words.{shown}
use Rattle.explain_top.specs.declared.status.Status.TheVariants.{NotCompleted}
use Rattle.explain_top.proofs.Telling.{answered_tape, answered_end}
use Rattle.explain_top.proofs.answering.answer_to_script.Goals as goal

pub returns-in-Ok-clause-ok : goal.returns-in-Ok-clause-ok
returns-in-Ok-clause-ok g c =
    let tape = c.in-Ok.ensures.tape in
    IfOk-weaker c.answer_to_tape.result _ _ (λ answer found.
    answered_tape (g.F.Files.tells c.args.files.now) (g.F.Files.paths c.args.files.now) (shown c.args.asked) c.args.script.now (g.F.Files.tells c.make_tape.new.files) (g.F.Files.paths c.make_tape.new.files) c.in-Ok.tape answer
    c.make_tape.ensures.tells c.make_tape.ensures.paths tape.0 tape.1 tape.2 found.0 found.1 found.2) c.answer_to_tape.ensures.ok

pub returns-in_ok-without_file-in-Err-NotCompleted-clause-ok : goal.returns-in_ok-without_file-in-Err-NotCompleted-clause-ok
returns-in_ok-without_file-in-Err-NotCompleted-clause-ok g c =
    let ended = c.in-Err-NotCompleted.ensures.not_completed c.in-Err-NotCompleted.end (ap Err c.in-Err-NotCompleted.field-0-is) in
    let is : c.in_ok-without_file-in-Err-NotCompleted.field-0 ≡ without_file NotCompleted (text_of [] c.in-Err-NotCompleted.end) = search rules in
    answered_end (g.F.Files.tells c.args.files.now) (g.F.Files.paths c.args.files.now) (shown c.args.asked) c.args.script.now _ c.in-Err-NotCompleted.end ended.0 ended.1 ended.2 ended.3 is
