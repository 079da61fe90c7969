use Rattle.std.proofs.Common.{ap, ◌∙◌, Err, inr}
use Rattle.answers.specs.Outside.{outside}
use Rattle.prune_top.proofs.Ending.{gave, file_failed, text_failed, cut_short, ran_whole, read_whole, read_text, read_file}
use Rattle.prune_top.proofs.program.run.Goals as goal

pub returns-in-Ok-give-clause-ran : goal.returns-in-Ok-give-clause-ran
returns-in-Ok-give-clause-ran g c =
    let after = outside (g.T.Sink.written c.give.new.sink) (g.T.Sink.faults c.give.new.sink) (g.F.Files.tells c.give.new.files) (g.F.Files.paths c.give.new.files) (g.F.Files.write_faults c.give.new.files) in
    ran_whole c.answer.inside.status (g.S.Source.left c.args.script.now) (g.F.Files.tells c.args.files.now) (g.F.Files.paths c.args.files.now) _ c.in-Ok.answer (g.S.Source.left c.answer_to_words.new.script) _ _ _ after
    (ap (λ a. a.status) c.answer.view_is) c.in-Ok.ensures.ok c.in-Ok.ensures.end
    (gave (g.T.Sink.written c.args.out.now) (g.T.Sink.faults c.args.out.now) (g.F.Files.tells c.args.files.now) (g.F.Files.tells c.answer_to_words.new.files) (g.F.Files.paths c.args.files.now) (g.F.Files.paths c.answer_to_words.new.files)
    (g.F.Files.write_faults c.args.files.now) (g.F.Files.write_faults c.answer_to_words.new.files) after c.answer_to_words.ensures.tells c.answer_to_words.ensures.paths c.answer_to_words.ensures.writes c.in-Ok.answer c.as_slice.result.now c.out_file.result
    (c.as_slice.ensures ∙ ap (λ a. a.text) c.answer.view_is) c.out_file.ensures c.in-Ok-give.ensures.whole)

pub returns-in-Ok-give-clause-read : goal.returns-in-Ok-give-clause-read
returns-in-Ok-give-clause-read g c =
    read_whole c.answer.inside.status _ c.in-Ok.answer (g.S.Source.left c.args.script.now) (g.S.Source.left c.answer_to_words.new.script) (ap (λ a. a.status) c.answer.view_is) c.answer_to_words.ensures.unread c.in-Ok.ensures.end

pub returns-in-Err-Text-clause-read : goal.returns-in-Err-Text-clause-read
returns-in-Err-Text-clause-read g c =
    let after = outside (g.T.Sink.written c.give.new.sink) (g.T.Sink.faults c.give.new.sink) (g.F.Files.tells c.give.new.files) (g.F.Files.paths c.give.new.files) (g.F.Files.write_faults c.give.new.files) in
    read_text _ c.in-Ok.answer (g.S.Source.left c.args.script.now) (g.S.Source.left c.answer_to_words.new.script) _ after c.answer_to_words.ensures.unread c.in-Ok.ensures.end
    (text_failed (g.T.Sink.written c.args.out.now) (g.T.Sink.faults c.args.out.now) (g.F.Files.tells c.args.files.now) (g.F.Files.tells c.answer_to_words.new.files) (g.F.Files.paths c.args.files.now) (g.F.Files.paths c.answer_to_words.new.files)
    (g.F.Files.write_faults c.args.files.now) (g.F.Files.write_faults c.answer_to_words.new.files) after c.answer_to_words.ensures.tells c.answer_to_words.ensures.paths c.answer_to_words.ensures.writes c.in-Ok.answer c.as_slice.result.now c.out_file.result
    (c.as_slice.ensures ∙ ap (λ a. a.text) c.answer.view_is) c.out_file.ensures (c.in-Err-Text.ensures.text_fault (ap Err c.in-Err-Text.field-0-is)))

pub returns-in-Err-File-clause-ran : goal.returns-in-Err-File-clause-ran
returns-in-Err-File-clause-ran g c =
    let after = outside (g.T.Sink.written c.give.new.sink) (g.T.Sink.faults c.give.new.sink) (g.F.Files.tells c.give.new.files) (g.F.Files.paths c.give.new.files) (g.F.Files.write_faults c.give.new.files) in (
      c.in-Ok.answer,
      c.in-Ok.ensures.ok,
      file_failed (g.T.Sink.written c.args.out.now) (g.T.Sink.faults c.args.out.now) (g.F.Files.tells c.args.files.now) (g.F.Files.tells c.answer_to_words.new.files) (g.F.Files.paths c.args.files.now) (g.F.Files.paths c.answer_to_words.new.files)
          (g.F.Files.write_faults c.args.files.now) (g.F.Files.write_faults c.answer_to_words.new.files) after c.answer_to_words.ensures.tells c.answer_to_words.ensures.paths c.answer_to_words.ensures.writes c.in-Ok.answer c.as_slice.result.now c.out_file.result
          (c.as_slice.ensures ∙ ap (λ a. a.text) c.answer.view_is) c.out_file.ensures (c.in-Err-File.ensures.file_fault (ap Err c.in-Err-File.field-0-is)),
    )

pub returns-in-Err-File-clause-read : goal.returns-in-Err-File-clause-read
returns-in-Err-File-clause-read g c =
    let after = outside (g.T.Sink.written c.give.new.sink) (g.T.Sink.faults c.give.new.sink) (g.F.Files.tells c.give.new.files) (g.F.Files.paths c.give.new.files) (g.F.Files.write_faults c.give.new.files) in
    read_file _ c.in-Ok.answer (g.S.Source.left c.args.script.now) (g.S.Source.left c.answer_to_words.new.script) _ after c.answer_to_words.ensures.unread c.in-Ok.ensures.end
    (file_failed (g.T.Sink.written c.args.out.now) (g.T.Sink.faults c.args.out.now) (g.F.Files.tells c.args.files.now) (g.F.Files.tells c.answer_to_words.new.files) (g.F.Files.paths c.args.files.now) (g.F.Files.paths c.answer_to_words.new.files)
    (g.F.Files.write_faults c.args.files.now) (g.F.Files.write_faults c.answer_to_words.new.files) after c.answer_to_words.ensures.tells c.answer_to_words.ensures.paths c.answer_to_words.ensures.writes c.in-Ok.answer c.as_slice.result.now c.out_file.result
    (c.as_slice.ensures ∙ ap (λ a. a.text) c.answer.view_is) c.out_file.ensures (c.in-Err-File.ensures.file_fault (ap Err c.in-Err-File.field-0-is)))

pub returns-clause-ran : goal.returns-clause-ran
returns-clause-ran g c =
    let after = outside (g.T.Sink.written c.give.new.sink) (g.T.Sink.faults c.give.new.sink) (g.F.Files.tells c.give.new.files) (g.F.Files.paths c.give.new.files) (g.F.Files.write_faults c.give.new.files) in
    inr (
      c.in-Ok.answer,
      c.in-Ok.ensures.ok,
      cut_short (g.T.Sink.written c.args.out.now) (g.T.Sink.faults c.args.out.now) (g.F.Files.tells c.args.files.now) (g.F.Files.tells c.answer_to_words.new.files) (g.F.Files.paths c.args.files.now) (g.F.Files.paths c.answer_to_words.new.files)
          (g.F.Files.write_faults c.args.files.now) (g.F.Files.write_faults c.answer_to_words.new.files) after c.answer_to_words.ensures.tells c.answer_to_words.ensures.paths c.answer_to_words.ensures.writes c.in-Ok.answer c.as_slice.result.now c.out_file.result
          (c.as_slice.ensures ∙ ap (λ a. a.text) c.answer.view_is) c.out_file.ensures (c.in-Err-NoMemory-give.ensures.cut_short (ap Err c.in-Err-NoMemory-give.field-0-is)),
    )
