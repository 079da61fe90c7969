use Rattle.std.proofs.Common.{◌≡◌, None, Some, Err, map, ap, rules}
use Rattle.std.specs.Prelude.{string_bytes}
use Rattle.prune_top.specs.Words.{out_of}
use Rattle.prune_top.proofs.Telling.{answered_words, answered_long}
use Rattle.prune_top.proofs.answering.answer_to_words.Goals as goal

pub returns-in_default-clause-ok : goal.returns-in_default-clause-ok
returns-in_default-clause-ok g c =
    let none : out_of (map string_bytes c.args.words.now) ≡ None = search rules in
    answered_words (g.S.Source.left c.args.script.now) (g.F.Files.tells c.args.files.now) (g.F.Files.paths c.args.files.now) _ c.in_ok-without_file.field-0 none c.in_ok-without_file.ensures

pub returns-in_ok-without_file-in-Err-TooLong-clause-ok : goal.returns-in_ok-without_file-in-Err-TooLong-clause-ok
returns-in_ok-without_file-in-Err-TooLong-clause-ok g c =
    let some : out_of (map string_bytes c.args.words.now) ≡ Some c.in-Some.out.now = search rules in
    let long = c.in-Err-TooLong.ensures.too_long (ap Err c.in-Err-TooLong.field-0-is) in
    answered_long (g.S.Source.left c.args.script.now) (g.F.Files.tells c.args.files.now) (g.F.Files.paths c.args.files.now) _ c.in_ok-without_file-in-Err-TooLong.field-0 c.in-Some.out.now some long.0 long.1 long.2
    c.in_ok-without_file-in-Err-TooLong.ensures
