use Rattle.std.proofs.Common.{rules, ◌≡◌, ◌∙◌, map, string_bytes, None}
use Rattle.command_line.specs.Words.{reading}
use Rattle.command_line.proofs.WordByWord.{read_word_by_word}
use Rattle.command_line.proofs.reading.reading_of.Goals as goal

pub returns-in-Ok-Some-clause-by_word : goal.returns-in-Ok-Some-clause-by_word
returns-in-Ok-Some-clause-by_word c =
    let by_clap : c.reading_in.result ≡ reading (map string_bytes c.args.words.now) = search rules in
    by_clap ∙ read_word_by_word c.args.words.now

pub returns-in-Ok-None-clause-by_word : goal.returns-in-Ok-None-clause-by_word
returns-in-Ok-None-clause-by_word c =
    let by_clap : None ≡ reading (map string_bytes c.args.words.now) = search rules in
    by_clap ∙ read_word_by_word c.args.words.now
