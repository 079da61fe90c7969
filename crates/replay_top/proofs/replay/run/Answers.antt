use Rattle.std.proofs.Common.{ℕ, ◌≡◌, List, [], Bool, true, false, Option, None, Some, Err, refl, sym, ◌∙◌, ap, inl}
use Rattle.std.specs.Prelude.{map, string_bytes, unwrap_or}
use Rattle.std.proofs.KnownBytes.{Appends-nil, Keeps-refl}
use Rattle.command_line.specs.Words.{Reading, reading_by_word}
use Rattle.session.specs.Folders.{Folder}
use Rattle.replay_top.specs.declared.status.Status.TheVariants.{BadWords, NoMemory}
use Rattle.replay_top.specs.Run.{IsRead, counts}
use Rattle.replay_top.specs.Words.{asks_source}
use Rattle.replay_top.proofs.Ends.{text_answered, ran, replays, told_bytes, answer_to_bytes-past, ran_read, ran_generated, asks_where, asks_not, IsReadToEnd-answered}
use Rattle.replay_top.proofs.replay.run.Goals as goal

pub returns-in-Ok-None-clause-ran : goal.returns-in-Ok-None-clause-ran
returns-in-Ok-None-clause-ran g c =
    let bytes = unwrap_or (g.S.Source.left c.args.script.now) [] in (
      bytes,
      told_bytes _,
      ((λ n. g.F.Files.paths c.args.files.now), (λ n told q. refl), rw (← c.in-Ok-None.ensures.by_word, c.in-Ok-None.field-0-is) (ran _ _ _ _ _ _ _ (replays _ _ _ _ _ _ _ (text_answered _ BadWords _ _ _ _ _ _ _ _ (λ whole. whole) c.answer_text.ensures.ends)))),
    )

pub returns-in-Ok-clause-ran : goal.returns-in-Ok-clause-ran
returns-in-Ok-clause-ran g c =
    let none : c.in-Ok-Some.reading.generated ≡ None = cc (c.in_default.is, ap (λ (r : Reading). r.generated) c.reading.view_is) in
    let ends = c.replay_bytes.ensures.ends in
    let is = sym c.in-Ok-Some.ensures.by_word ∙ c.in-Ok-Some.field-0-is in
    let count = counts (g.S.Source.faults c.args.script.now) (g.S.Source.faults c.read_all.new.source) (g.F.Files.read_faults c.args.files.now) (g.F.Files.read_faults c.replay_bytes.new.files) in
    (c.in-Ok.bytes, c.in-Ok.ensures.all.0, (ends.0, ends.1, ran_read c.replay_bytes.result (map string_bytes c.args.words.now) c.in-Ok-Some.reading ends.0 c.in-Ok.bytes count _ _ is none c.in-Ok.ensures.all.1 ends.2))

pub returns-in-Ok-clause-read : goal.returns-in-Ok-clause-read
returns-in-Ok-clause-read g c =
    let none : c.in-Ok-Some.reading.generated ≡ None = cc (c.in_default.is, ap (λ (r : Reading). r.generated) c.reading.view_is) in
    let asks = asks_where (map string_bytes c.args.words.now) c.in-Ok-Some.reading (sym c.in-Ok-Some.ensures.by_word ∙ c.in-Ok-Some.field-0-is) none in
    rw asks (IsReadToEnd-answered _ c.in-Ok-Some.reading _ _ _ _ _ _ _ _ _ c.replay_bytes.ensures.ends.2 c.in-Ok.ensures.at_end)

pub returns-in-Ok-None-clause-read : goal.returns-in-Ok-None-clause-read
returns-in-Ok-None-clause-read g c = rw (← c.in-Ok-None.ensures.by_word, c.in-Ok-None.field-0-is) (Keeps-refl _)

pub returns-in-Err-Failed-clause-ran : goal.returns-in-Err-Failed-clause-ran
returns-in-Err-Failed-clause-ran g c =
    let none : c.in-Ok-Some.reading.generated ≡ None = cc (c.in_default.is, ap (λ (r : Reading). r.generated) c.reading.view_is) in
    let bytes = unwrap_or (g.S.Source.left c.args.script.now) [] in (
      bytes,
      told_bytes _,
      (
        (λ n. g.F.Files.paths c.args.files.now),
        (λ n told q. refl),
        record {
          cause = c.in-Err-Failed.ensures.cause (ap Err c.in-Err-Failed.field-0-is);
          read = asks_where (map string_bytes c.args.words.now) c.in-Ok-Some.reading (sym c.in-Ok-Some.ensures.by_word ∙ c.in-Ok-Some.field-0-is) none;
          text = Keeps-refl _;
          files = λ told q. refl;
        },
      ),
    )

pub returns-in-Err-NoMemory-clause-ran : goal.returns-in-Err-NoMemory-clause-ran
returns-in-Err-NoMemory-clause-ran g c =
    let bytes = unwrap_or (g.S.Source.left c.args.script.now) [] in
    (bytes, told_bytes _, ((λ n. g.F.Files.paths c.args.files.now), (λ n told q. refl), inl ((0, Appends-nil (g.T.Sink.written c.args.transcript.now)), λ told q. refl)))

pub returns-in-Err-TooLong-clause-ran : goal.returns-in-Err-TooLong-clause-ran
returns-in-Err-TooLong-clause-ran g c =
    let none : c.in-Ok-Some.reading.generated ≡ None = cc (c.in_default.is, ap (λ (r : Reading). r.generated) c.reading.view_is) in
    let long = c.in-Err-TooLong.ensures.too_long (ap Err c.in-Err-TooLong.field-0-is) in
    let folder : Folder = λ n. g.F.Files.paths c.args.files.now in (
      long.0,
      long.1,
      (
        folder,
        (λ n told q. refl),
        rw (← c.in-Ok-Some.ensures.by_word, c.in-Ok-Some.field-0-is, answer_to_bytes-past c.in-Ok-Some.reading folder long.0 none long.2) (refl, (Appends-nil (g.T.Sink.written c.args.transcript.now), λ told q. refl)),
      ),
    )

-- memory ran out before the words were read
pub returns-in-Err-clause-ran : goal.returns-in-Err-clause-ran
returns-in-Err-clause-ran g c =
    let bytes = unwrap_or (g.S.Source.left c.args.script.now) [] in
    (bytes, told_bytes _, ((λ n. g.F.Files.paths c.args.files.now), (λ n told q. refl), inl ((0, Appends-nil (g.T.Sink.written c.args.transcript.now)), λ told q. refl)))

unread : (asks : Bool) (left : Option (List ℕ)) → IsRead asks NoMemory left left
unread true left = tt
unread false left = Keeps-refl left

pub returns-in-Err-clause-read : goal.returns-in-Err-clause-read
returns-in-Err-clause-read g c = unread (asks_source (reading_by_word (map string_bytes c.args.words.now))) (g.S.Source.left c.args.script.now)

pub returns-in-Err-TooLong-clause-read : goal.returns-in-Err-TooLong-clause-read
returns-in-Err-TooLong-clause-read g c =
    let none : c.in-Ok-Some.reading.generated ≡ None = cc (c.in_default.is, ap (λ (r : Reading). r.generated) c.reading.view_is) in
    let asks = asks_where (map string_bytes c.args.words.now) c.in-Ok-Some.reading (sym c.in-Ok-Some.ensures.by_word ∙ c.in-Ok-Some.field-0-is) none in
    rw asks tt

pub returns-in-Err-Failed-clause-read : goal.returns-in-Err-Failed-clause-read
returns-in-Err-Failed-clause-read g c =
    let none : c.in-Ok-Some.reading.generated ≡ None = cc (c.in_default.is, ap (λ (r : Reading). r.generated) c.reading.view_is) in
    let asks = asks_where (map string_bytes c.args.words.now) c.in-Ok-Some.reading (sym c.in-Ok-Some.ensures.by_word ∙ c.in-Ok-Some.field-0-is) none in
    rw asks tt

pub returns-in-Err-NoMemory-clause-read : goal.returns-in-Err-NoMemory-clause-read
returns-in-Err-NoMemory-clause-read g c =
    let none : c.in-Ok-Some.reading.generated ≡ None = cc (c.in_default.is, ap (λ (r : Reading). r.generated) c.reading.view_is) in
    let asks = asks_where (map string_bytes c.args.words.now) c.in-Ok-Some.reading (sym c.in-Ok-Some.ensures.by_word ∙ c.in-Ok-Some.field-0-is) none in
    rw asks tt

-- where a script is generated, the bytes of the source are any
pub returns-in-Some-clause-ran : goal.returns-in-Some-clause-ran
returns-in-Some-clause-ran g c =
    let some : c.in-Ok-Some.reading.generated ≡ Some c.in-Some.number = cc (c.in-Some.is, ap (λ (r : Reading). r.generated) c.reading.view_is) in
    let bytes = unwrap_or (g.S.Source.left c.args.script.now) [] in
    let ends = c.replay_generated.ensures.ends in
    let is = sym c.in-Ok-Some.ensures.by_word ∙ c.in-Ok-Some.field-0-is in
    let count = counts (g.S.Source.faults c.args.script.now) (g.S.Source.faults c.args.script.now) (g.F.Files.read_faults c.args.files.now) (g.F.Files.read_faults c.replay_generated.new.files) in
    (bytes, told_bytes _, (ends.0, ends.1, ran_generated c.replay_generated.result (map string_bytes c.args.words.now) c.in-Ok-Some.reading ends.0 bytes count _ _ is c.in-Some.number some ends.2))

pub returns-in-Some-clause-read : goal.returns-in-Some-clause-read
returns-in-Some-clause-read g c =
    let some : c.in-Ok-Some.reading.generated ≡ Some c.in-Some.number = cc (c.in-Some.is, ap (λ (r : Reading). r.generated) c.reading.view_is) in
    rw (asks_not (map string_bytes c.args.words.now) c.in-Ok-Some.reading c.in-Some.number (sym c.in-Ok-Some.ensures.by_word ∙ c.in-Ok-Some.field-0-is) some) (Keeps-refl _)
