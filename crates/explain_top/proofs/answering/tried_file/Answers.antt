use Rattle.std.proofs.Common.{Some, subst}
use Rattle.wa_base.specs.Contexts.{quantum_of}
use Rattle.derivations.specs.Tapes.{worlds}
use Rattle.explain_top.specs.Answer.{IsTried}
use Rattle.explain_top.proofs.Telling.{found_bytes, file_tried, long_file}
use Rattle.explain_top.proofs.answering.tried_file.Goals as goal

pub returns-in_ok-tried-in-Ok-Bytes-clause-ok : goal.returns-in_ok-tried-in-Ok-Bytes-clause-ok
returns-in_ok-tried-in-Ok-Bytes-clause-ok g c =
    let q = quantum_of c.args.spec in
    let tape = worlds c.args.tape.now in (
      Some c.in-Ok-Bytes.bytes,
      (λ told. found_bytes _ c.in-Ok-Bytes.field-0 c.in-Ok-Bytes.bytes c.in-Ok-Bytes.field-0-is (c.in-Ok-Bytes.ensures.found told)),
      file_tried q tape c.in-Ok-Bytes.field-0 c.in-Ok-Bytes.bytes _ c.in-Ok-Bytes.field-0-is c.in-Ok-Bytes.ensures.within
          (subst (λ bytes. IsTried q tape bytes c.in_ok-tried-in-Ok-Bytes.field-0) c.as_slice.ensures c.in_ok-tried-in-Ok-Bytes.ensures.ok),
    )

pub returns-in_ok-invalid-in-Ok-TooLong-clause-ok : goal.returns-in_ok-invalid-in-Ok-TooLong-clause-ok
returns-in_ok-invalid-in-Ok-TooLong-clause-ok g c =
    long_file (quantum_of c.args.spec) (worlds c.args.tape.now) (g.F.Files.tells c.args.files.now) (g.F.Files.paths c.args.files.now c.args.path.now) c.in-Ok-TooLong.field-0 c.in-Ok-TooLong.field-0-0 c.in_ok-invalid-in-Ok-TooLong.field-0
    c.in-Ok-TooLong.field-0-is c.in-Ok-TooLong.ensures.within c.in-Ok-TooLong.ensures.found c.in_ok-invalid-in-Ok-TooLong.ensures
