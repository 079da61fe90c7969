use Rattle.std.proofs.Common.{Some, None, arith}
use Rattle.std.proofs.lemmas.Str.Pattern.{strip_suffix_char}
use Rattle.explain.proofs.EndReading.{no_writer, no_reader}
use Rattle.explain.proofs.reading.names.end_of.Goals as goal

pub returns-in_err-number-in-Some : goal.returns-in_err-number-in-Some
returns-in_err-number-in-Some c =
    rw c.from_residual.ensures
    (no_writer c.args.word.now c.in-Some.digits.now (strip_suffix_char 119 c.args.word.now (Some c.in-Some.digits) c.in-Some.ensures.cases (omega arith)) c.in_err-number-in-Some.ensures)

pub returns-in_err-number-in-None : goal.returns-in_err-number-in-None
returns-in_err-number-in-None c =
    rw c.from_residual-in_err-number-in-None.ensures
    (no_reader c.args.word.now (strip_suffix_char 119 c.args.word.now None c.in-None.ensures.cases (omega arith)) c.in_err-number-in-None.ensures)
