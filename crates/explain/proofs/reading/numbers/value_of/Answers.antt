use Rattle.std.proofs.Common.{arith, subst, sym, FitsSigned, w64}
use Rattle.std.specs.Fmt.{signed_decimal}
use Rattle.explain.specs.LineReading.{IsReading}
use Rattle.explain.proofs.NumberReading.{read_signed, not_signed}
use Rattle.explain.proofs.reading.numbers.value_of.Goals as goal

pub returns-then-not-is_plain_signed : goal.returns-then-not-is_plain_signed
returns-then-not-is_plain_signed c = not_signed w64 c.args.word.now (omega arith) (λ plain. let is = c.is_plain_signed.ensures.1 plain in cc (is, c.if-not-is_plain_signed.true))

pub returns : goal.returns
returns c =
    subst (IsReading (FitsSigned w64) signed_decimal c.args.word.now) (sym c.ok.ensures.value)
    (read_signed _ w64 c.args.word.now c.parse.result (omega arith) c.parse.ensures.value.0 (c.is_plain_signed.ensures.0 c.if-not-is_plain_signed.false))
