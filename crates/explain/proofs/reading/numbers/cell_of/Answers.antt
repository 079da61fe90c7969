use Rattle.std.proofs.Common.{subst, sym}
use Rattle.std.specs.Fmt.{signed_decimal}
use Rattle.wa_base.specs.Numbers.{IsFix}
use Rattle.explain.specs.LineReading.{IsReading}
use Rattle.explain.proofs.NumberReading.{read_cell, not_cell}
use Rattle.explain.proofs.reading.numbers.cell_of.Goals as goal

pub returns-then-not-is_plain_signed : goal.returns-then-not-is_plain_signed
returns-then-not-is_plain_signed c = not_cell c.args.word.now (λ plain. let is = c.is_plain_signed.ensures.1 plain in cc (is, c.if-not-is_plain_signed.true))

pub returns : goal.returns
returns c =
    subst (IsReading IsFix signed_decimal c.args.word.now) (sym c.ok.ensures.value)
    (read_cell _ c.args.word.now c.parse.result c.parse.ensures.value.0 (c.is_plain_signed.ensures.0 c.if-not-is_plain_signed.false))
