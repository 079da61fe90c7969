use Rattle.std.proofs.Common.{◌<◌, ◌^◌, arith, subst, sym, decimal}
use Rattle.explain.specs.LineReading.{IsReading}
use Rattle.explain.proofs.NumberReading.{read_unsigned, not_unsigned}
use Rattle.explain.proofs.reading.numbers.index_of.Goals as goal

pub returns-then-not-is_plain : goal.returns-then-not-is_plain
returns-then-not-is_plain c = not_unsigned 32 c.args.word.now (omega arith) (λ plain. let is = c.is_plain.ensures.1 plain in cc (is, c.if-not-is_plain.true))

pub returns : goal.returns
returns c =
    subst (IsReading (λ n. n < 2 ^ 32) decimal c.args.word.now) (sym c.ok.ensures.value)
    (read_unsigned _ 32 c.args.word.now c.parse.result (omega arith) c.parse.ensures.value.0 (c.is_plain.ensures.0 c.if-not-is_plain.false))
