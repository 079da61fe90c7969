use Rattle.std.proofs.Common.{◌≡◌, ◌<◌, ◌≤◌, [], ap, sym, ◌∙◌, subst, get_or, arith, rules, to_z, of_z, FitsSigned, length}
use Rattle.std.specs.Fmt.{signed_decimal}
use Rattle.std.specs.Int.{w32}
use Rattle.std.proofs.lemmas.Int.{to_z-of_z}
use Rattle.std.proofs.lemmas.List.{length-set}
use Rattle.std.proofs.lemmas.List.Elements.{AllWithin-more_set}
use Rattle.wa_base.specs.Numbers.{IsFix}
use Rattle.explain.specs.LineReading.{words_left}
use Rattle.explain.proofs.CellReading.{no_sixteen, one_more, too_long, all_read, are_cells}
use Rattle.explain.proofs.reading.cells.take_sixteen.Goals as goal

pub returns-in_err-word : goal.returns-in_err-word
returns-in_err-word c =
    let loop = c.loop-cell in
    rw c.from_residual.ensures
    (no_sixteen (words_left c.args.words.now) (words_left loop.words) loop.cell-items loop.cell-index loop.invariant.read (omega (arith, c.loop-cell-test.true))
    (λ v more fix same. let none = c.in_err-word.ensures.steps in cc))

pub returns-in_err-cell : goal.returns-in_err-cell
returns-in_err-cell c =
    let loop = c.loop-cell in
    rw c.from_residual-in_err-cell.ensures
    (no_sixteen (words_left c.args.words.now) (words_left loop.words) loop.cell-items loop.cell-index loop.invariant.read (omega (arith, c.loop-cell-test.true))
    (λ v more fix same. c.in_err-cell.ensures v fix (ap (λ ws. get_or ws 0 []) (same ∙ c.in_ok-word.ensures.steps))))

pub loop-cell-preserved : goal.loop-cell-preserved
loop-cell-preserved c =
    let loop = c.loop-cell in
    let inv = loop.invariant in
    let cell = c.in_ok-cell.ensures in
    let short : loop.cell-index < length loop.cell-items = omega (arith, inv.sixteen, c.loop-cell-test.true) in
    let fits : FitsSigned w32 c.in_ok-cell.field-0 = search rules in
    let same : to_z w32 (of_z w32 c.in_ok-cell.field-0) ≡ c.in_ok-cell.field-0 = to_z-of_z _ _ fits in
    record {
      read = one_more (words_left c.args.words.now) (words_left loop.words) loop.cell-items loop.cell-index inv.read _ c.in_ok-word.word.now (words_left c.next.new.self) short c.in_ok-word.ensures.steps
          (ap signed_decimal same ∙ cell.1);
      sixteen = length-set loop.cell-items loop.cell-index _ ∙ inv.sixteen;
      fix = AllWithin-more_set loop.cell-items loop.cell-index _ short IsFix inv.fix (subst IsFix (sym same) cell.0);
    }

pub returns-in-None : goal.returns-in-None
returns-in-None c =
    let loop = c.loop-cell in
    let inv = loop.invariant in
    let many : length loop.cell-items ≤ loop.cell-index = omega (arith, inv.sixteen, c.loop-cell-test.false) in (
      are_cells loop.cell-items loop.cell-index inv.sixteen many inv.fix,
      all_read (words_left c.args.words.now) (words_left loop.words) loop.cell-items loop.cell-index inv.read many c.in-None.ensures.steps.0,
    )

pub returns-in-Some : goal.returns-in-Some
returns-in-Some c =
    let loop = c.loop-cell in
    too_long (words_left c.args.words.now) (words_left loop.words) loop.cell-items loop.cell-index loop.invariant.read c.loop-cell-test.false loop.invariant.sixteen c.in-Some.field-0.now (words_left c.next-2.new.self)
    c.in-Some.ensures.steps
