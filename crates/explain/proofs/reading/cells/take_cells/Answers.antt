use Rattle.std.proofs.Common.{◌∙◌, ap, not}
use Rattle.explain.proofs.CellReading.{no_cells}
use Rattle.explain.proofs.reading.cells.take_cells.Goals as goal

pub returns-in_err-cells : goal.returns-in_err-cells
returns-in_err-cells c = rw c.from_residual.ensures (no_cells c.args.words.now (c.is_none.ensures ∙ ap not c.if-is_none.false) c.in_err-cells.ensures)
