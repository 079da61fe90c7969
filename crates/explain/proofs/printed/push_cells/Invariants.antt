use Rattle.std.proofs.Common.{◌≡◌, ◌++◌, drop, flat_map}
use Rattle.explain.specs.Texts as spec
use Rattle.explain.proofs.printed.push_cells.Given as goal

abbrev pub invariant-loop-cell : goal.invariant-loop-cell
invariant-loop-cell l = l.initial.out.items ++ flat_map spec.cell_text l.cells ≡ l.out.items ++ flat_map spec.cell_text (drop l.cell-index l.cells)
