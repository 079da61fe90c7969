use Rattle.std.specs.Int.{w64}
use Rattle.std.proofs.lemmas.Int.{to_z-of_z}
use Rattle.explain.proofs.FactReading.{no_key, no_value, no_cells, fact_is_read}
use Rattle.explain.proofs.reading.fact_of.Goals as goal

pub returns-in_err-key : goal.returns-in_err-key
returns-in_err-key c = rw c.from_residual.ensures (no_key c.args.text.now c.in_err-key.ensures)

pub returns-in_err-value : goal.returns-in_err-value
returns-in_err-value c =
    let key = c.in_ok-key.ensures in
    rw c.from_residual-in_err-value.ensures (no_value c.args.text.now c.in_ok-key.key _ key.0 key.1 c.in_err-value.ensures)

pub returns-in_err-cells : goal.returns-in_err-cells
returns-in_err-cells c =
    let key = c.in_ok-key.ensures in
    let value = c.in_ok-value.ensures in
    rw c.from_residual-in_err-cells.ensures (no_cells c.args.text.now c.in_ok-key.key _ key.0 key.1 c.in_ok-value.value _ value.1 c.in_err-cells.ensures)

pub returns : goal.returns
returns c =
    let value = c.in_ok-value.ensures in
    rw (to_z-of_z w64 c.in_ok-value.value value.0)
    (fact_is_read c.args.text.now c.in_ok-key.key c.in_ok-value.value c.in_ok-cells.cells _ _ c.in_ok-key.ensures value c.in_ok-cells.ensures)
