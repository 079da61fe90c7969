use Rattle.std.proofs.Common.{◌≡◌, drop}
use Rattle.std.specs.Prelude.{⊤}
use Rattle.json_tree.specs.View.{view}
use Rattle.script_fields.specs.Fields.{fields_faults}
use Rattle.script_fields.specs.Outcome.{outcome}
use Rattle.script_fields.proofs.members.check_fields.Given as goal

abbrev pub invariant-loop-row : goal.invariant-loop-row
invariant-loop-row l = outcome {A = ⊤} (fields_faults l.clock l.ordinal (view l.object) l.rows) tt
    ≡ outcome {A = ⊤} (fields_faults l.clock l.ordinal (view l.object) (drop l.row-index l.rows)) tt
