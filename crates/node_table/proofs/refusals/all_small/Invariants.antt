use Rattle.std.proofs.Common.{◌≡◌, true, take}
use Rattle.node_table.specs.Convolutions.{all_small}
use Rattle.node_table.proofs.refusals.all_small.Given as goal

abbrev pub invariant-loop-at : goal.invariant-loop-at
invariant-loop-at l = all_small (take l.at l.response) ≡ true
