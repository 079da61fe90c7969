use Rattle.std.proofs.Common.{pos, replicate, arith}
use Rattle.std.specs.Prelude.{All}
use Rattle.std.proofs.lemmas.List.Elements.{All-replicate}
use Rattle.lane_kern.specs.Blocks.{IsWithin}
use Rattle.base_tests.proofs.mixing.connections_add_up_and_are_saturated_once.Goals as goal

zeros_within : All (IsWithin 0) (replicate 4 (pos 0))
zeros_within = All-replicate (IsWithin 0) 4 (pos 0) (omega arith)

pub mix_add-requires-clause-lengths : goal.mix_add-requires-clause-lengths
mix_add-requires-clause-lengths g c = (2, omega arith, omega arith)

pub mix_add-requires-2-clause-lengths : goal.mix_add-requires-2-clause-lengths
mix_add-requires-2-clause-lengths g c = (2, omega arith, omega arith)

pub mix_add-requires-2-clause-room : goal.mix_add-requires-2-clause-room
mix_add-requires-2-clause-room g c = λ k d h. let within = c.mix_add.ensures.room 0 zeros_within k d h in omega arith

pub mix_add-requires-3-clause-lengths : goal.mix_add-requires-3-clause-lengths
mix_add-requires-3-clause-lengths g c = (2, omega arith, omega arith)

pub mix_add-requires-3-clause-room : goal.mix_add-requires-3-clause-room
mix_add-requires-3-clause-room g c = λ k d h.
    let within = c.mix_add-2.ensures.room _ (c.mix_add.ensures.room 0 zeros_within) k d h in
    omega arith
