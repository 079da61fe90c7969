use Rattle.std.proofs.Common.{◌^◌, ◌-◌, ◌*◌, ◌≤◌, pos, rules, arith}
use Rattle.std.proofs.lemmas.List.{places}
use Rattle.std.proofs.lemmas.List.Elements.{All-take, All-replicate}
use Rattle.lane_kern.specs.Blocks.{IsWithin}
use Rattle.base_tests.proofs.blocks.is_mixed_by_frames.Goals as goal

pub mix_add-requires-clause-lengths : goal.mix_add-requires-clause-lengths
mix_add-requires-clause-lengths c =
    let few : c.args.to * 37 ≤ 148 = omega arith in
    (37, search (rules, places), search (rules, places))

pub mix_add-requires-clause-room : goal.mix_add-requires-clause-room
mix_add-requires-clause-room c = All-take (IsWithin (2 ^ 47 - 2 ^ 34)) (c.args.to * 37) _ (All-replicate (IsWithin (2 ^ 47 - 2 ^ 34)) 148 (pos 0) (omega arith))
