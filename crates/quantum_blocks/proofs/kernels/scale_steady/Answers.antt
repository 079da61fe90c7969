use Rattle.std.proofs.Common.{rules, ℕ, ℤ, List, pos, ◌≡◌, length, slice_index_or, ◌∙◌, ap, arith, FitsSigned}
use Rattle.std.specs.Int.{w32}
use Rattle.std.proofs.lemmas.Int.{to_z-of_z}
use Rattle.wa_base.specs.Numbers.{scale}
use Rattle.channel_mix.proofs.Rows.{lane_length, rows_more, rows_length}
use Rattle.quantum_blocks.proofs.kernels.scale_steady.Goals as goal

pub loop-channel-preserved : goal.loop-channel-preserved
loop-channel-preserved c =
    let q : ℕ = length c.args.gains.now in
    let n : ℕ = length c.args.held.now in
    let channel : ℕ = c.loop-channel.channel in
    let block : List ℤ = c.loop-channel.block in
    let room = c.loop-channel.invariant.length in
    let low = c.loop-channel-test.true in
    let part = lane_length q n channel block room low in
    let long : length c.scale_one.new.block ≡ q = c.scale_one.ensures.length ∙ part in
    let fits : FitsSigned w32 (slice_index_or c.args.held.now channel (pos 0)) = search rules in
    record {
      length = rows_length q n channel block c.scale_one.new.block room low long ∙ room;
      so_far = rows_more q n channel (λ k m. scale (slice_index_or c.args.held.now k (pos 0)) (slice_index_or c.args.gains.now m (pos 0))) block c.scale_one.new.block room low long c.loop-channel.invariant.so_far
          (λ m now. c.scale_one.ensures.values m (omega (arith, part, now)) ∙ ap (λ x. scale x (slice_index_or c.args.gains.now m (pos 0))) (to_z-of_z _ _ fits));
    }
