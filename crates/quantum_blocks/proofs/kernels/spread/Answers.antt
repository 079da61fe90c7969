use Rattle.std.proofs.Common.{rules, ℕ, ℤ, List, pos, ◌≡◌, length, slice_index_or, ◌∙◌, arith, FitsSigned}
use Rattle.std.specs.Int.{w32}
use Rattle.std.proofs.lemmas.Int.{to_z-of_z}
use Rattle.channel_mix.proofs.Rows.{lane_length, rows_more, rows_length}
use Rattle.quantum_blocks.proofs.kernels.spread.Goals as goal

pub loop-channel-preserved : goal.loop-channel-preserved
loop-channel-preserved c =
    let q : ℕ = c.args.frames in
    let n : ℕ = length c.args.held.now in
    let channel : ℕ = c.loop-channel.channel in
    let out : List ℤ = c.loop-channel.out in
    let room = c.loop-channel.invariant.length in
    let low = c.loop-channel-test.true in
    let part = lane_length q n channel out room low in
    let long : length c.fill.new.block ≡ q = c.fill.ensures.length ∙ part in
    let fits : FitsSigned w32 (slice_index_or c.args.held.now channel (pos 0)) = search rules in
    record {
      length = rows_length q n channel out c.fill.new.block room low long ∙ room;
      so_far = rows_more q n channel (λ k m. slice_index_or c.args.held.now k (pos 0)) out c.fill.new.block room low long c.loop-channel.invariant.so_far
          (λ m now. c.fill.ensures.values m (omega (arith, part, now)) ∙ to_z-of_z _ _ fits);
    }
