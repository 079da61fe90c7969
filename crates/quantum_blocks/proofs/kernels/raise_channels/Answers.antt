use Rattle.std.proofs.Common.{rules, ℕ, ℤ, List, pos, ◌≡◌, ◌*◌, ◌+ℤ◌, length, slice_index_or, ◌∙◌, ap₂, arith, FitsSigned}
use Rattle.std.specs.Int.{w32}
use Rattle.std.proofs.lemmas.Int.{to_z-of_z}
use Rattle.wa_base.specs.Numbers.{sat}
use Rattle.mix_rules.specs.Blocks.{sample}
use Rattle.channel_mix.proofs.Rows.{lane_length, part_steady, rows_more, rows_length}
use Rattle.quantum_blocks.proofs.kernels.raise_channels.Goals as goal

pub loop-channel-preserved : goal.loop-channel-preserved
loop-channel-preserved c =
    let q : ℕ = c.args.frames in
    let n : ℕ = length c.args.held.now in
    let channel : ℕ = c.loop-channel.channel in
    let block : List ℤ = c.loop-channel.block in
    let room = c.loop-channel.invariant.length in
    let low = c.loop-channel-test.true in
    let part = lane_length q n channel block room low in
    let long : length c.raise_all.new.block ≡ q = c.raise_all.ensures.length ∙ part in
    let fits : FitsSigned w32 (slice_index_or c.args.held.now channel (pos 0)) = search rules in
    record {
      length = rows_length q n channel block c.raise_all.new.block room low long ∙ room;
      so_far = rows_more q n channel (λ k m. sat (sample q c.args.heard.now k m +ℤ slice_index_or c.args.held.now k (pos 0))) block c.raise_all.new.block room low long c.loop-channel.invariant.so_far
          (λ m now. c.raise_all.ensures.values m (omega (arith, part, now)) ∙ ap₂ (λ (x y : ℤ). sat (x +ℤ y)) (part_steady (channel * q) q c.args.heard.now m now) (to_z-of_z _ _ fits));
    }
