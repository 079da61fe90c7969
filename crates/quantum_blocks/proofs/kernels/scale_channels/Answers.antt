use Rattle.std.proofs.Common.{ℕ, ℤ, List, pos, ◌≡◌, ◌*◌, length, slice_index_or, ◌∙◌, ap, arith}
use Rattle.wa_base.specs.Numbers.{scale}
use Rattle.mix_rules.specs.Blocks.{sample}
use Rattle.channel_mix.proofs.Rows.{part_steady}
use Rattle.channel_mix.proofs.Rows.{lane_length, rows_more, rows_length}
use Rattle.quantum_blocks.proofs.kernels.scale_channels.Goals as goal

pub loop-channel-preserved : goal.loop-channel-preserved
loop-channel-preserved c =
    let q : ℕ = length c.args.gains.now in
    let n : ℕ = c.args.count in
    let channel : ℕ = c.loop-channel.channel in
    let block : List ℤ = c.loop-channel.block in
    let room = c.loop-channel.invariant.length in
    let low = c.loop-channel-test.true in
    let part = lane_length q n channel block room low in
    let long : length c.gain_into.new.out ≡ q = c.gain_into.ensures.length ∙ part in
    record {
      length = rows_length q n channel block c.gain_into.new.out room low long ∙ room;
      so_far = rows_more q n channel (λ k m. scale (sample q c.args.heard.now k m) (slice_index_or c.args.gains.now m (pos 0))) block c.gain_into.new.out room low long c.loop-channel.invariant.so_far
          (λ m now. c.gain_into.ensures.values m (omega (arith, part, now)) ∙ ap (λ x. scale x (slice_index_or c.args.gains.now m (pos 0))) (part_steady (channel * q) q c.args.heard.now m now));
    }
