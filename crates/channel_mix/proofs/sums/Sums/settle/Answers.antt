use Rattle.std.proofs.Common.{ℕ, ℤ, List, ◌≡◌, ◌<◌, ◌+◌, ◌-◌, ◌*◌, length, sym, ◌∙◌, ap, arith, subst}
use borrow.Rule.Slice.PartMut.{put_mid}
use Rattle.wa_base.specs.Numbers.{sat}
use Rattle.mix_rules.specs.Blocks.{sample}
use Rattle.channel_mix.specs.Sums.{SumsView, sum_at}
use Rattle.channel_mix.proofs.Rows.{lane_length, rows_more, rows_length}
use Rattle.channel_mix.proofs.sums.Sums.settle.Goals as goal

pub loop-channel-preserved : goal.loop-channel-preserved
loop-channel-preserved c =
    let q : ℕ = c.self.inside.frames in
    let n : ℕ = c.args.self.now.count in
    let channel : ℕ = c.loop-channel.channel in
    let values : List ℤ = c.loop-channel.values in
    let frames : q ≡ c.args.self.now.frames = ap (λ (s : SumsView). s.frames) c.self.view_is in
    let room : length values ≡ n * q = c.loop-channel.invariant.length ∙ ap (λ k. n * k) (sym frames) in
    let low = subst (λ k. channel < k) c.count-channel-end.ensures.count c.loop-channel-test.true in
    let part = lane_length q n channel values room low in
    let long : length c.settle_channel.new.values ≡ q = c.settle_channel.ensures.length ∙ part in
    let so_far = subst (λ f. (k m : ℕ) → k < channel → m < f → sample f values k m ≡ sat (sum_at c.args.self.now k m)) (sym frames) c.loop-channel.invariant.so_far in
    let more = rows_more q n channel (λ k m. sat (sum_at c.args.self.now k m)) values c.settle_channel.new.values room low long so_far (λ m now. c.settle_channel.ensures.values m (omega (arith, part, now))) in
    record {
      length = rows_length q n channel values c.settle_channel.new.values room low long ∙ c.loop-channel.invariant.length;
      so_far = subst (λ f. (k m : ℕ) → k < channel + 1 → m < f → sample f (put_mid (channel * q) (channel * q + q - channel * q) values c.settle_channel.new.values) k m ≡ sat (sum_at c.args.self.now k m)) frames more;
    }
