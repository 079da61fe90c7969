use Rattle.std.proofs.Common.{ℕ, ◌≡◌, ◌+◌, ◌-◌, ◌*◌, ◌<◌, ◌≤◌, length, Some, inl, inr, sym, ◌∙◌, ap, subst, arith}
use borrow.Rule.Slice.PartMut.{put_mid}
use Rattle.std.proofs.lemmas.Bool.{cases_lt}
use Rattle.mix_rules.specs.Blocks.{sample}
use Rattle.law_base.proofs.Rows.{row_in, place_in}
use Rattle.lane_kern.proofs.Written.{written_before, written_here}
use Rattle.sched_source.specs.Schedule.{played}
use Rattle.meaning.specs.World.{channels_in, samples_in}
use Rattle.channel_mix.proofs.Rows.{lane_length, rows_length}
use Rattle.quantum_blocks.proofs.playing.Source.play.Goals as goal

pub loop-lane-preserved : goal.loop-lane-preserved
loop-lane-preserved c =
    let q : ℕ = c.args.frames in
    let lane : ℕ = c.loop-lane.lane in
    let room = c.loop-lane.invariant.length in
    let below = c.loop-lane-test.true in
    let part = lane_length q c.args.lanes lane c.loop-lane.out room below in
    let long : length c.play_lane.new.out ≡ q = c.play_lane.ensures.length ∙ part in
    let row = row_in q lane c.args.lanes below in
    let begins : lane * q ≤ length c.loop-lane.out = omega (arith, row, room) in
    record {
      length = rows_length q c.args.lanes lane c.loop-lane.out c.play_lane.new.out room below long ∙ room;
      so_far = λ k m low few now. elim (cases_lt k lane) [
        | inl before ↦ written_before (lane * q) (lane * q + q - lane * q) c.loop-lane.out c.play_lane.new.out (k * q + m) (place_in q k lane m before now) begins ∙ c.loop-lane.invariant.so_far k m before few now
        | inr not_before ↦
            let own : k ≡ lane = omega arith in
            ap (λ j. sample q (put_mid (lane * q) (lane * q + q - lane * q) c.loop-lane.out c.play_lane.new.out) j m) own
            ∙ written_here (lane * q) (lane * q + q - lane * q) c.loop-lane.out c.play_lane.new.out m (omega (arith, long, now)) begins
            ∙ c.play_lane.ensures.values (subst (λ j. j < channels_in c.args.self.now.store (Some c.args.self.now.buffer)) own few) m (omega (arith, part, now))
            ∙ ap (λ j. played c.args.self.now.sched (samples_in c.args.self.now.store (Some c.args.self.now.buffer) j) (c.args.first + m)) (sym own)
      ];
    }
