use Rattle.std.proofs.Common.{◌<◌, pos, length, slice_index_or, FitsSigned, rules, arith}
use Rattle.std.specs.Int.{w32}
use Rattle.std.proofs.lemmas.Int.{to_z-of_z}
use Rattle.session.proofs.Interleaving.{place_within, next_place_near, sample_placed, others_kept}
use Rattle.session.proofs.rendered.place_channel.Goals as goal

pub offset_bounds-piece-place : goal.offset_bounds-piece-place
offset_bounds-piece-place c =
    let within = place_within c.args.channels c.args.channel c.loop-sample.sample-index (length c.args.samples.now) (length c.args.piece.now) c.requires.channel c.loop-sample-test.true c.requires.whole in
    search rules

pub bounds-piece-place : goal.bounds-piece-place
bounds-piece-place c =
    let within = place_within c.args.channels c.args.channel c.loop-sample.sample-index (length c.args.samples.now) (length c.args.piece.now) c.requires.channel c.loop-sample-test.true c.requires.whole in
    omega arith

pub overflow_add-place : goal.overflow_add-place
overflow_add-place c =
    let near = next_place_near c.args.channels c.args.channel c.loop-sample.sample-index (length c.args.samples.now) (length c.args.piece.now) c.requires.channel c.loop-sample-test.true c.requires.whole in
    search rules

pub loop-sample-preserved : goal.loop-sample-preserved
loop-sample-preserved c =
    let within = place_within c.args.channels c.args.channel c.loop-sample.sample-index (length c.args.samples.now) (length c.args.piece.now) c.requires.channel c.loop-sample-test.true c.requires.whole in
    let room : c.loop-sample.place < length c.loop-sample.piece = omega arith in
    let sample_fits : FitsSigned w32 (slice_index_or c.args.samples.now c.loop-sample.sample-index (pos 0)) = search rules in
    let is = to_z-of_z _ _ sample_fits in
    record {
      place = omega arith;
      written = rw is (sample_placed c.args.channels c.args.channel c.loop-sample.sample-index c.loop-sample.place c.args.samples.now c.loop-sample.piece c.requires.channel c.loop-sample.invariant.place room c.loop-sample.invariant.written);
      kept = others_kept c.args.channels c.args.channel c.loop-sample.sample-index c.loop-sample.place _ c.args.piece.now c.loop-sample.piece c.requires.channel c.loop-sample.invariant.place c.loop-sample.invariant.kept;
    }
