use Rattle.std.proofs.Common.{◌≡◌, ◌+◌, ◌*◌, ◌∙◌, IsTrue, length, take, drop, refl, sym, subst, rules, arith}
use Rattle.std.proofs.Math.Nat.{mul-mod_left}
use Rattle.std.proofs.lemmas.Result.{err_from_is_err_and}
use Rattle.io_edge.proofs.Pieces.{none_added, AppendsWhole-trans, AppendsPart-after}
use Rattle.session.specs.Rows.{interleaved}
use Rattle.wav_io.specs.WavText.{samples_bytes}
use Rattle.wav_io.proofs.WavLemmas.{samples_bytes-take_drop}
use Rattle.replay_top.proofs.WavParts.{samples_bytes-next, piece_count, frames_within, all_frames}
use Rattle.replay_top.proofs.wav_file.append_frames.Goals as goal

pub loop-at-init : goal.loop-at-init
loop-at-init g c =
    let none : 0 * c.args.rendered.now.spec.channels ≡ 0 = omega arith in
    record {
      reads = refl;
      later = omega arith;
      tells = refl;
      within = omega arith;
      added = rw none (λ told. none_added _ _);
    }

pub append_piece-requires-clause-whole : goal.append_piece-requires-clause-whole
append_piece-requires-clause-whole g c =
    let channels = c.args.rendered.now.spec.channels in
    let next = c.min-next.result in
    let long : length c.loop-at.samples ≡ 21845 = search rules in
    let count : length (take (next * channels) c.loop-at.samples) ≡ next * channels =
    piece_count next c.frames_in_a_piece-most.result channels c.loop-at.samples (omega (arith, c.min-next.ensures)) c.frames_in_a_piece-most.ensures.room long in
    rw count (mul-mod_left next channels)

pub append_piece-requires-clause-within : goal.append_piece-requires-clause-within
append_piece-requires-clause-within g c =
    let channels = c.args.rendered.now.spec.channels in
    let next = c.min-next.result in
    let long : length c.loop-at.samples ≡ 21845 = search rules in
    let count : length (take (next * channels) c.loop-at.samples) ≡ next * channels =
    piece_count next c.frames_in_a_piece-most.result channels c.loop-at.samples (omega (arith, c.min-next.ensures)) c.frames_in_a_piece-most.ensures.room long in
    rw count (frames_within c.loop-at.at next c.args.rendered.now.spec.length channels (omega (arith, c.min-next.ensures)))

pub returns-in_err-append_piece-clause-part : goal.returns-in_err-append_piece-clause-part
returns-in_err-append_piece-clause-part g c =
    let failed = err_from_is_err_and c.from_residual.result c.from_residual.ensures.1 in
    let bits = c.args.reading.now.bits in
    let channels = c.args.rendered.now.spec.channels in
    let at = c.loop-at.at in
    let next = c.min-next.result in
    let all = interleaved c.args.rendered.now.spec c.args.rendered.now.samples in
    let long : length c.loop-at.samples ≡ 21845 = search rules in
    let count : length (take (next * channels) c.loop-at.samples) ≡ next * channels =
    piece_count next c.frames_in_a_piece-most.result channels c.loop-at.samples (omega (arith, c.min-next.ensures)) c.frames_in_a_piece-most.ensures.room long in
    let piece = samples_bytes-next bits at next channels (length (take (next * channels) c.loop-at.samples)) all count in
    rw failed.1 (λ told. AppendsPart-after _ _ _ _ (samples_bytes bits (take (at * channels) all)) _ (samples_bytes bits (drop ((at + next) * channels) all)) (samples_bytes bits all)
    (c.loop-at.invariant.added told) (c.in_err-append_piece.ensures.part (subst IsTrue (sym c.loop-at.invariant.tells) told))
    (rw piece (samples_bytes-take_drop bits ((at + next) * channels) all)))

pub loop-at-preserved : goal.loop-at-preserved
loop-at-preserved g c =
    let bits = c.args.reading.now.bits in
    let channels = c.args.rendered.now.spec.channels in
    let at = c.loop-at.at in
    let next = c.min-next.result in
    let all = interleaved c.args.rendered.now.spec c.args.rendered.now.samples in
    let long : length c.loop-at.samples ≡ 21845 = search rules in
    let count : length (take (next * channels) c.loop-at.samples) ≡ next * channels =
    piece_count next c.frames_in_a_piece-most.result channels c.loop-at.samples (omega (arith, c.min-next.ensures)) c.frames_in_a_piece-most.ensures.room long in
    let piece = samples_bytes-next bits at next channels (length (take (next * channels) c.loop-at.samples)) all count in
    record {
      reads = c.append_piece.ensures.reads ∙ c.loop-at.invariant.reads;
      later = omega (arith, c.append_piece.ensures.later);
      tells = c.append_piece.ensures.tells ∙ c.loop-at.invariant.tells;
      within = omega (arith, c.min-next.ensures);
      added = λ told. rw (← piece) (AppendsWhole-trans _ _ _ _ (samples_bytes bits (take (at * channels) all)) _
          (c.loop-at.invariant.added told) (c.in_ok-append_piece.ensures.all (subst IsTrue (sym c.loop-at.invariant.tells) told)));
    }

pub returns-clause-all : goal.returns-clause-all
returns-clause-all g c = λ told.
    let done = all_frames c.loop-at.at c.args.rendered.now.spec c.args.rendered.now.samples c.loop-at-test.false in
    rw done at (c.loop-at.invariant.added told)
