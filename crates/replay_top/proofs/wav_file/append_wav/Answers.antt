use Rattle.std.proofs.Common.{◌*◌, ◌/◌, IsTrue, [], ◌++◌, length, refl, ap, sym, subst, ◌∙◌, append_assoc, append-nil}
use Rattle.std.proofs.lemmas.Result.{err_from_is_err_and, on_ok_weaker, on_err_weaker}
use Rattle.io_edge.proofs.Pieces.{none_added, AppendsWhole-trans, AppendsPart-after}
use Rattle.session.specs.Rows.{interleaved}
use Rattle.wav_io.specs.WavText.{header_bytes, samples_bytes, padding}
use Rattle.replay_top.proofs.WavParts.{wav_of-parts}
use Rattle.replay_top.proofs.wav_file.append_wav.Goals as goal

pub returns-in_err-append_all-clause-part : goal.returns-in_err-append_all-clause-part
returns-in_err-append_all-clause-part g c =
    let failed = err_from_is_err_and c.from_residual.result c.from_residual.ensures.1 in
    let bits = c.reading.inside.bits in
    let spec = c.args.rendered.now.spec in
    let samples = interleaved spec c.args.rendered.now.samples in
    let size = length c.args.rendered.now.samples in
    let parts = wav_of-parts bits spec samples size c.reading.invariant.0 c.requires.long in
    let head = header_bytes spec.rate spec.channels bits spec.length in
    let body = samples_bytes bits samples in
    let tail = padding (size * (bits / 8)) in
    rw (failed.1, ← c.reading.view_is, parts) (λ told. AppendsPart-after _ _ _ _ [] head (body ++ tail) ((head ++ body) ++ tail) (none_added _ _)
    (rw c.header.ensures at (c.in_err-append_all.ensures.part told)) (sym (append_assoc head body tail)))

pub returns-in_err-append_frames-clause-part : goal.returns-in_err-append_frames-clause-part
returns-in_err-append_frames-clause-part g c =
    let failed = err_from_is_err_and c.from_residual-in_err-append_frames.result c.from_residual-in_err-append_frames.ensures.1 in
    let bits = c.reading.inside.bits in
    let spec = c.args.rendered.now.spec in
    let samples = interleaved spec c.args.rendered.now.samples in
    let size = length c.args.rendered.now.samples in
    let parts = wav_of-parts bits spec samples size c.reading.invariant.0 c.requires.long in
    let head = header_bytes spec.rate spec.channels bits spec.length in
    let body = samples_bytes bits samples in
    let tail = padding (size * (bits / 8)) in
    rw (failed.1, ← c.reading.view_is, parts) (λ told. AppendsPart-after _ _ _ _ head body tail ((head ++ body) ++ tail)
    (rw c.header.ensures at (c.in_ok-append_all.ensures.all told))
    (rw (← c.reading.view_is) at (c.in_err-append_frames.ensures.part (subst IsTrue (sym c.in_ok-append_all.ensures.tells) told))) refl)

pub returns-clause-all : goal.returns-clause-all
returns-clause-all g c =
    let bits = c.reading.inside.bits in
    let spec = c.args.rendered.now.spec in
    let samples = interleaved spec c.args.rendered.now.samples in
    let size = c.len.result in
    let bytes = c.sample_bytes.ensures.size ∙ ap (λ r. r.bits / 8) (sym c.reading.view_is) in
    let parts = wav_of-parts bits spec samples size c.reading.invariant.0 (c.len.ensures ∙ c.requires.long) in
    let head = header_bytes spec.rate spec.channels bits spec.length in
    let body = samples_bytes bits samples in
    let tail = padding (size * (bits / 8)) in
    rw (← c.reading.view_is, parts) (on_ok_weaker c.append_all-2.result (λ last told.
    let told_frames = subst IsTrue (sym c.in_ok-append_all.ensures.tells) told in
    let told_padding = subst IsTrue (sym c.in_ok-append_frames.ensures.tells) told_frames in
    AppendsWhole-trans _ _ _ _ (head ++ body) tail
    (AppendsWhole-trans _ _ _ _ head body (rw c.header.ensures at (c.in_ok-append_all.ensures.all told)) (rw (← c.reading.view_is) at (c.in_ok-append_frames.ensures.all told_frames)))
    (rw (c.padding.ensures, bytes) at (last told_padding))) c.append_all-2.ensures.all)

pub returns-clause-part : goal.returns-clause-part
returns-clause-part g c =
    let bits = c.reading.inside.bits in
    let spec = c.args.rendered.now.spec in
    let samples = interleaved spec c.args.rendered.now.samples in
    let size = c.len.result in
    let bytes = c.sample_bytes.ensures.size ∙ ap (λ r. r.bits / 8) (sym c.reading.view_is) in
    let parts = wav_of-parts bits spec samples size c.reading.invariant.0 (c.len.ensures ∙ c.requires.long) in
    let head = header_bytes spec.rate spec.channels bits spec.length in
    let body = samples_bytes bits samples in
    let tail = padding (size * (bits / 8)) in
    rw (← c.reading.view_is, parts) (on_err_weaker c.append_all-2.result (λ last told.
    let told_frames = subst IsTrue (sym c.in_ok-append_all.ensures.tells) told in
    let told_padding = subst IsTrue (sym c.in_ok-append_frames.ensures.tells) told_frames in
    AppendsPart-after _ _ _ _ (head ++ body) tail [] ((head ++ body) ++ tail)
    (AppendsWhole-trans _ _ _ _ head body (rw c.header.ensures at (c.in_ok-append_all.ensures.all told)) (rw (← c.reading.view_is) at (c.in_ok-append_frames.ensures.all told_frames)))
    (rw (c.padding.ensures, bytes) at (last told_padding)) (append-nil ((head ++ body) ++ tail))) c.append_all-2.ensures.part)
