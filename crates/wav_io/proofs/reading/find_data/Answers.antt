use Rattle.std.proofs.Common.{Ok, sym, ap, ap₂, ◌∙◌, arith}
use Rattle.wav_io.specs.WavGrammar.{chunk_at, chunks_from, next_place, is_data_kind, first_data, end_of, data_chunk_of}
use Rattle.wav_io.proofs.ChunkList.{kind_here, cut_here, near_end, no_more, here_data, skipped_data, same_end, cut_data, cut_end}
use Rattle.wav_io.proofs.reading.find_data.Goals as goal

pub returns-then-is_data-clause-value : goal.returns-then-is_data-clause-value
returns-then-is_data-clause-value c =
    let kept = c.chunks.invariant in
    let is = kind_here is_data_kind _ _ _ _ c.in-Some.ensures.there c.is_data.ensures c.if-is_data.true in
    ap Ok c.in-Some.ensures.there ∙ sym (ap (λ d. data_chunk_of d (end_of c.args.bytes.now c.args.start (chunks_from c.args.bytes.now c.args.start))) (kept.data_chunk ∙ here_data _ _ c.in-Some.ensures.room is))

pub returns-then-is_cut-clause-value : goal.returns-then-is_cut-clause-value
returns-then-is_cut-clause-value c =
    let kept = c.chunks.invariant in
    let there = c.in-Some.ensures.there in
    let room = c.in-Some.ensures.room in
    let no_data = kind_here is_data_kind _ _ _ _ there c.is_data.ensures c.if-is_data.false in
    let cut = cut_here c.args.bytes.now _ _ _ _ there c.is_cut.ensures c.if-is_cut.true in
    sym (ap₂ (λ d e. data_chunk_of d e) (kept.data_chunk ∙ cut_data _ _ room no_data cut) (kept.end ∙ cut_end _ _ room cut))

pub chunks-preserved : goal.chunks-preserved
chunks-preserved c =
    let kept = c.chunks.invariant in
    let there = c.in-Some.ensures.there in
    let room = c.in-Some.ensures.room in
    let no_data = kind_here is_data_kind _ _ _ _ there c.is_data.ensures c.if-is_data.false in
    let whole = cut_here c.args.bytes.now _ _ _ _ there c.is_cut.ensures c.if-is_cut.false in
    let next = c.next_place-place.ensures ∙ ap next_place there in
    record {
      near = omega (arith, next, near_end c.args.bytes.now (chunk_at c.args.bytes.now c.chunks.place) whole);
      data_chunk = kept.data_chunk ∙ skipped_data _ _ room no_data ∙ ap (λ place. first_data (chunks_from c.args.bytes.now place)) (sym next);
      end = kept.end ∙ same_end _ _ room whole ∙ ap (λ place. end_of c.args.bytes.now place (chunks_from c.args.bytes.now place)) (sym next);
    }

pub returns-clause-value : goal.returns-clause-value
returns-clause-value c =
    let kept = c.chunks.invariant in
    let none = no_more c.args.bytes.now c.chunks.place c.in_default.ensures.none in
    sym (
    ap₂ (λ d e. data_chunk_of d e) (kept.data_chunk ∙ ap first_data none) (kept.end ∙ ap (end_of c.args.bytes.now c.chunks.place) none)
    )
