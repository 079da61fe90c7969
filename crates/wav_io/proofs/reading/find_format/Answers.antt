use Rattle.std.proofs.Common.{Ok, Err, refl, sym, ap, ap₂, ◌∙◌, arith}
use Rattle.wav_io.specs.declared.wav.WavErr.TheVariants.{NoFormat}
use Rattle.wav_io.specs.WavGrammar.{chunk_at, chunks_from, next_place, is_format_kind, is_data_kind, first_format, first_data, end_of, format_chunk_of}
use Rattle.wav_io.proofs.ChunkList.{kind_here, cut_here, near_end, no_more, format_found, data_found, skipped_format, skipped_data, same_end, here_only_format, cut_format, cut_data, cut_end}
use Rattle.wav_io.proofs.reading.find_format.Goals as goal

pub returns-then-is_format-clause-value : goal.returns-then-is_format-clause-value
returns-then-is_format-clause-value c =
    let kept = c.chunks.invariant in
    let is = kind_here is_format_kind _ _ _ _ c.in-Some.ensures.there c.is_format.ensures c.if-is_format.true in
    ap Ok c.in-Some.ensures.there
    ∙ sym (format_found _ _ c.in-Some.ensures.room _ is)
    ∙ sym (ap₂ (λ f d. format_chunk_of f d (end_of c.args.bytes.now 12 (chunks_from c.args.bytes.now 12))) kept.format_chunk kept.data_chunk)

pub returns-then-is_format-clause-rest : goal.returns-then-is_format-clause-rest
returns-then-is_format-clause-rest c whole =
    let kept = c.chunks.invariant in
    let there = c.in-Some.ensures.there in
    let room = c.in-Some.ensures.room in
    let is = kind_here is_format_kind _ _ _ _ there c.is_format.ensures c.if-is_format.true in
    record {
      data_chunk = kept.data_chunk ∙ here_only_format _ _ room is ∙ ap (λ chunk. first_data (chunks_from c.args.bytes.now (next_place chunk))) (sym there);
      end =
          kept.end ∙ same_end _ _ room (cut_here c.args.bytes.now _ _ _ _ there refl whole)
          ∙ ap (λ chunk. end_of c.args.bytes.now (next_place chunk) (chunks_from c.args.bytes.now (next_place chunk))) (sym there);
    }

pub returns-then-is_data-clause-value : goal.returns-then-is_data-clause-value
returns-then-is_data-clause-value c =
    let kept = c.chunks.invariant in
    let is = kind_here is_data_kind _ _ _ _ c.in-Some.ensures.there c.is_data.ensures c.if-is_data.true in
    sym (data_found _ _ c.in-Some.ensures.room _ is) ∙ sym (ap₂ (λ f d. format_chunk_of f d (end_of c.args.bytes.now 12 (chunks_from c.args.bytes.now 12))) kept.format_chunk kept.data_chunk)

pub returns-then-is_cut-clause-value : goal.returns-then-is_cut-clause-value
returns-then-is_cut-clause-value c =
    let kept = c.chunks.invariant in
    let there = c.in-Some.ensures.there in
    let room = c.in-Some.ensures.room in
    let no_format = kind_here is_format_kind _ _ _ _ there c.is_format.ensures c.if-is_format.false in
    let no_data = kind_here is_data_kind _ _ _ _ there c.is_data.ensures c.if-is_data.false in
    let cut = cut_here c.args.bytes.now _ _ _ _ there c.is_cut.ensures c.if-is_cut.true in
    sym (
    ap₂ (λ f d. format_chunk_of f d (end_of c.args.bytes.now 12 (chunks_from c.args.bytes.now 12))) (kept.format_chunk ∙ cut_format _ _ room no_format cut) (kept.data_chunk ∙ cut_data _ _ room no_data cut)
    ∙ ap (λ place. Err (NoFormat place)) (kept.end ∙ cut_end _ _ room cut)
    )

pub chunks-preserved : goal.chunks-preserved
chunks-preserved c =
    let kept = c.chunks.invariant in
    let there = c.in-Some.ensures.there in
    let room = c.in-Some.ensures.room in
    let no_format = kind_here is_format_kind _ _ _ _ there c.is_format.ensures c.if-is_format.false in
    let no_data = kind_here is_data_kind _ _ _ _ there c.is_data.ensures c.if-is_data.false in
    let whole = cut_here c.args.bytes.now _ _ _ _ there c.is_cut.ensures c.if-is_cut.false in
    let next = c.next_place-place.ensures ∙ ap next_place there in
    record {
      near = omega (arith, next, near_end c.args.bytes.now (chunk_at c.args.bytes.now c.chunks.place) whole);
      format_chunk = kept.format_chunk ∙ skipped_format _ _ room no_format ∙ ap (λ place. first_format (chunks_from c.args.bytes.now place)) (sym next);
      data_chunk = kept.data_chunk ∙ skipped_data _ _ room no_data ∙ ap (λ place. first_data (chunks_from c.args.bytes.now place)) (sym next);
      end = kept.end ∙ same_end _ _ room whole ∙ ap (λ place. end_of c.args.bytes.now place (chunks_from c.args.bytes.now place)) (sym next);
    }

pub returns-clause-value : goal.returns-clause-value
returns-clause-value c =
    let kept = c.chunks.invariant in
    let none = no_more c.args.bytes.now c.chunks.place c.in_default.ensures.none in
    sym (
    ap₂ (λ f d. format_chunk_of f d (end_of c.args.bytes.now 12 (chunks_from c.args.bytes.now 12))) (kept.format_chunk ∙ ap first_format none) (kept.data_chunk ∙ ap first_data none)
    ∙ ap (λ place. Err (NoFormat place)) (kept.end ∙ ap (end_of c.args.bytes.now c.chunks.place) none)
    )
