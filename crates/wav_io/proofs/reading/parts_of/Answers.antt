use Rattle.std.proofs.Common.{rules, sym, ◌∙◌}
use Rattle.wav_io.proofs.Decoding.{not_cut, not_riff, no_format, bad_format, no_data, with_data}
use Rattle.wav_io.proofs.reading.parts_of.Goals as goal

pub returns-then-not-is_riff-clause-fault : goal.returns-then-not-is_riff-clause-fault
returns-then-not-is_riff-clause-fault c = not_riff c.args.bytes.now (sym c.is_riff.ensures.value ∙ c.if-not-is_riff.true)

pub returns-in_err-format_chunk-clause-fault : goal.returns-in_err-format_chunk-clause-fault
returns-in_err-format_chunk-clause-fault c =
    let riff = sym c.is_riff.ensures.value ∙ c.if-not-is_riff.false in
    let fault = no_format c.args.bytes.now riff _ (sym c.find_format.ensures.value ∙ c.in_err-format_chunk.was) in
    search rules

pub returns-in_err-format-clause-fault : goal.returns-in_err-format-clause-fault
returns-in_err-format-clause-fault c =
    let riff = sym c.is_riff.ensures.value ∙ c.if-not-is_riff.false in
    let found = sym c.find_format.ensures.value ∙ c.in_ok-format_chunk.was in
    let fault = bad_format c.args.bytes.now riff _ found _ (sym c.format_in.ensures.value ∙ c.in_err-format.was) in
    search rules

pub returns-in_err-data_chunk-clause-fault : goal.returns-in_err-data_chunk-clause-fault
returns-in_err-data_chunk-clause-fault c =
    let riff = sym c.is_riff.ensures.value ∙ c.if-not-is_riff.false in
    let found = sym c.find_format.ensures.value ∙ c.in_ok-format_chunk.was in
    let good = sym c.format_in.ensures.value ∙ c.in_ok-format.was in
    let rest = c.in_ok-format_chunk.ensures.rest (not_cut c.args.bytes.now c.in_ok-format_chunk.format_chunk c.in_ok-format.ensures.whole) in
    let fault = no_data c.args.bytes.now riff _ found _ good rest _ c.next_place.ensures _ (sym c.find_data.ensures.value ∙ c.in_err-data_chunk.was) in
    search rules

pub returns-clause-value : goal.returns-clause-value
returns-clause-value c =
    let riff = sym c.is_riff.ensures.value ∙ c.if-not-is_riff.false in
    let found = sym c.find_format.ensures.value ∙ c.in_ok-format_chunk.was in
    let good = sym c.format_in.ensures.value ∙ c.in_ok-format.was in
    let rest = c.in_ok-format_chunk.ensures.rest (not_cut c.args.bytes.now c.in_ok-format_chunk.format_chunk c.in_ok-format.ensures.whole) in
    with_data c.args.bytes.now riff _ found _ good rest _ c.next_place.ensures _ (sym c.find_data.ensures.value ∙ c.in_ok-data_chunk.was)
