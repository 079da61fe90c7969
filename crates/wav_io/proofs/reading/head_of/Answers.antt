use Rattle.std.proofs.Common.{sym, ap, ◌∙◌, refl}
use Rattle.std.specs.Prelude.{Ok}
use Rattle.wav_io.specs.WavGrammar.{◌>>=◌, head}
use Rattle.wav_io.proofs.Decoding.{no_block, some_blocks}
use Rattle.wav_io.proofs.reading.head_of.Goals as goal

pub returns-then-frames-eq0-clause-value : goal.returns-then-frames-eq0-clause-value
returns-then-frames-eq0-clause-value c =
    let none = no_block c.args.bytes.now c.in_ok-format.format c.in_ok-format.data_chunk _ c.frames_in-frames.ensures.value c.if-frames-eq0.true in
    sym (ap (λ r. r >>= λ wav. Ok (head wav)) (c.in_ok-format.ensures.value ∙ none))

pub returns-clause-value : goal.returns-clause-value
returns-clause-value c =
    let some = some_blocks c.args.bytes.now c.in_ok-format.format c.in_ok-format.data_chunk _ c.frames_in-frames.ensures.value _ c.if-frames-eq0.false refl in
    sym (ap (λ r. r >>= λ wav. Ok (head wav)) (c.in_ok-format.ensures.value ∙ some))
