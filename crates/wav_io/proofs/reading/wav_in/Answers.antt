use Rattle.std.proofs.Common.{length, ap, ◌∙◌, arith}
use Rattle.wav_io.proofs.Decoding.{no_block, some_blocks}
use Rattle.wav_io.proofs.Ranges.{length-values_in}
use Rattle.wav_io.proofs.reading.wav_in.Goals as goal

pub returns-then-frames-eq0-clause-fault : goal.returns-then-frames-eq0-clause-fault
returns-then-frames-eq0-clause-fault c named = no_block c.args.bytes.now c.args.format.now c.args.chunk.now _ c.frames_in-frames.ensures.value c.if-frames-eq0.true

pub returns-clause-ok : goal.returns-clause-ok
returns-clause-ok c = some_blocks c.args.bytes.now c.args.format.now c.args.chunk.now _ c.frames_in-frames.ensures.value _ c.if-frames-eq0.false (c.in_ok-new.ensures ∙ c.in_ok-samples.ensures)

pub returns-clause-recording : goal.returns-clause-recording
returns-clause-recording c =
    let some = c.if-frames-eq0.false in
    record {
      channels_low = c.requires.channels_low;
      channels_high = c.requires.channels_high;
      frames = omega arith;
      samples = ap length (c.in_ok-new.ensures ∙ c.in_ok-samples.ensures) ∙ length-values_in c.args.bytes.now c.args.format.now _ _;
    }
