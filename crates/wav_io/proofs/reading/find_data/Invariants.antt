use Rattle.std.proofs.Common.{◌≡◌, ◌≤◌, ◌+◌, ◌-◌, length}
use Rattle.wav_io.specs.WavGrammar as grammar
use Rattle.wav_io.proofs.reading.find_data.Given as goal

abbrev pub invariant-chunks : goal.invariant-chunks
invariant-chunks l =
    let from_start = grammar.chunks_from l.bytes l.start in
    let left = grammar.chunks_from l.bytes l.place in
    record {
      near : l.place ≤ length l.bytes + 1;
      data_chunk : grammar.first_data from_start ≡ grammar.first_data left;
      end : grammar.end_of l.bytes l.start from_start ≡ grammar.end_of l.bytes l.place left;
    }

abbrev pub decreases-chunks : goal.decreases-chunks
decreases-chunks l = length l.bytes - l.place
