use Rattle.std.proofs.Common.{◌≡◌, ◌≤◌, ◌+◌, ◌-◌, length}
use Rattle.wav_io.specs.WavGrammar as grammar
use Rattle.wav_io.proofs.reading.find_format.Given as goal

abbrev pub invariant-chunks : goal.invariant-chunks
invariant-chunks l =
    let all = grammar.chunks_from l.bytes 12 in
    let left = grammar.chunks_from l.bytes l.place in
    record {
      near : l.place ≤ length l.bytes + 1;
      format_chunk : grammar.first_format all ≡ grammar.first_format left;
      data_chunk : grammar.first_data all ≡ grammar.first_data left;
      end : grammar.end_of l.bytes 12 all ≡ grammar.end_of l.bytes l.place left;
    }

abbrev pub decreases-chunks : goal.decreases-chunks
decreases-chunks l = length l.bytes - l.place
