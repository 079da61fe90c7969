use Rattle.wav_io.proofs.FileBack.{written_back}
use Rattle.wav_io.proofs.reads_back_law.Goals as goal

pub returns : goal.returns
returns c rate channels rows rate_small some few some_rows even small = written_back rate channels rows rate_small some few some_rows even small
