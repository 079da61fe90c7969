use Rattle.std.proofs.Common.{length}
use Rattle.wav_dump.proofs.dump.Given as goal

abbrev pub decreases-files : goal.decreases-files
decreases-files g l = length l.rest
