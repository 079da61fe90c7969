use Rattle.wav_io.proofs.ChunkList.{list_of_chunks}
use Rattle.wav_io.proofs.chunks_law.Goals as goal

pub returns : goal.returns
returns c bytes place = list_of_chunks bytes place
