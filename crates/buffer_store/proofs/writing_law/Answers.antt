use Rattle.buffer_store.proofs.Writing.{this_channel, other_channel}
use Rattle.buffer_store.proofs.writing_law.Goals as goal

pub returns : goal.returns
returns c buffer channel samples at is has = record {
  this = this_channel buffer channel is has samples at;
  others = λ other in_buffer differs. other_channel buffer channel is has samples at other differs;
}
