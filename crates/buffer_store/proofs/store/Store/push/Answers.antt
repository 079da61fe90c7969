use Rattle.std.proofs.Common.{arith}
use Rattle.buffer_store.proofs.BufferLists.{few_buffers}
use Rattle.buffer_store.proofs.store.Store.push.Goals as goal

pub overflow_cast-id : goal.overflow_cast-id
overflow_cast-id c = omega (arith, few_buffers c.self.inside.buffers.items c.self.invariant.0)
