use Rattle.std.proofs.Common.{arith}
use Rattle.buffer_store.proofs.BufferLists.{few_buffers}
use Rattle.buffer_store.proofs.store.Store.len.Goals as goal

pub overflow_cast-result : goal.overflow_cast-result
overflow_cast-result c = omega (arith, few_buffers c.self.inside.buffers.items c.self.invariant.0)
