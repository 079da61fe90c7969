use Rattle.buffer_store.specs.Buffers.{frozen}
use Rattle.buffer_store.proofs.BufferLists.{set_is_changed}
use Rattle.buffer_store.proofs.store.Store.freeze.Goals as goal

pub returns : goal.returns
returns c = rw (← c.self.view_is) (set_is_changed c.args.buf.0 frozen c.self.inside.buffers.items c.index_mut.result.now c.index_mut.ensures.value)
