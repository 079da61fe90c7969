use Rattle.std.proofs.Common.{ap}
use Rattle.buffer_store.specs.Buffers.{with_written}
use Rattle.buffer_store.proofs.Writing.{nothing_written, write_is}
use Rattle.buffer_store.proofs.buffers.Buffer.write.Goals as goal

pub returns-then-at-self-clause-ok : goal.returns-then-at-self-clause-ok
returns-then-at-self-clause-ok c = nothing_written c.args.self.now c.args.channel c.requires.buffer c.requires.channel c.args.samples.now c.args.at c.if-at-self.true

pub returns-clause-ok : goal.returns-clause-ok
unfolding with_written
returns-clause-ok c =
    ap (λ samples. record c.args.self.now { samples = samples })
    (write_is c.args.self.now c.args.channel c.requires.buffer c.requires.channel c.args.samples.now c.write.new.self
    c.args.at c.min-count.result c.if-at-self.false c.min-count.ensures c.in_ok-write.ensures.ok)
