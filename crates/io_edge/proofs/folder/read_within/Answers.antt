use Rattle.std.proofs.Common.{◌<◌, length, arith}
use Rattle.io_edge.proofs.Reading.{all_read}
use Rattle.io_edge.proofs.folder.read_within.Goals as goal

pub returns-clause-found : goal.returns-clause-found
returns-clause-found g c =
    let bounded = c.take-bounded.result in
    let bytes = c.read_to_end.new.buf.items in
    let short : length bytes < bounded.limit = grind (arith, c.if-count-limit.false, c.len-count.ensures, c.saturating_add.ensures, c.take-bounded.ensures.limit, c.read_to_end.new.buf.small, c.read_to_end.new.buf.ok) in
    let whole = all_read (g.R.Read.remaining bounded.inner) bounded.limit c.args.bytes.items bytes c.requires c.in-Ok.ensures.bytes short in
    rw (c.from.ensures, ← c.take-bounded.ensures.inner) whole
