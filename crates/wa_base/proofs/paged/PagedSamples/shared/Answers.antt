use Rattle.std.proofs.Common.{sym}
use Rattle.wa_base.proofs.Paging.{laid_none}
use Rattle.wa_base.proofs.paged.PagedSamples.shared.Goals as goal

pub returns : goal.returns
returns c = laid_none c.args.samples c.len.result (sym c.len.ensures)
