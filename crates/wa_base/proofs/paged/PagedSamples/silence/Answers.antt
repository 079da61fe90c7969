use Rattle.wa_base.proofs.Paging.{laid_silence}
use Rattle.wa_base.proofs.paged.PagedSamples.silence.Goals as goal

pub returns : goal.returns
returns c = laid_silence c.args.count
