use Rattle.std.proofs.Common.{sym, ap, ◌∙◌, length}
use Rattle.wa_base.specs.Paging.{origin_of, pages_of}
use Rattle.wa_base.proofs.Paging.{length-laid}
use Rattle.wa_base.proofs.paged.PagedSamples.len.Goals as goal

pub returns : goal.returns
returns c = sym (sym (ap length c.self.view_is) ∙ length-laid (origin_of c.self.inside.origin) (pages_of c.self.inside.pages) c.self.inside.count)
