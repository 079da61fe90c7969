use Rattle.std.proofs.Common.{List, ℤ, pos, ◌%◌, slice_index_or, FitsSigned, w32, ap, ◌∙◌, arith, rules}
use Rattle.std.proofs.lemmas.Int.{to_z-of_z}
use Rattle.wa_base.specs.Paging.{origin_of, pages_of}
use Rattle.wa_base.proofs.Paging.{whole_page, from_page, from_below}
use Rattle.wa_base.proofs.paged.PagedSamples.get.Goals as goal

pub bounds-page-at : goal.bounds-page-at
bounds-page-at c = omega (arith, whole_page c.page_at-page.result.now c.page_at-page.ensures.page c.if-is_empty.ensures)

pub returns-then-is_empty : goal.returns-then-is_empty
returns-then-is_empty c =
    let fits : FitsSigned w32 c.sample_at.result = search rules in
    to_z-of_z _ _ fits
    ∙ c.sample_at.ensures
    ∙ ap (λ (l : List ℤ). slice_index_or l c.args.at (pos 0)) c.origin_slice.ensures
    ∙ from_below (origin_of c.self.inside.origin) (pages_of c.self.inside.pages) c.self.inside.count c.args.self.now c.self.view_is c.args.at c.requires.inside
    c.page_at-page.result.now c.page_at-page.ensures.value c.if-is_empty.ensures

pub returns-else-is_empty : goal.returns-else-is_empty
returns-else-is_empty c =
    let fits : FitsSigned w32 (slice_index_or c.page_at-page.result.now (c.args.at % 128) (pos 0)) = search rules in
    to_z-of_z _ _ fits
    ∙ from_page (origin_of c.self.inside.origin) (pages_of c.self.inside.pages) c.self.inside.count c.args.self.now c.self.view_is c.args.at c.requires.inside
    c.page_at-page.result.now c.page_at-page.ensures.value (whole_page c.page_at-page.result.now c.page_at-page.ensures.page c.if-is_empty.ensures)
