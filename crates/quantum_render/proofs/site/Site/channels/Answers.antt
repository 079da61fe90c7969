use Rattle.std.proofs.Common.{rules, ◌<◌, ◌≤◌, slice_index_or, sym, ◌∙◌, ap, arith, subst}
use Rattle.std.proofs.lemmas.List.{get_or_default}
use Rattle.quantum_blocks.specs.Blocks.{counts_in}
use Rattle.quantum_render.specs.Sites.{SiteView, IsSite}
use Rattle.quantum_render.proofs.SiteLaws.{place_within}
use Rattle.quantum_render.proofs.site.Site.channels.Goals as goal

pub bounds-self-inside-slot : goal.bounds-self-inside-slot
bounds-self-inside-slot c = place_within _ _ _ _ _ _ c.self.invariant.0 c.slot.result c.slot.ensures

pub offset_bounds-self-inside-slot : goal.offset_bounds-self-inside-slot
offset_bounds-self-inside-slot c =
    let within = place_within _ _ _ _ _ _ c.self.invariant.0 c.slot.result c.slot.ensures in
    let places = c.self.invariant.0.quantum.range.places in
    let few = c.self.invariant.0.quantum.valid.nodes.few in
    let low : c.slot.result < 2048 = omega arith in
    search rules

pub returns-clause-count : goal.returns-clause-count
returns-clause-count c =
    get_or_default c.self.inside.quantum.now.counts.now c.slot.result 0 1 (place_within _ _ _ _ _ _ c.self.invariant.0 c.slot.result c.slot.ensures)
    ∙ ap (λ k. slice_index_or c.self.inside.quantum.now.counts.now k 1) c.slot.ensures
    ∙ ap (λ (s : SiteView). counts_in s.counts s.end) c.self.view_is

pub returns-clause-low : goal.returns-clause-low
returns-clause-low c =
    let within = place_within _ _ _ _ _ _ c.self.invariant.0 c.slot.result c.slot.ensures in
    subst (λ n. 1 ≤ n) (sym (get_or_default c.self.inside.quantum.now.counts.now c.slot.result 0 1 within)) (c.self.invariant.0.quantum.range.low c.slot.result within)

pub returns-clause-high : goal.returns-clause-high
returns-clause-high c =
    let within = place_within _ _ _ _ _ _ c.self.invariant.0 c.slot.result c.slot.ensures in
    subst (λ n. n ≤ 32) (sym (get_or_default c.self.inside.quantum.now.counts.now c.slot.result 0 1 within)) (c.self.invariant.0.quantum.range.high c.slot.result within)

pub returns-clause-site : goal.returns-clause-site
returns-clause-site c = subst (λ (x : SiteView). IsSite x.world x.end x.into x.counts x.levels x.first) c.self.view_is c.self.invariant.0
