use Rattle.std.proofs.Common.{slice_index_or, ◌≡◌, ◌<◌, sym, ◌∙◌, ap, refl, subst}
use Rattle.quantum_blocks.specs.Blocks.{BlockView, at, counts_in}
use Rattle.quantum_render.specs.Sites.{SiteView}
use Rattle.quantum_blocks.proofs.Sources.{end_low}
use Rattle.quantum_render.specs.Benches.{BenchView}
use Rattle.quantum_render.proofs.Ports.{merger_channels}
use Rattle.quantum_render.proofs.Rendering.{own_room, renders_own}
use Rattle.quantum_render.proofs.bench.Bench.render_merger.Goals as goal

pub copy-requires-clause-frames : goal.copy-requires-clause-frames
copy-requires-clause-frames c =
    let own = c.place-place.ensures.own c.args.blocks.now c.requires.fit in
    c.self.invariant.merged_frames ∙ ap (λ (b : BenchView). b.frames) c.self.view_is ∙ c.take_inputs.ensures.frames ∙ c.requires.frames ∙ sym (own.frames c.index-blocks-place.result)

pub copy-requires-clause-room : goal.copy-requires-clause-room
copy-requires-clause-room c =
    let own = c.place-place.ensures.own c.args.blocks.now c.requires.fit in
    let merged : c.self.inside.merged ≡ c.take_inputs.new.self.merged = ap (λ (b : BenchView). b.merged) c.self.view_is in
    own_room c.args.site.now _ c.requires.kind.1 refl (slice_index_or c.args.blocks.now c.place-place.result c.index-blocks-place.result) (own.lanes c.index-blocks-place.result) _ (ap (λ (b : BlockView). b.lanes) merged ∙ c.take_inputs.ensures.lanes ∙ c.channels.ensures.count)

-- channel c is what input c carries
pub returns-clause-draws : goal.returns-clause-draws
returns-clause-draws c =
    let own = c.place-place.ensures.own c.args.blocks.now c.requires.fit in
    let s : SiteView = c.args.site.now in
    let site = c.channels.ensures.site in
    let merged : c.self.inside.merged ≡ c.take_inputs.new.self.merged = ap (λ (b : BenchView). b.merged) c.self.view_is in
    let channels : c.channels.result ≡ counts_in s.counts s.end = c.channels.ensures.count in
    let lanes : c.self.inside.merged.lanes ≡ c.channels.result = ap (λ (b : BlockView). b.lanes) merged ∙ c.take_inputs.ensures.lanes in
    own.draws c.copy.new.self (renders_own s _ c.requires.kind.1 refl c.args.blocks.now c.copy.new.self (c.copy.ensures.lanes ∙ lanes ∙ channels) (c.copy.ensures.frames ∙ own.frames c.index-blocks-place.result) (λ j earlier begins counted before channel m low now.
    let low' : channel < c.channels.result = subst (λ n. channel < n) (sym channels) low in
    c.copy.ensures.values channel m (subst (λ n. channel < n) (sym lanes) low') (subst (λ n. m < n) (sym (own.frames c.index-blocks-place.result)) now)
    ∙ ap (λ (b : BlockView). at b channel m) merged
    ∙ c.take_inputs.ensures.inputs
    (λ i below. sym (merger_channels s.world site.quantum.valid s.end.node.0 (end_low s.world site.quantum.valid s.end site.there) (counts_in s.counts) c.requires.kind.0 c.requires.kind.1 i)) channel m low' now))
