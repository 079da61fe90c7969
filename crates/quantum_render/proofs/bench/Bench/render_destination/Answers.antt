use Rattle.std.proofs.Common.{slice_index_or, ◌≡◌, ◌<◌, sym, ◌∙◌, ap, refl, subst}
use Rattle.quantum_blocks.specs.Blocks.{BlockView, at, counts_in}
use Rattle.quantum_render.specs.Sites.{SiteView}
use Rattle.quantum_render.specs.Benches.{BenchView}
use Rattle.quantum_render.proofs.Rendering.{own_room, renders_own}
use Rattle.quantum_render.proofs.bench.Bench.render_destination.Goals as goal

pub copy-requires-clause-frames : goal.copy-requires-clause-frames
copy-requires-clause-frames c =
    let own = c.place-place.ensures.own c.args.blocks.now c.requires.fit in
    c.self.invariant.heard_frames ∙ ap (λ (b : BenchView). b.frames) c.self.view_is ∙ c.take_input.ensures.frames ∙ c.requires.frames ∙ sym (own.frames c.index-blocks-place.result)

pub copy-requires-clause-room : goal.copy-requires-clause-room
copy-requires-clause-room c =
    let own = c.place-place.ensures.own c.args.blocks.now c.requires.fit in
    let heard : c.self.inside.heard ≡ c.take_input.new.self.heard = ap (λ (b : BenchView). b.heard) c.self.view_is in
    own_room c.args.site.now _ c.requires.kind refl (slice_index_or c.args.blocks.now c.place-place.result c.index-blocks-place.result) (own.lanes c.index-blocks-place.result) _ (ap (λ (b : BlockView). b.lanes) heard ∙ c.take_input.ensures.lanes ∙ c.channels.ensures.count)

pub returns-clause-draws : goal.returns-clause-draws
returns-clause-draws c =
    let own = c.place-place.ensures.own c.args.blocks.now c.requires.fit in
    let s : SiteView = c.args.site.now in
    let heard : c.self.inside.heard ≡ c.take_input.new.self.heard = ap (λ (b : BenchView). b.heard) c.self.view_is in
    let channels : c.channels.result ≡ counts_in s.counts s.end = c.channels.ensures.count in
    let lanes : c.self.inside.heard.lanes ≡ c.channels.result = ap (λ (b : BlockView). b.lanes) heard ∙ c.take_input.ensures.lanes in
    own.draws c.copy.new.self (renders_own s _ c.requires.kind refl c.args.blocks.now c.copy.new.self (c.copy.ensures.lanes ∙ lanes ∙ channels) (c.copy.ensures.frames ∙ own.frames c.index-blocks-place.result) (λ j earlier begins counted before channel m low now.
    let low' : channel < c.channels.result = subst (λ n. channel < n) (sym channels) low in
    c.copy.ensures.values channel m (subst (λ n. channel < n) (sym lanes) low') (subst (λ n. m < n) (sym (own.frames c.index-blocks-place.result)) now)
    ∙ ap (λ (b : BlockView). at b channel m) heard
    ∙ c.take_input.ensures.input (channels ∙ counted) channel m low' now))
