use Rattle.std.proofs.Common.{slice_index_or, ◌≡◌, ◌+◌, ◌<◌, Some, None, sym, ◌∙◌, ap, refl, subst}
use Rattle.std.specs.Option.{option_map_or}
use Rattle.wa_base.specs.Contexts.{quantum_of}
use Rattle.sched_source.specs.Schedule.{played}
use Rattle.meaning.specs.World.{channels_in, samples_in, played_channels}
use Rattle.quantum_blocks.specs.Blocks.{counts_in}
use Rattle.quantum_blocks.specs.Heard.{SourceView, heard_source}
use Rattle.quantum_render.specs.Sites.{SiteView}
use Rattle.quantum_blocks.proofs.Heard.{heard, unheard, heard_channels}
use Rattle.quantum_render.proofs.Rendering.{lanes_own, renders_own}
use Rattle.quantum_render.proofs.kinds.render_buffer.Goals as goal

-- one that is heard has its buffer's channels, and plays them
pub returns-in-Some : goal.returns-in-Some
returns-in-Some c =
    let s : SiteView = c.args.site.now in
    let place = c.place-place.ensures.own c.args.blocks.now c.requires.fit in
    let own = lanes_own s _ c.requires.kind.1 refl (slice_index_or c.args.blocks.now c.place-place.result c.index-blocks-place.result) (place.lanes c.index-blocks-place.result) in
    let source : SourceView = c.in-Some.source in
    let found : heard_source s.world s.end.node.0 s.first ≡ Some source = sym (c.sounding.ensures ∙ ap (λ (x : SiteView). heard_source x.world x.end.node.0 x.first) c.site.view_is) ∙ c.in-Some.is in
    place.draws c.play.new.self (renders_own s _ c.requires.kind.1 refl c.args.blocks.now c.play.new.self (c.play.ensures.lanes ∙ own) (c.play.ensures.frames ∙ place.frames c.index-blocks-place.result) (λ j earlier begins counted before channel m low now.
    let channels : counts_in s.counts s.end ≡ channels_in source.store (Some source.buffer) =
    counted ∙ ap (played_channels s.world s.end.node.0 (quantum_of s.world.spec)) (sym begins) ∙ heard_channels s.world s.end.node.0 s.first ∙ ap (λ o. option_map_or (λ (x : SourceView). channels_in x.store (Some x.buffer)) o 1) found in
    c.play.ensures.values channel m (subst (λ n. channel < n) (sym own) low) (subst (λ n. channel < n) channels low) (subst (λ n. m < n) (sym (place.frames c.index-blocks-place.result)) now)
    ∙ ap (λ (x : SiteView). played source.sched (samples_in source.store (Some source.buffer) channel) (x.first + m)) c.site.view_is
    ∙ sym (heard s.world s.end.node.0 s.first source found channel (s.first + m))))

-- another one is silent
pub returns-in-None : goal.returns-in-None
returns-in-None c =
    let s : SiteView = c.args.site.now in
    let place = c.place-place.ensures.own c.args.blocks.now c.requires.fit in
    let own = lanes_own s _ c.requires.kind.1 refl (slice_index_or c.args.blocks.now c.place-place.result c.index-blocks-place.result) (place.lanes c.index-blocks-place.result) in
    let none : heard_source s.world s.end.node.0 s.first ≡ None = sym (c.sounding.ensures ∙ ap (λ (x : SiteView). heard_source x.world x.end.node.0 x.first) c.site.view_is) ∙ c.in-None.is in
    place.draws c.silence.new.self (renders_own s _ c.requires.kind.1 refl c.args.blocks.now c.silence.new.self (c.silence.ensures.lanes ∙ own) (c.silence.ensures.frames ∙ place.frames c.index-blocks-place.result) (λ j earlier begins counted before channel m low now.
    c.silence.ensures.values channel m (subst (λ n. channel < n) (sym own) low) (subst (λ n. m < n) (sym (place.frames c.index-blocks-place.result)) now)
    ∙ sym (unheard s.world s.end.node.0 s.first none channel m now)))
