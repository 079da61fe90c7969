use Rattle.std.proofs.Common.{slice_index_or, ◌≡◌, ◌+◌, ◌<◌, sym, ◌∙◌, ap, ap₂, refl, subst}
use Rattle.wa_base.specs.Numbers.{scale}
use Rattle.wa_base.specs.Contexts.{quantum_of}
use Rattle.wa_base.specs.declared.graph_names.ParamName.TheVariants.{Gain}
use Rattle.node_table.specs.Kinds.{param_name}
use Rattle.meaning.specs.World.{param_id}
use Rattle.meaning.specs.Values.{computed_value}
use Rattle.quantum_blocks.specs.Blocks.{BlockView, at, counts_in}
use Rattle.quantum_render.specs.Sites.{SiteView}
use Rattle.quantum_render.specs.Benches.{BenchView}
use Rattle.quantum_render.specs.Renders.{past_of, here_of}
use Rattle.quantum_render.proofs.Drawing.{silence_scaled}
use Rattle.quantum_render.proofs.Rendering.{lanes_own, own_room, renders_own}
use Rattle.quantum_render.proofs.bench.Bench.render_gain.Goals as goal

pub take_levels-requires-clause-there : goal.take_levels-requires-clause-there
take_levels-requires-clause-there c = ap param_name c.requires.kind.1

pub scale-requires-clause-frames : goal.scale-requires-clause-frames
scale-requires-clause-frames c =
    let own = c.place-place.ensures.own c.args.blocks.now c.requires.fit in
    c.self-2.invariant.heard_frames ∙ ap (λ (b : BenchView). b.frames) c.self-2.view_is ∙ c.take_levels.ensures.frames ∙ c.take_input.ensures.frames ∙ c.requires.frames ∙ sym (own.frames c.index-blocks-place-2.result)

pub scale-requires-clause-gain_frames : goal.scale-requires-clause-gain_frames
scale-requires-clause-gain_frames c =
    let own = c.place-place.ensures.own c.args.blocks.now c.requires.fit in
    c.self-2.invariant.levels_frames ∙ ap (λ (b : BenchView). b.frames) c.self-2.view_is ∙ c.take_levels.ensures.frames ∙ c.take_input.ensures.frames ∙ c.requires.frames ∙ sym (own.frames c.index-blocks-place-2.result)

pub scale-requires-clause-room : goal.scale-requires-clause-room
scale-requires-clause-room c =
    let own = c.place-place.ensures.own c.args.blocks.now c.requires.fit in
    let heard : c.self-2.inside.heard ≡ c.take_input.new.self.heard = ap (λ (b : BenchView). b.heard) c.self-2.view_is ∙ c.take_levels.ensures.heard in
    own_room c.args.site.now _ c.requires.kind.1 refl (slice_index_or c.args.blocks.now c.place-place.result c.index-blocks-place-2.result) (own.lanes c.index-blocks-place-2.result) _ (ap (λ (b : BlockView). b.lanes) heard ∙ c.take_input.ensures.lanes ∙ c.channels.ensures.count)

pub returns-clause-draws : goal.returns-clause-draws
returns-clause-draws c =
    let own = c.place-place.ensures.own c.args.blocks.now c.requires.fit in
    let s : SiteView = c.args.site.now in
    let heard : c.self-2.inside.heard ≡ c.take_input.new.self.heard = ap (λ (b : BenchView). b.heard) c.self-2.view_is ∙ c.take_levels.ensures.heard in
    let levels : c.self-2.inside.levels ≡ c.take_levels.new.self.levels = ap (λ (b : BenchView). b.levels) c.self-2.view_is in
    let channels : c.channels.result ≡ counts_in s.counts s.end = c.channels.ensures.count in
    let lanes : c.self-2.inside.heard.lanes ≡ c.channels.result = ap (λ (b : BlockView). b.lanes) heard ∙ c.take_input.ensures.lanes in
    own.draws c.scale.new.self (renders_own s _ c.requires.kind.1 refl c.args.blocks.now c.scale.new.self (c.scale.ensures.lanes ∙ lanes ∙ channels) (c.scale.ensures.frames ∙ own.frames c.index-blocks-place-2.result) (λ j earlier begins counted before channel m low now.
    let low' : channel < c.channels.result = subst (λ n. channel < n) (sym channels) low in
    c.scale.ensures.values channel m (subst (λ n. channel < n) (sym lanes) low') (subst (λ n. m < n) (sym (own.frames c.index-blocks-place-2.result)) now)
    ∙ ap₂ scale
    (ap (λ (b : BlockView). at b channel m) heard ∙ c.take_input.ensures.input (channels ∙ counted) channel m low' now)
    (ap (λ (b : BlockView). at b 0 m) levels ∙ c.take_levels.ensures.levels before m now)))

-- a silent input is silent whatever the gain
pub returns-then-is_silent-clause-draws : goal.returns-then-is_silent-clause-draws
returns-then-is_silent-clause-draws c =
    let own = c.place-place.ensures.own c.args.blocks.now c.requires.fit in
    let s : SiteView = c.args.site.now in
    let heard : c.self.inside.heard ≡ c.take_input.new.self.heard = ap (λ (b : BenchView). b.heard) c.self.view_is in
    let channels : c.channels.result ≡ counts_in s.counts s.end = c.channels.ensures.count in
    let lanes : c.self.inside.heard.lanes ≡ c.channels.result = ap (λ (b : BlockView). b.lanes) heard ∙ c.take_input.ensures.lanes in
    let frames : c.self.inside.heard.frames ≡ quantum_of s.world.spec = ap (λ (b : BlockView). b.frames) heard ∙ c.take_input.ensures.heard_frames ∙ c.requires.frames in
    let all = c.silence.ensures.lanes ∙ lanes_own s _ c.requires.kind.1 refl (slice_index_or c.args.blocks.now c.place-place.result c.index-blocks-place.result) (own.lanes c.index-blocks-place.result) in
    own.draws c.silence.new.self (renders_own s _ c.requires.kind.1 refl c.args.blocks.now c.silence.new.self all (c.silence.ensures.frames ∙ own.frames c.index-blocks-place.result) (λ j earlier begins counted before channel m low now.
    let low' : channel < c.channels.result = subst (λ n. channel < n) (sym channels) low in
    let gain = computed_value (quantum_of s.world.spec) (s.first + m) (past_of s c.args.blocks.now before) (here_of s c.args.blocks.now m) (param_id s.end.node.0 Gain) in
    c.silence.ensures.values channel m (subst (λ n. channel < n) (sym all ∙ c.silence.ensures.lanes) low) (subst (λ n. m < n) (sym (own.frames c.index-blocks-place.result)) now)
    ∙ silence_scaled gain
    ∙ ap (λ x. scale x gain)
    (sym (c.is_silent.ensures c.if-is_silent.true channel m (subst (λ n. channel < n) (sym lanes) low') (subst (λ n. m < n) (sym frames) now))
    ∙ ap (λ (b : BlockView). at b channel m) heard
    ∙ c.take_input.ensures.input (channels ∙ counted) channel m low' now)))
