use Rattle.std.proofs.Common.{ℕ, Some, IfSome, slice_index_or, pos, ◌≡◌, ◌+◌, ◌<◌, ◌-◌, ◌^◌, sym, ◌∙◌, ap, arith, refl, subst}
use Rattle.std.specs.Prelude.{if◌then◌else◌}
use Rattle.wa_base.specs.Contexts.{quantum_of}
use Rattle.wa_base.specs.declared.graph_names.ParamName.TheVariants.{Offset}
use Rattle.node_table.specs.Kinds.{row, param_name}
use Rattle.sched_source.specs.Schedule.{is_between}
use Rattle.meaning.specs.Values.{computed_value}
use Rattle.meaning.specs.World.{sounds_at, param_id}
use Rattle.quantum_blocks.specs.Blocks.{BlockView, at}
use Rattle.quantum_render.specs.Sites.{SiteView}
use Rattle.quantum_render.specs.Benches.{BenchView}
use Rattle.quantum_render.specs.Renders.{past_of, here_of}
use Rattle.quantum_render.proofs.Rendering.{site_is, mono_own, lanes_own, own_room, renders_own}
use Rattle.quantum_render.proofs.bench.Bench.render_constant.Goals as goal

pub take_levels-requires-clause-there : goal.take_levels-requires-clause-there
take_levels-requires-clause-there c = ap param_name c.requires.kind.1

pub copy-requires-clause-frames : goal.copy-requires-clause-frames
copy-requires-clause-frames c =
    let own = c.place-place.ensures.own c.args.blocks.now c.requires.fit in
    c.sound.ensures.frames ∙ c.self.invariant.levels_frames ∙ ap (λ (b : BenchView). b.frames) c.self.view_is ∙ c.take_levels.ensures.frames ∙ c.requires.frames ∙ sym (own.frames c.index-blocks-place-2.result)

pub copy-requires-clause-room : goal.copy-requires-clause-room
copy-requires-clause-room c =
    let own = c.place-place.ensures.own c.args.blocks.now c.requires.fit in
    let s : SiteView = c.args.site.now in
    let mono = mono_own s (site_is s _ _ _ _ _ _ c.site.invariant.0 c.site.view_is) (ap (λ k. (row k).channels) c.requires.kind.1) in
    own_room s _ c.requires.kind.1 refl (slice_index_or c.args.blocks.now c.place-place.result c.index-blocks-place-2.result) (own.lanes c.index-blocks-place-2.result) _ (c.sound.ensures.lanes ∙ sym mono)

pub returns-clause-draws : goal.returns-clause-draws
returns-clause-draws c =
    let own = c.place-place.ensures.own c.args.blocks.now c.requires.fit in
    let s : SiteView = c.args.site.now in
    let site = site_is s _ _ _ _ _ _ c.site.invariant.0 c.site.view_is in
    let mono = mono_own s site (ap (λ k. (row k).channels) c.requires.kind.1) in
    let levels : c.self.inside.levels ≡ c.take_levels.new.self.levels = ap (λ (b : BenchView). b.levels) c.self.view_is in
    let framed = c.self.invariant.levels_frames ∙ ap (λ (b : BenchView). b.frames) c.self.view_is ∙ c.take_levels.ensures.frames ∙ c.requires.frames in
    let time = c.site.invariant.0.quantum.begun.time in
    let spanned = subst (λ o. IfSome o (λ span. (frame : ℕ) → frame < 2 ^ 64 - 1 → is_between (Some span.0) (Some span.1) frame ≡ sounds_at s.world s.end.node.0 frame)) c.in-Some.is c.span.ensures.sounds in
    own.draws c.copy.new.self (renders_own s _ c.requires.kind.1 refl c.args.blocks.now c.copy.new.self (c.copy.ensures.lanes ∙ c.sound.ensures.lanes ∙ sym mono) (c.copy.ensures.frames ∙ own.frames c.index-blocks-place-2.result) (λ j earlier begins counted before channel m low now.
    let first : channel < 1 = subst (λ n. channel < n) mono low in
    c.copy.ensures.values channel m (subst (λ n. channel < n) (sym c.sound.ensures.lanes) first) (subst (λ n. m < n) (sym (own.frames c.index-blocks-place-2.result)) now)
    ∙ ap (λ lane. at c.sound.new.self lane m) (let zeroth : channel ≡ 0 = omega arith in zeroth)
    ∙ c.sound.ensures.values m (subst (λ n. m < n) (sym framed) now)
    ∙ ap (λ b. if b then at c.self.inside.levels 0 m else pos 0)
    (spanned (c.site.inside.quantum.now.first + m) (omega (arith, time, now, site.quantum.valid.spec.quantum.high)) ∙ ap (λ (x : SiteView). sounds_at s.world s.end.node.0 (x.first + m)) c.site.view_is)
    ∙ ap (λ x. if sounds_at s.world s.end.node.0 (s.first + m) then x else pos 0)
    (ap (λ (b : BlockView). at b 0 m) levels ∙ c.take_levels.ensures.levels before m now)))

-- where it does not sound, its levels are not asked
pub returns-in_default-clause-draws : goal.returns-in_default-clause-draws
returns-in_default-clause-draws c =
    let own = c.place-place.ensures.own c.args.blocks.now c.requires.fit in
    let s : SiteView = c.args.site.now in
    let all = c.silence.ensures.lanes ∙ lanes_own s _ c.requires.kind.1 refl (slice_index_or c.args.blocks.now c.place-place.result c.index-blocks-place.result) (own.lanes c.index-blocks-place.result) in
    own.draws c.silence.new.self (renders_own s _ c.requires.kind.1 refl c.args.blocks.now c.silence.new.self all (c.silence.ensures.frames ∙ own.frames c.index-blocks-place.result) (λ j earlier begins counted before channel m low now.
    let level = computed_value (quantum_of s.world.spec) (s.first + m) (past_of s c.args.blocks.now before) (here_of s c.args.blocks.now m) (param_id s.end.node.0 Offset) in
    c.silence.ensures.values channel m (subst (λ n. channel < n) (sym all ∙ c.silence.ensures.lanes) low) (subst (λ n. m < n) (sym (own.frames c.index-blocks-place.result)) now)
    ∙ ap (λ b. if b then level else pos 0) (sym (c.span.ensures.silent c.in_default.is m now))))
