use Rattle.std.proofs.Common.{ℕ, ℤ, ◌≡◌, ◌<◌, ◌+◌, ◌+ℤ◌, slice_index_or, map, filter, Bool, true, false, refl, sym, ◌∙◌, ap, arith, subst, Some}
use Rattle.std.proofs.Math.IntN.{+ℤ_idr}
use Rattle.std.proofs.lemmas.List.{get_or_default}
use Rattle.wa_base.specs.Contexts.{quantum_of}
use Rattle.wa_base.specs.Numbers.{sat}
use Rattle.wa_base.specs.declared.graph_names.ParamId.{ParamId}
use Rattle.wa_base.specs.declared.graph_names.ParamName.{ParamName}
use Rattle.meaning.specs.declared.world.World.{World}
use Rattle.std.specs.Prelude.{if◌then◌else◌}
use Rattle.wa_base.specs.declared.graph_names.Interp.TheVariants.{Speakers}
use Rattle.mix_rules.specs.Mixing.{total}
use Rattle.conn_graph.specs.declared.edges.Target.TheVariants.{Param}
use Rattle.std.specs.List.{list_any}
use Rattle.law_base.specs.Members.{IsIn}
use Rattle.meaning.specs.Validity.{param_ids}
use Rattle.meaning.specs.Values.{part}
use Rattle.meaning.specs.World.{sounding, kind_of, is_k, is_k_rate, intrinsic_value, param_id}
use Rattle.automation.specs.Levels.{LevelView, HasRoom, level_at, level_of, no_level}
use Rattle.quantum_blocks.specs.Blocks.{frame_of}
use Rattle.quantum_blocks.specs.Connections.{leads_to}
use Rattle.quantum_blocks.specs.Fits.{AreFit, AreSources}
use Rattle.channel_mix.specs.Sums.{sum_at}
use Rattle.quantum_render.specs.Benches.{BenchView}
use Rattle.quantum_render.specs.Sites.{SiteView, IsSite}
use Rattle.node_table.specs.Kinds.{param_name}
use Rattle.quantum_blocks.proofs.Sources.{end_low}
use Rattle.quantum_render.proofs.Automated.{has_param, has_room, level_within, rate_is, intrinsic_is}
use Rattle.quantum_render.proofs.InputLaws.{sat_of_fix}
use Rattle.quantum_render.proofs.LevelLaws.{taken_at, level_is, level_unreached, unclamped_is}
use Rattle.quantum_render.proofs.Rendering.{site_is}
use Rattle.quantum_render.proofs.SiteLaws.{source_is, site_few}
use Rattle.quantum_render.proofs.bench.Bench.take_sums.Goals as goal

-- the parameter that the kind has is there
is_there : (s : SiteView) → IsSite s.world s.end s.into s.counts s.levels s.first → (name : ParamName) → param_name (kind_of s.world s.end.node.0) ≡ Some name → IsIn (param_id s.end.node.0 name) (param_ids s.world)
is_there s site name some = has_param s.world site.quantum.valid s.end.node.0 name (end_low s.world site.quantum.valid s.end site.there) some

pub bounds-site-inside-site-inside : goal.bounds-site-inside-site-inside
bounds-site-inside-site-inside c =
    level_within c.site.inside.quantum.now.world.now c.site.invariant.0.quantum.valid c.site.inside.quantum.now.first c.site.inside.quantum.now.levels.now c.site.invariant.0.quantum.levels (param_id c.site.inside.end.node.0 c.args.name)
    (subst (λ (x : SiteView). IsIn (param_id x.end.node.0 c.args.name) (param_ids x.world)) (sym c.site.view_is)
    (is_there c.args.site.now (site_is c.args.site.now _ _ _ _ _ _ c.site.invariant.0 c.site.view_is) c.args.name c.requires.there))

pub take_level-requires-clause-level : goal.take_level-requires-clause-level
take_level-requires-clause-level c =
    let there = subst (λ (x : SiteView). IsIn (param_id x.end.node.0 c.args.name) (param_ids x.world)) (sym c.site.view_is)
    (is_there c.args.site.now (site_is c.args.site.now _ _ _ _ _ _ c.site.invariant.0 c.site.view_is) c.args.name c.requires.there) in
    let w = c.site.inside.quantum.now.world.now in
    let id = param_id c.site.inside.end.node.0 c.args.name in
    subst (λ n. HasRoom n (slice_index_or c.site.inside.quantum.now.levels.now c.site.inside.end.node.0 c.index-site-site.result)) (ap (λ (x : SiteView). quantum_of x.world.spec) c.site.view_is ∙ sym (c.self.invariant.levels_frames ∙ ap (λ (b : BenchView). b.frames) c.self.view_is ∙ c.requires.frames))
    (subst (HasRoom (quantum_of w.spec)) (get_or_default c.site.inside.quantum.now.levels.now c.site.inside.end.node.0 no_level c.index-site-site.result (level_within w c.site.invariant.0.quantum.valid c.site.inside.quantum.now.first c.site.inside.quantum.now.levels.now c.site.invariant.0.quantum.levels id there))
    (has_room w c.site.invariant.0.quantum.valid c.site.inside.quantum.now.first c.site.inside.quantum.now.levels.now c.site.invariant.0.quantum.levels id there))

pub gather-requires-clause-few : goal.gather-requires-clause-few
gather-requires-clause-few c = site_few _ _ _ _ _ _ c.site.invariant.0

pub gather-requires-clause-sources : goal.gather-requires-clause-sources
gather-requires-clause-sources c =
    subst (λ n. AreSources n c.site.inside.quantum.now.counts.now c.args.blocks.now c.site.inside.into.now) (ap (λ (x : SiteView). quantum_of x.world.spec) c.site.view_is ∙ sym (c.self.invariant.summed ∙ ap (λ (b : BenchView). b.frames) c.self.view_is ∙ c.requires.frames))
    (source_is _ _ _ _ _ _ c.args.blocks.now c.site.invariant.0 (subst (λ (x : SiteView). AreFit x.world x.counts c.args.blocks.now) (sym c.site.view_is) c.requires.fit))

-- the level that is at hand is that of the site's node
here : (s : SiteView) → IsSite s.world s.end s.into s.counts s.levels s.first → (name : ParamName) → IsIn (param_id s.end.node.0 name) (param_ids s.world) → (level d : LevelView)
    → level ≡ slice_index_or s.levels s.end.node.0 d → level_of s.levels s.end.node.0 ≡ level
here s site name there level d is =
    get_or_default s.levels s.end.node.0 no_level d (level_within s.world site.quantum.valid s.first s.levels site.quantum.levels (param_id s.end.node.0 name) there) ∙ sym is

intrinsic : (s : SiteView) → IsSite s.world s.end s.into s.counts s.levels s.first → (name : ParamName) → IsIn (param_id s.end.node.0 name) (param_ids s.world) → (level d : LevelView)
    → level ≡ slice_index_or s.levels s.end.node.0 d → (m : ℕ) → m < quantum_of s.world.spec → intrinsic_value (sounding s.world) (param_id s.end.node.0 name) (s.first + taken_at (sounding s.world) (param_id s.end.node.0 name) m) ≡ level_at level m
intrinsic s site name there level d is m now =
    intrinsic_is s.world site.quantum.valid s.first s.levels site.quantum.levels (param_id s.end.node.0 name) there m now ∙ ap (λ (l : LevelView). level_at l m) (here s site name there level d is)

rate : (s : SiteView) → IsSite s.world s.end s.into s.counts s.levels s.first → (name : ParamName) → IsIn (param_id s.end.node.0 name) (param_ids s.world) → (level d : LevelView)
    → level ≡ slice_index_or s.levels s.end.node.0 d → is_k_rate (sounding s.world) (param_id s.end.node.0 name) ≡ is_k level.rate
rate s site name there level d is = rate_is s.world site.quantum.valid s.first s.levels site.quantum.levels (param_id s.end.node.0 name) there ∙ ap (λ (l : LevelView). is_k l.rate) (here s site name there level d is)

-- at k-rate all frames take the first one's
at_first : (w : World) (id : ParamId) (m : ℕ) → is_k_rate w id ≡ true → taken_at w id 0 ≡ taken_at w id m
at_first w id m k = ap (λ (b : Bool). if b then 0 else 0) k ∙ ap (λ (b : Bool). if b then 0 else m) (sym k)

pub returns-then-not-is_reached-clause-levels : goal.returns-then-not-is_reached-clause-levels
returns-then-not-is_reached-clause-levels c before m now =
    let s : SiteView = c.args.site.now in
    let site = site_is s _ _ _ _ _ _ c.site.invariant.0 c.site.view_is in
    let own = c.self.invariant.levels_frames ∙ ap (λ (b : BenchView). b.frames) c.self.view_is ∙ c.requires.frames in
    let d : LevelView = c.index-site-site.result in
    let level : LevelView = slice_index_or c.site.inside.quantum.now.levels.now c.site.inside.end.node.0 d in
    let is = subst (λ (x : SiteView). level ≡ slice_index_or x.levels x.end.node.0 d) c.site.view_is refl in
    let value : ℤ = level_at level m in
    let now' : m < c.self.inside.levels.frames = subst (λ n. m < n) (sym own) now in
    c.take_level.ensures.values m now'
    ∙ sym (sat_of_fix value (c.take_level.ensures.fit m now'))
    ∙ ap sat (sym (+ℤ_idr value))
    ∙ level_unreached (sounding s.world) c.args.blocks.now s.counts (param_id s.end.node.0 c.args.name) s.first m s.into value (is_k level.rate) now
    site.into
    (intrinsic s site c.args.name (is_there s site c.args.name c.requires.there) level d is m now)
    (rate s site c.args.name (is_there s site c.args.name c.requires.there) level d is)
    (subst (λ (x : SiteView). list_any (leads_to (Param (param_id x.end.node.0 c.args.name))) x.into ≡ false) c.site.view_is (sym c.is_reached.ensures ∙ c.if-not-is_reached.true))
    ∙ unclamped_is (sounding s.world) c.args.blocks.now s.counts before s.first m site.quantum.begun now (param_id s.end.node.0 c.args.name)

pub returns-in-A-clause-levels : goal.returns-in-A-clause-levels
returns-in-A-clause-levels c before m now =
    let s : SiteView = c.args.site.now in
    let site = site_is s _ _ _ _ _ _ c.site.invariant.0 c.site.view_is in
    let own = c.self.invariant.levels_frames ∙ ap (λ (b : BenchView). b.frames) c.self.view_is ∙ c.requires.frames in
    let d : LevelView = c.index-site-site.result in
    let level : LevelView = slice_index_or c.site.inside.quantum.now.levels.now c.site.inside.end.node.0 d in
    let is = subst (λ (x : SiteView). level ≡ slice_index_or x.levels x.end.node.0 d) c.site.view_is refl in
    let summed = c.self.invariant.summed ∙ ap (λ (b : BenchView). b.frames) c.self.view_is ∙ c.requires.frames in
    let now' : m < c.self.inside.levels.frames = subst (λ n. m < n) (sym own) now in
    c.add.ensures.values m (subst (λ n. m < n) (sym c.take_level.ensures.frames) now')
    ∙ ap (λ v. sat (v +ℤ sat (sum_at c.gather.new.sums 0 m))) (c.take_level.ensures.values m now')
    ∙ level_is (sounding s.world) c.args.blocks.now s.counts (param_id s.end.node.0 c.args.name) s.first m s.into (λ k. sum_at c.gather.new.sums 0 k) (level_at level m) false now
    site.into
    (intrinsic s site c.args.name (is_there s site c.args.name c.requires.there) level d is m now)
    (rate s site c.args.name (is_there s site c.args.name c.requires.there) level d is ∙ ap is_k (sym c.rate.ensures ∙ c.in-A.is))
    (λ k low.
    subst (λ (x : SiteView). sum_at c.gather.new.sums 0 k ≡ total (map (part (frame_of (sounding s.world) c.args.blocks.now x.counts k) Speakers 1 0) (filter (leads_to (Param (param_id x.end.node.0 c.args.name))) x.into))) c.site.view_is
    (c.gather.ensures.sums (sounding s.world) 0 k (omega arith) (subst (λ n. k < n) (sym summed) low)))
    ∙ unclamped_is (sounding s.world) c.args.blocks.now s.counts before s.first m site.quantum.begun now (param_id s.end.node.0 c.args.name)

pub returns-in-K-clause-levels : goal.returns-in-K-clause-levels
returns-in-K-clause-levels c before m now =
    let s : SiteView = c.args.site.now in
    let site = site_is s _ _ _ _ _ _ c.site.invariant.0 c.site.view_is in
    let own = c.self.invariant.levels_frames ∙ ap (λ (b : BenchView). b.frames) c.self.view_is ∙ c.requires.frames in
    let d : LevelView = c.index-site-site.result in
    let level : LevelView = slice_index_or c.site.inside.quantum.now.levels.now c.site.inside.end.node.0 d in
    let is = subst (λ (x : SiteView). level ≡ slice_index_or x.levels x.end.node.0 d) c.site.view_is refl in
    let k_rate = rate s site c.args.name (is_there s site c.args.name c.requires.there) level d is ∙ ap is_k (sym c.rate.ensures ∙ c.in-K.is) in
    let summed = c.self.invariant.summed ∙ ap (λ (b : BenchView). b.frames) c.self.view_is ∙ c.requires.frames in
    let some : 0 < quantum_of s.world.spec = omega (arith, now) in
    let first : 0 < c.self.inside.levels.frames = subst (λ n. 0 < n) (sym own) some in
    c.hold_first.ensures.values m (subst (λ n. m < n) (sym (c.add.ensures.frames ∙ c.take_level.ensures.frames ∙ own)) now)
    ∙ c.add.ensures.values 0 (subst (λ n. 0 < n) (sym c.take_level.ensures.frames) first)
    ∙ ap (λ v. sat (v +ℤ sat (sum_at c.gather.new.sums 0 0))) (c.take_level.ensures.values 0 first)
    ∙ level_is (sounding s.world) c.args.blocks.now s.counts (param_id s.end.node.0 c.args.name) s.first m s.into (λ k. sum_at c.gather.new.sums 0 k) (level_at level 0) true now
    site.into
    (subst (λ j. intrinsic_value (sounding s.world) (param_id s.end.node.0 c.args.name) (s.first + j) ≡ level_at level 0)
    (at_first (sounding s.world) (param_id s.end.node.0 c.args.name) m k_rate) (intrinsic s site c.args.name (is_there s site c.args.name c.requires.there) level d is 0 some))
    k_rate
    (λ k low.
    subst (λ (x : SiteView). sum_at c.gather.new.sums 0 k ≡ total (map (part (frame_of (sounding s.world) c.args.blocks.now x.counts k) Speakers 1 0) (filter (leads_to (Param (param_id x.end.node.0 c.args.name))) x.into))) c.site.view_is
    (c.gather.ensures.sums (sounding s.world) 0 k (omega arith) (subst (λ n. k < n) (sym summed) low)))
    ∙ unclamped_is (sounding s.world) c.args.blocks.now s.counts before s.first m site.quantum.begun now (param_id s.end.node.0 c.args.name)
