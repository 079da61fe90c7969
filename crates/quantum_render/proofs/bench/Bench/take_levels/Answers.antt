use Rattle.quantum_render.proofs.RowCounts.{own_row}
use Rattle.wa_base.specs.declared.graph_names.ParamName.{ParamName}
use Rattle.std.specs.Prelude.{IfSome, option_map}
use Rattle.std.proofs.Common.{sym, ℤ, pos, negsuc, ◌≡◌, ◌<◌, ◌+◌, Some, ◌∙◌, ap, ap₂, arith, subst, FitsSigned, Option, None, refl}
use Rattle.std.specs.Int.{w32}
use Rattle.std.proofs.lemmas.Int.{ints, to_z-of_z}
use Rattle.wa_base.specs.Contexts.{quantum_of}
use Rattle.wa_base.specs.Numbers.{IsFix}
use Rattle.node_table.specs.declared.rows.ParamRow.{ParamRow}
use Rattle.node_table.specs.declared.rows.Row.{Row}
use Rattle.node_table.proofs.NodeLists.{IsRange}
use Rattle.meaning.specs.World.{param_id, up_to}
use Rattle.meaning.proofs.NodeKinds.{row_there}
use Rattle.quantum_render.specs.Benches.{BenchView}
use Rattle.quantum_blocks.specs.Blocks.{BlockView, at}
use Rattle.quantum_render.specs.Renders.{past_of, here_of}
use Rattle.quantum_render.specs.Sites.{SiteView}
use Rattle.quantum_render.proofs.LevelLaws.{computed_is, limited_is}
use Rattle.quantum_render.proofs.bench.Bench.take_levels.Goals as goal

fix_fits : (x : ℤ) → IsFix x → FitsSigned w32 x
fix_fits (pos n) is = let high = is.1 in omega (arith, ints)
fix_fits (negsuc n) is = let low = is.0 in omega (arith, ints)

pub returns-in-Any-clause-levels : goal.returns-in-Any-clause-levels
returns-in-Any-clause-levels c before m now =
    let s : SiteView = c.args.site.now in
    let site = c.kind.ensures.site in
    let own = own_row s.world s.end.node.0 c.kind.result.now c.row.result (sym c.kind.ensures.value) c.row.ensures in
    c.take_sums.ensures.levels before m now
    ∙ computed_is (quantum_of s.world.spec) (s.first + m) (past_of s c.args.blocks.now before) (here_of s c.args.blocks.now m) (param_id s.end.node.0 c.args.name) c.in-Some.param (ap (λ (r : Row). r.param) own ∙ c.in-Some.is) c.in-Any.is

-- a nominal range ends at a Fix
pub returns-in-UpTo-clause-levels : goal.returns-in-UpTo-clause-levels
returns-in-UpTo-clause-levels c before m now =
    let s : SiteView = c.args.site.now in
    let site = c.kind.ensures.site in
    let own = own_row s.world s.end.node.0 c.kind.result.now c.row.result (sym c.kind.ensures.value) c.row.ensures in
    let param = ap (λ (r : Row). r.param) own ∙ c.in-Some.is in
    let range = subst (λ (o : Option ParamRow). IfSome o (λ p. IsRange p.range)) param (row_there s.world site.quantum.valid s.end.node.0).range in
    let fix : IsFix c.in-UpTo.most = subst IsRange c.in-UpTo.is range in
    let levels : c.self.inside.levels ≡ c.take_sums.new.self.levels = ap (λ (b : BenchView). b.levels) c.self.view_is in
    let own = c.self.invariant.levels_frames ∙ ap (λ (b : BenchView). b.frames) c.self.view_is ∙ c.take_sums.ensures.frames ∙ c.requires.frames in
    c.up_to.ensures.values m (subst (λ n. m < n) (sym own) now)
    ∙ ap₂ up_to (to_z-of_z _ _ (fix_fits _ fix)) (ap (λ (b : BlockView). at b 0 m) levels ∙ c.take_sums.ensures.levels before m now)
    ∙ limited_is (quantum_of s.world.spec) (s.first + m) (past_of s c.args.blocks.now before) (here_of s c.args.blocks.now m) (param_id s.end.node.0 c.args.name) c.in-Some.param param c.in-UpTo.most c.in-UpTo.is fix

-- the kind has the parameter
there_is_one : (param : Option ParamRow) (name : ParamName) → option_map (λ (p : ParamRow). p.name) param ≡ Some name → ((p : ParamRow) → param ≡ Some p → ⊥) → ⊥
there_is_one None name has none = absurd cc
there_is_one (Some p) name has none = none p refl

pub returns-in_default-clause-levels : goal.returns-in_default-clause-levels
returns-in_default-clause-levels c before m now =
    let s : SiteView = c.args.site.now in
    let site = c.kind.ensures.site in
    let own = own_row s.world s.end.node.0 c.kind.result.now c.row.result (sym c.kind.ensures.value) c.row.ensures in
    absurd (there_is_one c.row.result.param c.args.name (subst (λ (r : Row). option_map (λ (p : ParamRow). p.name) r.param ≡ Some c.args.name) own c.requires.there) c.in_default.not-Some)
