use Rattle.std.proofs.Common.{rules, pos, ◌≡◌, ◌+ℤ◌, slice_index_or, to_z, of_z, ◌∙◌, ap, arith, FitsSigned}
use Rattle.std.specs.Int.{w32, w64}
use Rattle.std.proofs.lemmas.Int.{to_z-of_z}
use Rattle.std.proofs.lemmas.List.{get_or-set_other}
use Rattle.wa_base.specs.Numbers.{sat}
use Rattle.channel_mix.proofs.Made.{made_more}
use Rattle.channel_mix.proofs.settling.each_level_on.Goals as goal

pub loop-level-preserved : goal.loop-level-preserved
loop-level-preserved c =
    let m = c.loop-level.level-index in
    let inv = c.loop-level.invariant in
    let new : FitsSigned w32 c.level_of.result = search rules in
    let level : FitsSigned w32 (slice_index_or c.loop-level.level-items m (pos 0)) = search rules in
    record {
      made = made_more _ m c.loop-level.level-items _ inv.made (omega (arith, c.loop-level-test.true, c.loop-level.auto.level-items))
          (to_z-of_z _ _ new ∙ c.level_of.ensures ∙ ap (λ v. sat (v +ℤ sat (to_z w64 (of_z w64 c.args.sum)))) (to_z-of_z _ _ level ∙ inv.rest m (omega arith)));
      rest = λ k past. get_or-set_other c.loop-level.level-items m k _ (pos 0) (λ e. let same : k ≡ m = e in omega arith) ∙ inv.rest k (omega arith);
    }

pub returns-clause-levels : goal.returns-clause-levels
returns-clause-levels c m low =
    let sum : FitsSigned w64 c.args.sum = search rules in
    c.loop-level.invariant.made m (omega (arith, c.loop-level-test.false)) ∙ ap (λ x. sat (slice_index_or c.args.levels.now m (pos 0) +ℤ sat x)) (to_z-of_z _ _ sum)
