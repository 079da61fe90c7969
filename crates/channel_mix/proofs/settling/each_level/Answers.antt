use Rattle.std.proofs.Common.{rules, pos, ◌≡◌, ◌+ℤ◌, slice_index_or, to_z, of_z, ◌∙◌, ap, ap₂, arith, FitsSigned}
use Rattle.std.specs.Int.{w32, w64}
use Rattle.std.proofs.lemmas.Int.{to_z-of_z}
use Rattle.std.proofs.lemmas.List.{get_or-set_other}
use Rattle.wa_base.specs.Numbers.{sat}
use Rattle.channel_mix.proofs.Made.{made_more}
use Rattle.channel_mix.proofs.settling.each_level.Goals as goal

pub loop-m-preserved : goal.loop-m-preserved
loop-m-preserved c =
    let m = c.loop-m.m in
    let inv = c.loop-m.invariant in
    let new : FitsSigned w32 c.level_of.result = search rules in
    let level : FitsSigned w32 (slice_index_or c.loop-m.levels m (pos 0)) = search rules in
    let sum : FitsSigned w64 c.sum_of.result = search rules in
    let moving : FitsSigned w64 (slice_index_or c.args.sums.now m (pos 0)) = search rules in
    record {
      made = made_more _ m c.loop-m.levels _ inv.made (omega (arith, c.loop-m-test.true, c.loop-m.auto.levels))
          (to_z-of_z _ _ new
          ∙ c.level_of.ensures
          ∙ ap₂ (λ v x. sat (v +ℤ sat x)) (to_z-of_z _ _ level ∙ inv.rest m (omega arith)) (to_z-of_z _ _ sum ∙ c.sum_of.ensures ∙ ap (λ x. to_z w64 (of_z w64 c.args.held) +ℤ x) (to_z-of_z _ _ moving)));
      rest = λ k past. get_or-set_other c.loop-m.levels m k _ (pos 0) (λ e. let same : k ≡ m = e in omega arith) ∙ inv.rest k (omega arith);
    }
