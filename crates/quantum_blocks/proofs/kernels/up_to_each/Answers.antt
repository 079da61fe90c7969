use Rattle.std.proofs.Common.{rules, pos, ◌≡◌, slice_index_or, to_z, of_z, ◌∙◌, ap, arith, FitsSigned}
use Rattle.std.specs.Int.{w32}
use Rattle.std.proofs.lemmas.Int.{to_z-of_z}
use Rattle.std.proofs.lemmas.List.{get_or-set_other}
use Rattle.meaning.specs.World.{up_to}
use Rattle.channel_mix.proofs.Made.{made_more}
use Rattle.quantum_blocks.proofs.kernels.up_to_each.Goals as goal

pub loop-value-preserved : goal.loop-value-preserved
loop-value-preserved c =
    let m = c.loop-value.value-index in
    let inv = c.loop-value.invariant in
    let new : FitsSigned w32 c.up_to.result = search rules in
    let value : FitsSigned w32 (slice_index_or c.loop-value.value-items m (pos 0)) = search rules in
    record {
      made = made_more _ m c.loop-value.value-items _ inv.made (omega (arith, c.loop-value-test.true, c.loop-value.auto.value-items))
          (to_z-of_z _ _ new ∙ c.up_to.ensures ∙ ap (up_to (to_z w32 (of_z w32 c.args.most))) (to_z-of_z _ _ value ∙ inv.rest m (omega arith)));
      rest = λ k past. get_or-set_other c.loop-value.value-items m k _ (pos 0) (λ e. let same : k ≡ m = e in omega arith) ∙ inv.rest k (omega arith);
    }

pub returns-clause-values : goal.returns-clause-values
returns-clause-values c m low =
    let most : FitsSigned w32 c.args.most = search rules in
    c.loop-value.invariant.made m (omega (arith, c.loop-value-test.false)) ∙ ap (λ x. up_to x (slice_index_or c.args.values.now m (pos 0))) (to_z-of_z _ _ most)
