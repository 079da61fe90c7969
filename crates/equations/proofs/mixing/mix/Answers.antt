use Rattle.std.proofs.Common.{rules, ◌≡◌, ◌≤◌, ◌+◌, ◌*◌, ◌^◌, ◌+ℤ◌, ◌*ℤ◌, ℕ, ℤ, FitsSigned, ap, ap₂, sym, ◌∙◌, arith, add-one, to_z, of_z}
use Rattle.std.specs.Prelude.{unsigned_abs}
use Rattle.std.specs.Int.{w128}
use Rattle.std.proofs.lemmas.Int.{to_z-of_z}
use Rattle.wa_base.specs.Numbers.{rnd}
use Rattle.lane_kern.specs.Blocks.{at}
use Rattle.equations.proofs.Weights.{weighted, weight, mix_by_weights}
use Rattle.equations.proofs.mixing.mix.Goals as goal

pub loop-input-preserved : goal.loop-input-preserved
loop-input-preserved c =
    let fits : FitsSigned w128 c.with_product-sum.result = search rules in
    let samples = c.args.carried.now.samples in
    let i = c.loop-input.input in
    let value : c.with_product-sum.result ≡ c.loop-input.sum +ℤ c.weight-weight.result *ℤ at samples i = search rules in
    let weights = weight c.args.interp c.args.carried.now.count c.args.to c.args.channel in
    let before : c.loop-input.sum ≡ weighted weights (at samples) i = search rules in
    let bound : unsigned_abs c.with_product-sum.result ≤ unsigned_abs c.loop-input.sum + 2 ^ 97 = search rules in
    let so_far : unsigned_abs c.loop-input.sum ≤ i * 2 ^ 97 = search rules in
    record {
      value =
          to_z-of_z _ _ fits ∙ value ∙ ap₂ (λ (y z : ℤ). y +ℤ z *ℤ at samples i) before c.weight-weight.ensures.value
          ∙ sym (ap (weighted weights (at samples)) (add-one i));
      small = simp (to_z-of_z _ _ fits) (omega (arith, bound, so_far));
    }

pub returns-clause-value : goal.returns-clause-value
returns-clause-value c =
    let samples = c.args.carried.now.samples in
    let many : ℕ = c.args.carried.now.count in
    let weights = weight c.args.interp many c.args.to c.args.channel in
    let fits : FitsSigned w128 c.rnd_div.result = search rules in
    let all : c.loop-input.input ≡ many = search (rules, arith) in
    let sum : to_z w128 c.loop-input.sum-bits ≡ weighted weights (at samples) c.loop-input.input = search rules in
    to_z-of_z _ _ fits ∙ c.rnd_div.ensures
    ∙ ap₂ (λ (x y : ℤ). rnd x y) (sum ∙ ap (weighted weights (at samples)) all) (ap (λ (z : ℤ). to_z w128 (of_z w128 z)) c.from.ensures)
    ∙ mix_by_weights c.args.interp many c.args.to c.args.channel (at samples)
