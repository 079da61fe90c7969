use Rattle.std.proofs.Common.{◌≤◌, List, ℤ, subst, sym}
use Rattle.std.proofs.lemmas.Int.{to_z-of_z}
use Rattle.shaper_iir.specs.Scales.{greatest}
use Rattle.shaper_iir.proofs.Weights.{front_small}
use Rattle.shaper_iir.proofs.histories.History.hear.Goals as goal

pub small_output-y-requires-clause-small : goal.small_output-y-requires-clause-small
small_output-y-requires-clause-small c =
    let quiet = c.requires.history c.if-is_small.true in
    let near = c.requires.x c.if-is_small.true in
    let items = simp (to_z-of_z _ _ c.ranges.x) at c.push_front.ensures in
    record {
      inputs_small = subst (λ (v : List ℤ). greatest v ≤ c.args.scale.now.reach) (sym items) (front_small c.args.x c.args.self.now.inputs c.args.scale.now.reach quiet.inputs_small near);
      outputs_small = quiet.outputs_small;
    }
