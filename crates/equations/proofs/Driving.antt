-- The computed value of a parameter, by the connections that lead to its node.
use Rattle.std.proofs.Common.{ℕ, ℤ, ◌≡◌, ◌*◌, ◌/◌, ◌<◌, ◌≤◌, ◌^◌, ◌+ℤ◌, map, filter, Bool, true, false, sym, ◌∙◌, ap, ap₂, arith}
use Rattle.std.specs.Prelude.{if◌then◌else◌}
use Rattle.wa_base.specs.Numbers.{sat}
use Rattle.wa_base.specs.declared.graph_names.Interp.TheVariants.{Speakers}
use Rattle.wa_base.specs.declared.graph_names.ParamId.{ParamId}
use Rattle.mix_rules.specs.Mixing.{total}
use Rattle.conn_graph.specs.declared.edges.Target.TheVariants.{Param}
use Rattle.conn_graph.specs.Cells.{enters}
use Rattle.conn_graph.specs.Graph.{edges_to_param}
use Rattle.node_table.specs.declared.kinds.Kind.{Kind}
use Rattle.meaning.specs.declared.world.World.{World}
use Rattle.meaning.specs.World.{kind_of, intrinsic_value, is_k_rate, nominal}
use Rattle.meaning.specs.Values.{Frame, mixed_sum, computed_value}
use Rattle.explain.proofs.Agreeing.{seen_is}
use Rattle.derivations.specs.declared.places.Context.{Context}
use Rattle.derivations.specs.Contexts.{tape_in, world_of}
use Rattle.equations.specs.declared.sums.Lane.{Lane}
use Rattle.equations.specs.Given.{IsGiven, meaning_of, frame_of, frames_before}
use Rattle.equations.specs.Sums.{led_part}
use Rattle.equations.proofs.Entering.{total_led}

-- a frame of a short tape
pub frame_low : (q f long : ℕ) → 0 < q → f / q < long → q * long ≤ 2 ^ 62 → f ≤ 2 ^ 62
frame_low q f long some there short = grind (arith, some, there, short)

module _ (x : Context) (given : IsGiven x) (f : ℕ) (id : ParamId) where
  abbrev pub w : World
  w = world_of x f

  abbrev pub taken_by : Bool → ℕ
  taken_by t = if t then x.quantum * (f / x.quantum) else f

  abbrev pub taken : ℕ
  taken = taken_by (is_k_rate w id)

  early_by : (t : Bool) → taken_by t ≤ f
  early_by true = omega arith
  early_by false = omega arith

  pub early : taken ≤ f
  early = early_by (is_k_rate w id)

  abbrev mono : Lane
  mono = record { interp = Speakers; channels = 1; channel = 0 }

  pub param_is : (g : ℕ) (sum own : ℤ) (kind : Kind) → g ≡ taken → kind_of w id.node.0 ≡ kind
      → sum ≡ total (map (led_part (Param id) (frame_of x g) mono) (filter (enters id.node.0) w.graph.value.edges))
      → own ≡ intrinsic_value w id g
      → nominal kind (own +ℤ sat sum) ≡ computed_value x.quantum f (frames_before x f) (frame_of x f) id
  unfolding computed_value
  param_is g sum own kind at is sum_is own_is =
      ap (λ k. nominal k (own +ℤ sat sum)) (sym is)
      ∙ ap₂ (λ y z. nominal (kind_of w id.node.0) (y +ℤ sat z)) own_is (sum_is ∙ total_led (Param id) (frame_of x g) mono w.graph.value.edges)
      ∙ ap (λ k. nominal (kind_of w id.node.0) (intrinsic_value w id k +ℤ mixed_sum (frame_of x k) Speakers 1 0 (edges_to_param w.graph.value id))) at
      ∙ ap (λ (y : Frame). nominal (kind_of w id.node.0) (intrinsic_value w id taken +ℤ mixed_sum y Speakers 1 0 (edges_to_param w.graph.value id))) (sym (seen_is x.quantum (tape_in x) (meaning_of x) f taken early))
