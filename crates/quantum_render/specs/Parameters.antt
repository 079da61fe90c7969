-- A parameter's value before it is clamped to its nominal range.
use Rattle.std.specs.Prelude.{ℕ, ℤ, ◌+ℤ◌, ◌*◌, ◌/◌, if◌then◌else◌}
use Rattle.wa_base.specs.Numbers.{sat}
use Rattle.wa_base.specs.declared.graph_names.ParamId.{ParamId}
use Rattle.wa_base.specs.declared.graph_names.Interp.TheVariants.{Speakers}
use Rattle.conn_graph.specs.Graph.{edges_to_param}
use Rattle.meaning.specs.World.{intrinsic_value, is_k_rate}
use Rattle.meaning.specs.Values.{Frame, seen, mixed_sum}

-- It is the intrinsic value plus what connections carry, mixed to one channel, as a Fix. At k-rate both are taken at the first frame of the quantum.
unfoldable pub unclamped_value : ℕ → ℕ → (ℕ → Frame) → Frame → ParamId → ℤ
unclamped_value q f past here id =
    let g = if is_k_rate here.world id then q * (f / q) else f in
    sat (intrinsic_value here.world id g +ℤ mixed_sum (seen f past here g) Speakers 1 0 (edges_to_param here.world.graph.value id))
