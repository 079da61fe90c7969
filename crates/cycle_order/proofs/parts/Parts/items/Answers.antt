use Rattle.std.proofs.Common.{sym, ◌∙◌, ap}
use Rattle.std.specs.List.{flat_map}
use Rattle.cycle_order.proofs.Bounds.{flat_parts}
use Rattle.cycle_order.proofs.parts.Parts.items.Goals as goal

pub returns : goal.returns
returns g c =
    c.as_slice.ensures.value
    ∙ sym (flat_parts c.self.inside.bounds.items c.self.inside.items.items c.self.invariant)
    ∙ ap (flat_map (λ part. part)) c.self.view_is
