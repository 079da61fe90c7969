use Rattle.std.proofs.Common.{length, arith, ap}
use Rattle.cycle_order.proofs.Bounds.{length-parts}
use Rattle.cycle_order.proofs.parts.Parts.len.Goals as goal

pub returns : goal.returns
returns g c =
    let bounds = c.self.inside.bounds in
    let number = length-parts bounds.items c.self.inside.items.items in
    let seen = ap length c.self.view_is in
    let own = c.len.ensures in
    let same = bounds.ok.0 in
    omega arith
