use Rattle.std.proofs.Common.{◌-◌, ℤ, List, length, ap, subst, sym, ◌∙◌, arith, to_z, of_z}
use Rattle.std.specs.Int.{w32}
use Rattle.std.specs.Vec.{with_items}
use Rattle.std.proofs.lemmas.Int.{to_z-of_z}
use Rattle.std.proofs.lemmas.List.{with_items_is, length-set}
use Rattle.convolve.specs.LineInside.{frames_of}
use Rattle.convolve.specs.Lines.{in_front, IsQuiet}
use Rattle.convolve.proofs.Fronts.{pushed, frames_long}
use Rattle.convolve.proofs.lines.Line.push.Goals as goal

pub invariant_of-self : goal.invariant_of-self
invariant_of-self c =
    let inside = c.self.inside in
    let items = with_items_is inside.samples c.room_in_front-start.new.samples (c.room_in_front-start.auto.samples ∙ c.deref_mut.ensures.len) in
    let back = c.room_in_front-start.auto.samples ∙ ap length c.deref_mut.ensures.value in
    let room = c.room_in_front-start.ensures.there in
    let lent = ap length c.deref_mut.ensures.value in
    let some = c.room_in_front-start.ensures.some in
    let front = pushed inside.samples.items c.deref_mut.result.now c.room_in_front-start.new.samples _ inside.start c.room_in_front-start.result inside.kept _ c.deref_mut.ensures.value items back some (omega (arith, room, lent)) c.room_in_front-start.ensures.same in
    let long = ap length items ∙ back in
    let same = length-set (with_items inside.samples c.room_in_front-start.new.samples).items (c.room_in_front-start.result - 1) (to_z w32 (of_z w32 c.args.x)) ∙ long in
    let zeros = c.quiet_after-self-inside.ensures.zeros (frames_of inside) (frames_long inside.samples.items inside.start inside.kept c.self.invariant.there) c.self.invariant.zeros in
    record {
      short = c.self.invariant.short;
      there = omega (arith, same, room, lent, some);
      spare = omega (arith, same, c.self.invariant.spare);
      quiet = c.quiet_after-self-inside.ensures.few;
      zeros = subst (λ (v : List ℤ). IsQuiet c.quiet_after-self-inside.result v) (sym front) zeros;
    }

pub returns : goal.returns
returns c =
    let inside = c.self.inside in
    let items = with_items_is inside.samples c.room_in_front-start.new.samples (c.room_in_front-start.auto.samples ∙ c.deref_mut.ensures.len) in
    let back = c.room_in_front-start.auto.samples ∙ ap length c.deref_mut.ensures.value in
    let room = c.room_in_front-start.ensures.there in
    let lent = ap length c.deref_mut.ensures.value in
    let some = c.room_in_front-start.ensures.some in
    let front = pushed inside.samples.items c.deref_mut.result.now c.room_in_front-start.new.samples _ inside.start c.room_in_front-start.result inside.kept _ c.deref_mut.ensures.value items back some (omega (arith, room, lent)) c.room_in_front-start.ensures.same in
    front ∙ ap (λ x. in_front x (frames_of inside)) (to_z-of_z _ _ c.ranges.x) ∙ ap (in_front c.args.x) c.self.view_is
