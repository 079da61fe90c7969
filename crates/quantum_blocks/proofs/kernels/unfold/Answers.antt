use Rattle.std.proofs.Common.{ℕ, ℤ, List, rules, pos, ◌≡◌, ◌<◌, ◌+◌, ◌-◌, ◌*◌, length, take, drop, slice_index_or, ◌∙◌, refl, arith, FitsSigned, ◌≤◌}
use Rattle.std.specs.Int.{w32}
use Rattle.std.proofs.lemmas.Int.{to_z-of_z}
use Rattle.quantum_blocks.proofs.Lanes.{unfolded_more, next_lane_length, next_lane_kept}
use Rattle.quantum_blocks.proofs.kernels.unfold.Goals as goal

pub loop-lane-preserved : goal.loop-lane-preserved
loop-lane-preserved c =
    let q : ℕ = c.args.frames in
    let k : ℕ = c.loop-lane.lane - 1 in
    let now : List ℤ = c.loop-lane.values in
    let same = c.loop-lane.invariant.length in
    let within = c.loop-lane.invariant.within in
    let room = c.requires.length in
    let some = c.loop-lane-test.true in
    let fits : FitsSigned w32 (slice_index_or now k (pos 0)) = search rules in
    let begun : 0 < q = let size = c.requires.frames.low in omega (arith, size) in
    let wide : c.args.lanes * q ≤ length now = omega (arith, same, room) in
    let below : k < c.args.lanes = omega (arith, within, some) in
    let part : length (take ((k + 1) * q - k * q) (drop (k * q) now)) ≡ q = next_lane_length q c.args.lanes k now wide below in
    let long : length c.fill.new.block ≡ q = c.fill.ensures.length ∙ part in
    let kept = next_lane_kept q c.args.lanes k now c.fill.new.block wide below long in
    unfolded_more q c.args.lanes c.loop-lane.lane k c.args.values.now now c.fill.new.block (slice_index_or now k (pos 0)) begun room (omega (arith, some)) c.loop-lane.invariant (kept ∙ same) long refl
    (λ m here. c.fill.ensures.values m (omega (arith, part)) ∙ to_z-of_z _ _ fits)
