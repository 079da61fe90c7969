use Rattle.std.proofs.Common.{rules, pos, ◌≡◌, ◌+◌, ◌*◌, slice_index_or, sym, ◌∙◌, ap, arith, FitsSigned, ◌<◌, subst}
use Rattle.std.specs.Int.{w32}
use Rattle.std.proofs.lemmas.Int.{to_z-of_z}
use Rattle.quantum_blocks.proofs.block.Block.set_lane.Goals as goal

pub returns-in-Steady-clause-own : goal.returns-in-Steady-clause-own
returns-in-Steady-clause-own c m now =
    let held = c.in-Steady.ensures in
    let mono = c.requires.mono in
    let heard = subst (λ k. m < k) (sym c.requires.frames) now in
    let fits : FitsSigned w32 (slice_index_or c.in-Steady.held.now 0 (pos 0)) = search rules in
    c.set_steady.ensures.own m now ∙ to_z-of_z _ _ fits ∙ sym (held.1 0 m (omega arith) heard)

pub returns-in-Moving-clause-own : goal.returns-in-Moving-clause-own
returns-in-Moving-clause-own c m now =
    let held = c.in-Moving.ensures in
    let mono = c.requires.mono in
    let heard = subst (λ k. m < k) (sym c.requires.frames) now in
    c.set_moving.ensures.own m now ∙ ap (λ k. slice_index_or c.in-Moving.values.now k (pos 0)) (let e : m ≡ 0 * c.args.other.now.frames + m = omega arith in e) ∙ sym (held.1 0 m (omega arith) heard)
