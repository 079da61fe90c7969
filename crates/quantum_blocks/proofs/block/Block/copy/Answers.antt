use Rattle.std.proofs.Common.{◌<◌, sym, ◌∙◌, arith, subst}
use Rattle.quantum_blocks.proofs.block.Block.copy.Goals as goal

pub copy_steady-requires-clause-few : goal.copy_steady-requires-clause-few
copy_steady-requires-clause-few c = let held = c.in-Steady.ensures.0 in let lanes = c.lanes-lanes.ensures.lanes in let high = c.lanes-lanes.ensures.high in omega arith

pub returns-in-Steady-clause-values : goal.returns-in-Steady-clause-values
returns-in-Steady-clause-values c lane m low now =
    let held = c.in-Steady.ensures in
    let heard = subst (λ k. m < k) (sym c.requires.frames) now in
    c.copy_steady.ensures.values lane m (subst (λ n. lane < n) (sym held.0) low) now ∙ sym (held.1 lane m low heard)
