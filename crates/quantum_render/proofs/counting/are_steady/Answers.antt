use Rattle.std.proofs.Common.{◌<◌, length, sym, subst}
use Rattle.law_base.specs.Members.{IsIn}
use Rattle.quantum_blocks.specs.Blocks.{slot}
use Rattle.quantum_blocks.proofs.Slots.{slot_low}
use Rattle.quantum_blocks.proofs.Sources.{end_low}
use Rattle.quantum_render.proofs.counting.are_steady.Goals as goal

pub have_one-requires : goal.have_one-requires
have_one-requires c d is =
    let there = (c.requires.plan.only d (subst (IsIn d) c.muted.ensures is)).0 in
    subst (λ n. slot d < n) (sym c.requires.range.places) (slot_low d (length c.args.world.now.nodes) (end_low c.args.world.now c.requires.valid d there))

pub returns-then-have_one : goal.returns-then-have_one
returns-then-have_one c t = record {
  one = λ d is. c.have_one.ensures c.if-have_one.true d (subst (IsIn d) (sym c.muted.ensures) is);
  there = c.are_steady_along.ensures.there t;
  steady = c.are_steady_along.ensures.steady t;
}
