use Rattle.std.proofs.Common.{◌≡◌, slice_index_or, sym, ◌∙◌, ap, arith, subst, ◌<◌, length}
use Rattle.std.proofs.lemmas.List.{get_or_default}
use Rattle.std.proofs.lemmas.Bool.Decides.{nat_tests}
use Rattle.quantum_render.proofs.counting.has_count.Goals as goal

pub returns : goal.returns
returns c t =
    let same : slice_index_or c.args.counts.now c.slot.result 0 ≡ c.args.count = grind (arith, nat_tests) in
    let within : c.slot.result < length c.args.counts.now = subst (λ k. k < length c.args.counts.now) (sym c.slot.ensures) c.requires in
    ap (λ k. slice_index_or c.args.counts.now k 1) (sym c.slot.ensures) ∙ get_or_default c.args.counts.now c.slot.result 1 0 within ∙ same
