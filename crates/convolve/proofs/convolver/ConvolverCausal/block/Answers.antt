use Rattle.std.proofs.Common.{ℤ, List, length, ap, subst, sym, ◌∙◌}
use Rattle.std.proofs.lemmas.List.{with_items_is}
use Rattle.convolve.proofs.Hearing.{HaveHeard}
use Rattle.convolve.proofs.States.{IsLent, convolver_stands, convolver_output}
use Rattle.convolve.proofs.convolver.ConvolverCausal.block.Goals as goal

lent : (c : goal.After-y-1) → IsLent c.args.self.now c.self.inside.response c.as_slice.result.now c.self.inside.lines.items c.deref_mut.result.now
lent c = record { view = c.self.view_is; samples = c.as_slice.ensures; channels = c.deref_mut.ensures.value }

pub returns-clause-stands : goal.returns-clause-stands
returns-clause-stands c =
    let items = with_items_is c.self.inside.lines c.hear_all.new.lines (c.hear_all.auto.lines ∙ c.deref_mut.ensures.len) in
    let same = ap length items ∙ c.hear_all.auto.lines ∙ ap length c.deref_mut.ensures.value in
    let have = subst (λ (v : List (List ℤ)). HaveHeard c.deref_mut.result.now v c.args.x.now c.args.frames) (sym items) c.hear_all.ensures.heard in
    convolver_stands _ _ _ _ _ _ _ c.args.frames (lent c) c.requires.x same have

pub returns-clause-output : goal.returns-clause-output
returns-clause-output c = convolver_output _ _ _ _ _ _ _ c.args.frames (lent c) c.hear_all.ensures.outputs
