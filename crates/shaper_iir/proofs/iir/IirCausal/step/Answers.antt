use Rattle.std.proofs.Common.{List, length, ap, subst, sym, ◌∙◌}
use Rattle.std.proofs.lemmas.List.{with_items_is}
use Rattle.shaper_iir.specs.declared.histories.History.{History}
use Rattle.shaper_iir.proofs.States.{HasHeard, IsLent, step_stands, step_output}
use Rattle.shaper_iir.proofs.iir.IirCausal.step.Goals as goal

lent : (c : goal.After-y-1) → IsLent c.args.self.now c.self.inside.forward c.self.inside.back c.as_slice.result.now c.as_slice-2.result.now c.self.inside.channels.items c.deref_mut.result.now
lent c = record { view = c.self.view_is; forward = c.as_slice.ensures; back = c.as_slice-2.ensures; channels = c.deref_mut.ensures.value }

pub returns-clause-stands : goal.returns-clause-stands
returns-clause-stands c =
    let items = with_items_is c.self.inside.channels c.filter_all.new.channels (c.filter_all.auto.channels ∙ c.deref_mut.ensures.len) in
    let same = ap length items ∙ c.filter_all.auto.channels ∙ ap length c.deref_mut.ensures.value in
    let have = subst (λ (v : List History). HasHeard c.as_slice.result.now c.as_slice-2.result.now c.deref_mut.result.now v c.args.x.now 1) (sym items) c.filter_all.ensures.histories in
    step_stands _ _ _ _ _ _ _ _ _ (lent c) c.self.invariant c.requires.x same have

pub returns-clause-output : goal.returns-clause-output
returns-clause-output c = step_output _ _ _ _ _ _ _ _ _ (lent c) c.self.invariant c.filter_all.ensures.outputs
