use Rattle.std.proofs.Common.{◌*◌, ℤ, List, length, ap, subst, sym, refl, ◌∙◌}
use Rattle.std.proofs.lemmas.List.{with_items_is}
use Rattle.node_table.specs.Frames.{heard}
use Rattle.worklet.specs.Processor.{ProcessorView, ProcessorStands, after_silence}
use Rattle.worklet.proofs.Hearing.{HaveHeard}
use Rattle.worklet.proofs.States.{IsLent, processor_stands, processor_output}
use Rattle.worklet.proofs.processor.ProcessorCausal.block.Goals as goal

lent : (c : goal.After-hear_nothing) → IsLent c.args.self.now c.self.inside.program c.self.inside.channels.items c.deref_mut.result.now (after_silence c.self.inside.program c.self.inside.others c.self.inside.owed)
lent c = record { view = c.self.view_is; channels = c.deref_mut.ensures.value }

pub returns-clause-stands : goal.returns-clause-stands
returns-clause-stands c =
    let items = with_items_is c.self.inside.channels c.hear_all.new.channels (c.hear_all.auto.channels ∙ c.deref_mut.ensures.len) in
    let same = ap length items ∙ c.hear_all.auto.channels ∙ ap length c.deref_mut.ensures.value in
    let have = subst (λ (v : List (List ℤ)). HaveHeard c.self.inside.program c.deref_mut.result.now v c.args.x.now c.args.frames) (sym items) c.hear_all.ensures.heard in
    λ channel xs stands.
    subst (λ (v : ProcessorView). ProcessorStands v channel (heard c.args.x.now (channel * c.args.frames) c.args.frames xs)) (sym c.hear_nothing.ensures)
    (processor_stands _ _ _ _ _ _ _ _ c.args.frames (lent c) c.requires.x same have refl channel xs stands)

pub returns-clause-output : goal.returns-clause-output
returns-clause-output c = processor_output _ _ _ _ _ _ _ c.args.frames (lent c) c.hear_all.ensures.outputs
