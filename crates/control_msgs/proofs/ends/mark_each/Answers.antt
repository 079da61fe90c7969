use Rattle.std.proofs.Common.{◌≡◌, true, slice_set, sym, ◌∙◌, ap, arith}
use Rattle.std.proofs.lemmas.List.{length-set}
use Rattle.meaning.specs.declared.scheds.Play.{Play}
use Rattle.control_msgs.specs.Messages.{ends_by}
use Rattle.control_msgs.proofs.Marks.{one_marked, not_marked, marked_now}
use Rattle.control_msgs.proofs.ends.mark_each.Goals as goal
use Rattle.control_msgs.proofs.ends.mark_each.Goals.{then-ends_by, else-ends_by}

pub loop-place-preserved : goal.loop-place-preserved
loop-place-preserved c =
    let inv = c.loop-place.invariant in
    elim c.if-ends_by.branch [
      | then-ends_by w ↦
          let found = w.at_mut.ensures.value in
          let read = c.at.ensures in
          let same : w.at_mut.result.now ≡ c.at.result.now = cc (found, read) in
          let ends : ends_by c.args.next w.at_mut.result.now.sched ≡ true = ap (λ (p : Play). ends_by c.args.next p.sched) same ∙ sym w.if-ends_by.ensures in
          let new = ap (λ sched. let p : Play = record w.at_mut.result.now { sched = sched } in slice_set c.loop-place.scheds.items c.loop-place.place p) w.fire.ensures
          ∙ ap (λ p. slice_set c.loop-place.scheds.items c.loop-place.place p) (sym (marked_now c.args.next w.at_mut.result.now ends)) in
          let items = new ∙ one_marked c.args.next c.args.scheds.now.items c.loop-place.scheds.items c.loop-place.place w.at_mut.result.now (omega arith) inv.same inv.so_far found in
          rw w.scheds-is (record { same = length-set c.loop-place.scheds.items c.loop-place.place _ ∙ inv.same; so_far = items })
      | else-ends_by w ↦ rw w.scheds-is (record { same = inv.same; so_far = not_marked c.args.next c.args.scheds.now.items c.loop-place.scheds.items c.loop-place.place c.at.result.now (omega arith) inv.same inv.so_far c.at.ensures (sym w.if-ends_by.ensures) })
    ]
