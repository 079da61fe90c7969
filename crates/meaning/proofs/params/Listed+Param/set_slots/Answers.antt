use Rattle.std.proofs.Common.{slice_set, ap, ◌∙◌, arith}
use Rattle.std.proofs.lemmas.List.{length-set}
use Rattle.meaning.proofs.Automating.{slot_set_at}
use Rattle.meaning.proofs.params.Listed+Param.set_slots.Goals as goal

pub loop-place-preserved : goal.loop-place-preserved
loop-place-preserved c =
    let inv = c.loop-place.invariant in
    record {
      same = length-set c.loop-place.self.items c.loop-place.place _ ∙ inv.same;
      so_far = ap (slice_set c.loop-place.self.items c.loop-place.place) c.set_slot.ensures
          ∙ slot_set_at c.args.first c.args.self.now.items c.loop-place.self.items c.loop-place.place c.at_mut.result.now (omega arith) inv.so_far c.at_mut.ensures.value;
    }
