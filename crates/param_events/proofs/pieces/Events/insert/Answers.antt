use Rattle.std.proofs.Common.{ap, sym, subst, ◌∙◌, ◌<◌, length, arith, rules}
use Rattle.std.specs.List.{insert}
use Rattle.std.proofs.lemmas.List.Edits.{length-insert}
use Rattle.param_events.specs.Pieces.{IsIn, all}
use Rattle.param_events.proofs.Pieced.{pieced_same, pieced_insert}
use Rattle.param_events.proofs.pieces.Events.insert.Goals as goal

pub invariant_of-self-in_err-insert : goal.invariant_of-self-in_err-insert
invariant_of-self-in_err-insert c =
    let ps = c.make_room.new.pieces.items in
    let is = subst (λ ps. IsIn ps c.args.i c.find-k.result.0 c.find-k.result.1) c.as_slice.ensures.value c.find-k.ensures in
    let same = pieced_same ps c.find-k.result.0 c.index_mut.result.now c.insert.new.self is.piece c.index_mut.ensures.value c.in_err-insert.ensures.items in
    c.self.invariant ∙ sym (ap length (same ∙ c.make_room.ensures))

pub returns-in_err-insert-clause-err : goal.returns-in_err-insert-clause-err
returns-in_err-insert-clause-err c =
    let ps = c.make_room.new.pieces.items in
    let is = subst (λ ps. IsIn ps c.args.i c.find-k.result.0 c.find-k.result.1) c.as_slice.ensures.value c.find-k.ensures in
    let same = pieced_same ps c.find-k.result.0 c.index_mut.result.now c.insert.new.self is.piece c.index_mut.ensures.value c.in_err-insert.ensures.items ∙ c.make_room.ensures ∙ c.self.view_is in
    search rules

pub invariant_of-self-else-i-self : goal.invariant_of-self-else-i-self
invariant_of-self-else-i-self c =
    let ps = c.make_room.new.pieces.items in
    let is = subst (λ ps. IsIn ps c.args.i c.find-k.result.0 c.find-k.result.1) c.as_slice.ensures.value c.find-k.ensures in
    let more = pieced_insert ps c.args.i c.find-k.result.0 c.find-k.result.1 c.index_mut.result.now c.insert.new.self c.args.event is c.index_mut.ensures.value c.in_ok-insert.ensures.items in
    let old = ap length (c.make_room.ensures ∙ c.self.view_is) in
    let low : c.args.i < length (all ps) = omega (arith, old, c.requires, c.if-i-self.false, c.self.invariant, ap length c.self.view_is) in
    let long = ap length more ∙ length-insert (all ps) c.args.i c.args.event (omega (arith, low)) in
    omega (arith, long, old, c.self.invariant, ap length c.self.view_is)

pub returns-in_ok-insert-clause-ok : goal.returns-in_ok-insert-clause-ok
returns-in_ok-insert-clause-ok c =
    let ps = c.make_room.new.pieces.items in
    let is = subst (λ ps. IsIn ps c.args.i c.find-k.result.0 c.find-k.result.1) c.as_slice.ensures.value c.find-k.ensures in
    pieced_insert ps c.args.i c.find-k.result.0 c.find-k.result.1 c.index_mut.result.now c.insert.new.self c.args.event is c.index_mut.ensures.value c.in_ok-insert.ensures.items
    ∙ ap (λ es. insert es c.args.i c.args.event) (c.make_room.ensures ∙ c.self.view_is)
