use Rattle.std.proofs.Common.{◌++◌, ◌∷◌, [], take, sym, ◌∙◌, ap, subst}
use Rattle.name_book.specs.Book.{BookView}
use Rattle.prune_script.specs.Names.{TellsNames}
use Rattle.std.specs.List.{filter_map}
use Rattle.prune_script.proofs.Doing.{after}
use Rattle.prune_script.specs.Pruned.{accepted_by}
use Rattle.prune_script.proofs.Telling.{IsTold, told_first, told_other, told_call, told_more, told_all}
use Rattle.prune_script.proofs.deeds.deeds.Goals as goal
use Rattle.prune_script.proofs.deeds.deeds.Goals.{in-Some+in_ok-push+in_ok-give_name, in_default}

pub loop-line-init : goal.loop-line-init
loop-line-init c = told_first c.args.calls.now c.new-names.result.bindings c.new-deeds.result.items c.new-names.ensures.bindings c.new-deeds.ensures.items

pub loop-line-preserved : goal.loop-line-preserved
loop-line-preserved c = elim c.match-accepted_by.branch [
  | in-Some+in_ok-push+in_ok-give_name w ↦
      told_more c.args.calls.now c.args.lines.now c.loop-line.line-index c.line-item.result c.match-accepted_by.names.bindings c.match-accepted_by.deeds.items c.loop-line-test.true c.line-item.is
      (told_call c.args.calls.now (take c.loop-line.line-index c.args.lines.now) c.line-item.result c.loop-line.names.bindings c.loop-line.deeds.items c.loop-line.invariant
      w.in-Some.call.now c.match-accepted_by.names.bindings c.match-accepted_by.deeds.items (sym w.in-Some.ensures.call) w.in-Some.ensures.low
      (λ earlier tells. subst (λ (book : BookView). TellsNames book.bindings (w.in-Some.call.now ∷ earlier)) (sym w.names-is) (w.in_ok-give_name.ensures earlier tells))
      (ap (λ v. v.items) w.deeds-is ∙ w.in_ok-push.ensures.items ∙ ap (λ d. c.loop-line.deeds.items ++ d ∷ []) (w.deed_of.ensures (after [] (filter_map (accepted_by c.args.calls.now) (take c.loop-line.line-index c.args.lines.now))) c.loop-line.invariant.names)))
  | in_default w ↦
      told_more c.args.calls.now c.args.lines.now c.loop-line.line-index c.line-item.result c.match-accepted_by.names.bindings c.match-accepted_by.deeds.items c.loop-line-test.true c.line-item.is
      (told_other c.args.calls.now (take c.loop-line.line-index c.args.lines.now) c.line-item.result c.match-accepted_by.names.bindings c.match-accepted_by.deeds.items
      (subst (λ (book : BookView). IsTold c.args.calls.now (take c.loop-line.line-index c.args.lines.now) book.bindings c.match-accepted_by.deeds.items) (sym w.names-is)
      (subst (λ ds. IsTold c.args.calls.now (take c.loop-line.line-index c.args.lines.now) c.loop-line.names.bindings ds) (sym (ap (λ v. v.items) w.deeds-is)) c.loop-line.invariant))
      (sym w.in_default.ensures.call))
]

pub returns-clause-deeds : goal.returns-clause-deeds
returns-clause-deeds c = (told_all c.args.calls.now c.args.lines.now c.loop-line.line-index c.loop-line.names.bindings c.loop-line.deeds.items c.loop-line-test.false c.loop-line.invariant).deeds_are

pub returns-clause-below : goal.returns-clause-below
returns-clause-below c = (told_all c.args.calls.now c.args.lines.now c.loop-line.line-index c.loop-line.names.bindings c.loop-line.deeds.items c.loop-line-test.false c.loop-line.invariant).below
