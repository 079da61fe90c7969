use Rattle.std.proofs.Common.{List, [], ◌≡◌, sym, ◌∙◌, ap, ap₂, subst}
use Rattle.std.specs.List.{filter_map}
use Rattle.script_ast.specs.WellFormed.{IsWellFormed}
use Rattle.script_ast.specs.declared.call_list.Call.{Call}
use Rattle.prune_script.specs.Deeds.{deeds, links, heard_of}
use Rattle.prune_script.specs.Keeping.{TellsHeard}
use Rattle.prune_script.specs.Pruned.{accepted_by, accepted_calls, connections, is_live, heard_calls, pruned}
use Rattle.prune_script.proofs.Doing.{heard_ordinals}
use Rattle.prune_script.proofs.Forming.{pruned_well_formed}
use Rattle.prune_script.proofs.pruning.pruned.Goals as goal

pub returns-clause-script : goal.returns-clause-script
unfolding pruned
returns-clause-script c =
    let accepted = accepted_calls c.args.script c.args.lines.now.items in
    let ordinals = heard_calls (is_live (connections [] accepted)) [] accepted in
    let done : c.as_slice-3.result.now ≡ deeds [] accepted =
    c.as_slice-3.ensures.value ∙ c.in_ok-deeds.ensures.deeds ∙ ap₂ (λ cs ls. deeds [] (filter_map (accepted_by cs) ls)) c.as_slice.ensures c.as_slice-2.ensures in
    let tells : TellsHeard ordinals c.as_slice-4.result.now =
    subst (λ os. TellsHeard os c.as_slice-4.result.now) (heard_ordinals accepted c.as_slice-3.result.now done)
    (subst (λ marks. TellsHeard (heard_of (is_live (links c.as_slice-3.result.now)) c.as_slice-3.result.now) marks) (sym c.as_slice-4.ensures.value) c.in_ok-heard.ensures.each) in
    ap (λ (calls : List Call). record c.args.script { calls = calls }) (c.in_ok-calls.ensures ordinals tells)

pub returns-clause-well_formed : goal.returns-clause-well_formed
returns-clause-well_formed c = subst IsWellFormed (sym (returns-clause-script c)) (pruned_well_formed c.args.script c.args.lines.now.items c.requires)
