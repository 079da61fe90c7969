use Rattle.std.proofs.Common.{rules, ◌<◌, ◌++◌, ◌∷◌, [], length, set, sym, ◌∙◌, ap, subst}
use Rattle.std.proofs.lemmas.List.{get_or_read, length-set}
use Rattle.prune_script.specs.Deeds.{IsBelow}
use Rattle.prune_script.proofs.Sources.{none_at, link_at, all_sources, targets_below}
use Rattle.prune_script.proofs.live.sources.Goals as goal
use Rattle.prune_script.proofs.live.sources.Goals.{in-Some+in_ok-push, in_default}

pub index_mut-requires : goal.index_mut-requires
index_mut-requires c =
    let below : IsBelow c.args.count c.deed-item.result = subst (IsBelow c.args.count) (sym c.deed-item.is) (c.requires c.loop-deed.deed-index c.deed-item.result c.loop-deed-test.true) in
    let within : c.in-Some.to < length c.loop-deed.sources.items = subst (λ n. c.in-Some.to < n) (sym c.loop-deed.invariant.same) (targets_below c.args.count c.deed-item.result below c.in-Some.from c.in-Some.to c.in-Some.ensures) in
    search rules

pub loop-deed-preserved : goal.loop-deed-preserved
loop-deed-preserved c =
    let below : IsBelow c.args.count c.deed-item.result = subst (IsBelow c.args.count) (sym c.deed-item.is) (c.requires c.loop-deed.deed-index c.deed-item.result c.loop-deed-test.true) in
    let old = c.loop-deed.sources.items in
    elim c.match-link.branch [
      | in-Some+in_ok-push w ↦
          let within : w.in-Some.to < length old = subst (λ n. w.in-Some.to < n) (sym c.loop-deed.invariant.same) (targets_below c.args.count c.deed-item.result below w.in-Some.from w.in-Some.to w.in-Some.ensures) in
          record {
            same = ap (λ v. length v.items) w.sources-is ∙ length-set old w.in-Some.to w.push.new.self ∙ c.loop-deed.invariant.same;
            are = link_at c.args.deeds.now c.loop-deed.deed-index c.deed-item.result c.loop-deed-test.true c.deed-item.is old c.loop-deed.invariant.are
                c.match-link.sources.items w.in-Some.from w.in-Some.to w.in-Some.ensures within
                (ap (λ v. v.items) w.sources-is
                ∙ ap (λ xs. set old w.in-Some.to xs) (w.in_ok-push.ensures.ok ∙ ap (λ xs. xs ++ w.in-Some.from ∷ []) (get_or_read old w.in-Some.to w.index_mut.result.now within w.index_mut.ensures.value [])));
          }
      | in_default w ↦ record {
        same = ap (λ v. length v.items) w.sources-is ∙ c.loop-deed.invariant.same;
        are = none_at c.args.deeds.now c.loop-deed.deed-index c.deed-item.result c.loop-deed-test.true c.deed-item.is old c.loop-deed.invariant.are
            c.match-link.sources.items w.in_default.ensures (ap (λ v. v.items) w.sources-is);
      }
    ]

pub returns-clause-each : goal.returns-clause-each
returns-clause-each c = all_sources c.args.deeds.now c.loop-deed.deed-index c.loop-deed.sources.items c.loop-deed-test.false c.loop-deed.invariant.are
