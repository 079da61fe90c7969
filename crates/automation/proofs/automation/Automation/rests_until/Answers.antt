use Rattle.std.proofs.Common.{rules, ltb, ltb-true, List, map, ◌<◌, ◌≤◌, length, slice_index_or, inl, inr, sym, ◌∙◌, ap, arith, subst}
use Rattle.std.proofs.lemmas.Bool.Decides.{nat_tests}
use Rattle.std.proofs.lemmas.List.{get_or_default}
use Rattle.std.proofs.lemmas.List.Sorted.{IsPartitionPoint-from_clause, IsPartitionedBy-ltb}
use Rattle.law_base.specs.Members.{IsIn}
use Rattle.automation.specs.Ready.{AutomationView, AreRunning, RunningView, param_of}
use Rattle.automation.proofs.Places.{in_list}
use Rattle.automation.proofs.Running.{running_rise, runs_not}
use Rattle.automation.proofs.automation.Automation.rests_until.Goals as goal
use Rattle.automation.proofs.automation.Automation.rests_until.Goals.{else-k-len-via-then-k-len+else-index-place, else-k-len-via-else-k-len}

pub returns-then-index-place : goal.returns-then-index-place
returns-then-index-place c =
    let rs = c.args.self.now.running in
    let k = c.partition_point-k.result in
    let same = ap (λ (a : AutomationView). a.running) c.self.view_is in
    let r : RunningView = c.index-then-index-place.result.now in
    let low = subst (λ (xs : List RunningView). k < length xs) (c.deref.ensures.value ∙ same) (omega (arith, c.if-k-len.true, c.len.ensures, c.deref.ensures.len)) in
    let is = c.index-then-index-place.ensures ∙ ap (λ (xs : List RunningView). slice_index_or xs k r) same in
    let twin = c.index.ensures ∙ ap (λ (xs : List RunningView). slice_index_or xs k c.index.result.now) same ∙ get_or_default rs k c.index.result.now r low ∙ sym is in
    inl (r, subst (λ (x : RunningView). IsIn x rs) (sym is) (in_list rs k r low), ap param_of (sym (c.behind-self.view_is ∙ twin)) ∙ c.if-index-place.true, ap (λ (x : RunningView). x.until) (sym c.behind-self-then-index-place.view_is))

pub returns-else-k-len : goal.returns-else-k-len
returns-else-k-len c =
    let rs = c.deref.result.now in
    let k = c.partition_point-k.result in
    let same = c.deref.ensures.value ∙ ap (λ (a : AutomationView). a.running) c.self.view_is in
    let up = subst (AreRunning c.requires.0) (sym same) c.requires.1 in
    let parted = IsPartitionedBy-ltb param_of rs c.args.place (running_rise 0 c.requires.0 rs up) in
    let point = IsPartitionPoint-from_clause (λ r. ltb (param_of r) c.args.place) _ _ c.partition_point-k.ensures.partitioned parted (λ a r q k. search rules) in
    inr (subst (λ (xs : List RunningView). IsIn c.args.place (map param_of xs) → ⊥) same
    (runs_not c.requires.0 rs k c.args.place up (λ i d before low. ltb-true _ _ (point.0 i d (omega arith) before)) (λ d low.
    let no = point.1 k d (omega arith) low in
    let from : c.args.place ≤ (slice_index_or rs k d).param = grind (arith, nat_tests) in
    elim c.else-k-len.branch [
      | else-k-len-via-then-k-len+else-index-place w ↦
          let at = w.index.ensures ∙ ap (λ (xs : List RunningView). slice_index_or xs k w.index.result.now) (sym c.deref.ensures.value) ∙ get_or_default rs k w.index.result.now d low in
          let own = ap param_of (w.behind-self.view_is ∙ at) in
          let other = w.if-index-place.false in
          grind (arith, nat_tests)
      | else-k-len-via-else-k-len w ↦ absurd (omega (arith, low, w.if-k-len.false, c.len.ensures, c.deref.ensures.len))
    ])))
