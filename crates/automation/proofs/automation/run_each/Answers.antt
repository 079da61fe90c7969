use Rattle.std.proofs.Common.{ℕ, List, ◌≡◌, ◌+◌, ◌∷◌, ◌++◌, [], map, inl, inr, ap, sym, ◌∙◌, arith, subst}
use Rattle.std.specs.Prelude.{◌⊎◌}
use Rattle.std.proofs.lemmas.List.{map_push}
use Rattle.std.proofs.lemmas.List.Sums.{sum_by_more, sum_by_more_le, sum_by-take-le}
use Rattle.law_base.specs.Members.{IsIn}
use Rattle.law_base.proofs.Members.{IsIn-append, IsIn-append_first, IsIn-append_second}
use Rattle.meaning.specs.declared.params.Param.{Param}
use Rattle.automation.specs.Ready.{RiseWithin, RunningView, Stands, param_of}
use Rattle.automation.proofs.Places.{before_or_here, in_list}
use Rattle.automation.proofs.Stands.{stands_there}
use Rattle.automation.proofs.Running.{rise_more}
use Rattle.automation.proofs.automation.run_each.Goals as goal

pub returns-in_err-push-clause-cost : goal.returns-in_err-push-clause-cost
returns-in_err-push-clause-cost g c digits each =
    let params = c.args.params.now in
    let i = c.loop-i.i in
    let p : Param = c.index-params-i.result in
    let here = c.reseek.ensures.cost (digits p) (each p (subst (λ (x : Param). IsIn x params) (sym c.index-params-i.is) (in_list params i p c.loop-i-test.true))) in
    let more = sum_by_more_le digits params i p c.loop-i-test.true in
    let same = ap digits c.index-params-i.is in
    omega (arith, here, more, same, c.loop-i.invariant.cost digits each)

pub loop-i-preserved : goal.loop-i-preserved
loop-i-preserved g c =
    let i = c.loop-i.i in
    let inv = c.loop-i.invariant in
    let params = c.args.params.now in
    let p : Param = c.index-params-i.result in
    let y : RunningView = record { param = i; cursor = c.reseek.new.self; until = 0 } in
    let items = c.loop-i.running.items in
    let new = c.in_ok-push.ensures.items in
    let parts : (r : RunningView) → IsIn r c.push.new.self.items → IsIn r items ⊎ IsIn r (y ∷ []) = λ r is. IsIn-append items (y ∷ []) r (subst (λ (rs : List RunningView). IsIn r rs) {y = items ++ y ∷ []} new is) in
    let places : map param_of c.push.new.self.items ≡ map param_of items ++ i ∷ [] = ap (map param_of) {y = items ++ y ∷ []} new ∙ map_push param_of items y in
    record {
      running = subst (RiseWithin 0 (i + 1)) (sym places) (rise_more 0 i (map param_of items) (omega arith) inv.running);
      all = λ j low. subst (λ (ns : List ℕ). IsIn j ns) (sym places) (elim (before_or_here i j low) [
        | inl before ↦ IsIn-append_first (map param_of items) (i ∷ []) j (inv.all j before)
        | inr same ↦ IsIn-append_second (map param_of items) (i ∷ []) j (inl same)
      ]);
      stands = λ r is. elim (parts r is) [
        | inl old ↦ inv.stands r old
        | inr own ↦ elim own [
          | inl same ↦ subst (Stands params c.args.first) (sym same) (stands_there params c.args.first y p c.loop-i-test.true c.index-params-i.is c.reseek.ensures.stands)
          | inr none ↦ absurd none
        ]
      ];
      unknown = λ r is. elim (parts r is) [
        | inl old ↦ inv.unknown r old
        | inr own ↦ elim own [
          | inl same ↦ ap (λ (x : RunningView). x.until) same
          | inr none ↦ absurd none
        ]
      ];
      cost = λ digits each.
          let here = c.reseek.ensures.cost (digits p) (each p (subst (λ (x : Param). IsIn x params) (sym c.index-params-i.is) (in_list params i p c.loop-i-test.true))) in
          let more = sum_by_more digits params i p c.loop-i-test.true in
          let same = ap digits c.index-params-i.is in
          let old = inv.cost digits each in
          omega (arith, here, more, same, old);
    }

pub returns-clause-cost : goal.returns-clause-cost
returns-clause-cost g c digits each =
    let all = sum_by-take-le digits c.args.params.now c.loop-i.i in
    omega (arith, all, c.loop-i.invariant.cost digits each)
