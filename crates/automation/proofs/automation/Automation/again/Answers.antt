use Rattle.std.proofs.Common.{ℕ, List, ◌≡◌, length, map, inl, inr, sym, ◌∙◌, ap, subst}
use Rattle.law_base.specs.Members.{IsIn}
use Rattle.law_base.proofs.Places.{rewritten}
use Rattle.automation.specs.Ready.{RunningView, AllRest, AreRunning, IsHeld, RiseWithin, param_of}
use Rattle.automation.proofs.automation.Automation.again.Goals as goal

pub reseek_each-requires-clause-running : goal.reseek_each-requires-clause-running
reseek_each-requires-clause-running g c =
    let held = subst (IsHeld c.args.params.now c.args.first) (sym c.self.view_is) c.requires in
    subst (AreRunning (length c.args.params.now)) (sym c.as_mut_slice.ensures.value) held.running

pub reseek_each-requires-clause-rests : goal.reseek_each-requires-clause-rests
reseek_each-requires-clause-rests g c =
    let held = subst (IsHeld c.args.params.now c.args.first) (sym c.self.view_is) c.requires in
    let levels = c.self.inside.levels.items in
    (levels, subst (AllRest c.self.inside.quantum c.args.params.now c.args.first levels) (sym c.as_mut_slice.ensures.value) held.rests)

pub returns-clause-ready : goal.returns-clause-ready
returns-clause-ready g c =
    let held = subst (IsHeld c.args.params.now c.args.first) (sym c.self.view_is) c.requires in
    let places : map param_of c.reseek_each.new.running ≡ map param_of c.self.inside.running.items = c.reseek_each.ensures.params ∙ ap (map param_of) c.as_mut_slice.ensures.value in
    let whole = rewritten _ c.reseek_each.new.running _ (c.reseek_each.auto.running ∙ c.as_mut_slice.ensures.len) in
    let same = ap (map param_of) whole ∙ places in
    record {
      held = record {
        running = subst (RiseWithin 0 (length c.args.params.now)) (sym same) held.running;
        room = held.room;
        others = λ i d low. elim (held.others i d low) [
          | inl runs ↦ inl (subst (λ (ns : List ℕ). IsIn i ns) (sym same) runs)
          | inr keeps ↦ inr keeps
        ];
        rests = subst (AllRest c.self.inside.quantum c.args.params.now c.args.first c.self.inside.levels.items) (sym whole)
            (c.reseek_each.ensures.rests c.self.inside.levels.items (subst (AllRest c.self.inside.quantum c.args.params.now c.args.first c.self.inside.levels.items) (sym c.as_mut_slice.ensures.value) held.rests));
      };
      stands = λ r is. c.reseek_each.ensures.stands r (subst (λ (rs : List RunningView). IsIn r rs) whole is);
    }
