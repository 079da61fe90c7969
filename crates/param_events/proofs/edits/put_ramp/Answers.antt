use Rattle.std.proofs.Common.{ℕ, zero, suc, ◌≡◌, ◌≤◌, length, List, [], ◌∷◌, ap, sym, ◌∙◌, take, rules, arith}
use Rattle.std.specs.Prelude.{Result, Ok, Err, OnOk}
use Rattle.std.proofs.lemmas.Int.{to_z-of_z}
use Rattle.param_events.specs.declared.events.Event.{Event}
use Rattle.param_events.specs.declared.refusals.ParamErr.{ParamErr}
use Rattle.param_events.specs.Events.{until}
use Rattle.param_events.proofs.Puts.{ramp_may, first_ramp_is}
use Rattle.param_events.proofs.edits.put_ramp.Goals as goal

on_ok_more : {A : Type 0} (r : Result A ParamErr) (P Q : Type 0) → (P → Q) → OnOk r P → OnOk r Q
on_ok_more (Ok v) P Q more h = more h
on_ok_more (Err e) P Q more h = tt

none : (c : goal.After-put_first_ramp) → until c.args.time c.args.items.now ≡ []
none c = c.place.ensures.before ∙ ap (λ i. take i c.args.items.now) c.if-place-eq0.true

pub returns-then-place-eq0-clause-ok : goal.returns-then-place-eq0-clause-ok
returns-then-place-eq0-clause-ok c =
    let made = simp (to_z-of_z _ _ c.ranges.slot, to_z-of_z _ _ c.ranges.value) at c.put_first_ramp.ensures.ok in
    on_ok_more c.put_first_ramp.result _ _ (λ h. h ∙ sym (first_ramp_is c.args.items.now c.args.slot c.args.value c.args.now c.args.time c.requires.kept.ordered c.requires.later (none c))) made

take_none : (i : ℕ) (xs : List Event) → i ≤ length xs → take i xs ≡ [] → i ≡ 0
take_none zero xs l h = omega arith
take_none (suc i) [] l h = absurd (omega arith)
take_none (suc i) (x ∷ xs) l h = absurd (search rules)

pub put-requires-clause-may : goal.put-requires-clause-may
put-requires-clause-may c =
    ramp_may c.args.items.now c.args.time _ c.requires.outside
    (λ h. c.if-place-eq0.false (take_none c.place.result c.args.items.now c.place.ensures.within (sym c.place.ensures.before ∙ h)))
