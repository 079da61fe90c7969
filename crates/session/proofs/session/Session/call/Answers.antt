use Rattle.std.proofs.Common.{◌≡◌, ◌∙◌, ◌++◌, ◌∷◌, [], List, pos, replicate, refl, sym, ap, subst, inl, inr}
use Rattle.std.specs.Prelude.{◌*◌, IsTrue, IsSome, IsNone, is_some, option_map}
use Rattle.std.proofs.lemmas.Bool.{cases_Bool}
use Rattle.transcript.specs.declared.lines.Line.{Line}
use Rattle.transcript.specs.declared.lines.Line.TheVariants as line
use Rattle.meaning.specs.Changes.{Grows}
use Rattle.control_side.specs.Machine.{Machine, caught_up}
use Rattle.session.specs.Session.{after_call}
use Rattle.control_side.specs.Step.{is_start, KeepsTime}
use Rattle.session.specs.View.{SessionView, SideView, MakesRoom, CatchesUp}
use Rattle.session.proofs.CatchingUp.{over_call, told_called}
use Rattle.session.proofs.Sides.{heard_accepted, call_renderer, call_audio, same_audio, catches_up_keeps, catches_up_renderer}
use Rattle.session.proofs.Standing.{Stands-kept, Stands-begun, some_unless_none}
use Rattle.session.proofs.session.Session.call.Given.{Over}
use Rattle.session.proofs.session.Session.call.Goals as goal
use Rattle.session.proofs.session.Session.call.Goals.{in-Some, in_default}

pub send-requires-clause-accepted : goal.send-requires-clause-accepted
send-requires-clause-accepted g c =
    let ok = c.in_ok-catch_up.ensures.ok in
    heard_accepted c.catch_up.new.control c.step.new.self.world c.in_ok-answer.field-0.change c.catch_up.new.side c.reserve-2.new.side c.in_ok-answer.ensures.sends
    (catches_up_keeps c.self.inside.behind c.self.inside.control c.catch_up.new.control c.self.inside.side c.catch_up.new.side ok.1 ok.2 c.self.invariant.side_keeps_up) c.in_ok-reserve-2.ensures.ok

renderer : (g : Over) (c : goal.After-push_reserved g) → option_map (λ (s : SideView). s.renderer) c.send.new.side ≡ option_map (λ (s : SideView). s.renderer) c.self.inside.side
renderer g c =
    call_renderer c.in_ok-answer.field-0.change c.catch_up.new.side c.reserve-2.new.side c.send.new.side c.in_ok-reserve-2.ensures.ok c.send.ensures
    ∙ catches_up_renderer c.self.inside.behind c.self.inside.side c.catch_up.new.side c.in_ok-catch_up.ensures.ok.2

audio : (g : Over) (c : goal.After-push_reserved g) → is_some c.send.new.side ≡ is_some c.self.inside.side
audio g c =
    call_audio c.in_ok-answer.field-0.change c.catch_up.new.side c.reserve-2.new.side c.send.new.side c.in_ok-reserve-2.ensures.ok c.send.ensures
    ∙ same_audio (CatchesUp c.self.inside.behind) c.self.inside.side c.catch_up.new.side c.in_ok-catch_up.ensures.ok.2

-- the machine before the call, with its slots set
calm : (g : Over) (c : goal.After-push_reserved g) → c.catch_up.new.control ≡ caught_up c.self.inside.behind c.self.inside.control
calm g c = c.in_ok-catch_up.ensures.ok.1

kept : (g : Over) (c : goal.After-push_reserved g) → KeepsTime (caught_up c.self.inside.behind c.self.inside.control) (caught_up c.catch_up.new.behind c.step.new.self)
kept g c = over_call KeepsTime c.self.inside.behind c.catch_up.new.behind c.self.inside.control c.catch_up.new.control c.step.new.self c.in_ok-catch_up.ensures.ok.0 (calm g c) c.step.ensures.kept

grows : (g : Over) (c : goal.After-push_reserved g)
    → (let old : Machine = caught_up c.self.inside.behind c.self.inside.control in let new : Machine = caught_up c.catch_up.new.behind c.step.new.self in Grows old.context.time old.world new.world)
grows g c =
    over_call (λ old new. Grows old.context.time old.world new.world) c.self.inside.behind c.catch_up.new.behind c.self.inside.control c.catch_up.new.control c.step.new.self
    c.in_ok-catch_up.ensures.ok.0 (calm g c) c.step.ensures.grows

pub returns-clause-told : goal.returns-clause-told
returns-clause-told g c =
    let ok = c.in_ok-catch_up.ensures.ok in
    let held = c.in_ok-asset.ensures.held in
    let stepped = c.in_ok-answer.ensures.ok held.0 held.2 in
    let said = c.in_ok-answer.field-0.answer in
    let told = λ (pushed : c.push_reserved.new.self.items ≡ c.reserve.new.self.items ++ line.Call c.args.call.now.ordinal said ∷ []).
    told_called c.self.inside.behind c.catch_up.new.behind c.self.inside.control c.catch_up.new.control c.step.new.self held.0 c.args.call.now said c.self.inside.lines.items c.push_reserved.new.self.items
    ok.0 ok.1 stepped (pushed ∙ ap (λ (ls : List Line). ls ++ line.Call c.args.call.now.ordinal said ∷ []) c.in_ok-reserve.ensures.items)
    ∙ ap (λ (v : SessionView). after_call v.told held.0 c.args.call.now) c.self.view_is in
    elim c.match-samples-3.branch [
      | in-Some w ↦ let pushed = rw w.self-inside-is at c.push_reserved.ensures.items in rw w.self-inside-is (held.0, held.1, told pushed)
      | in_default w ↦ let pushed = rw w.self-inside-is at c.push_reserved.ensures.items in rw w.self-inside-is (held.0, held.1, told pushed)
    ]

pub returns-clause-stands : goal.returns-clause-stands
returns-clause-stands g c = λ tape stands.
    let earlier = rw (← c.self.view_is) at stands in
    let started = ap (λ (m : Machine). m.context.started) (calm g c) in
    elim c.match-samples-3.branch [
      | in-Some w ↦
          let at_start = rw w.in-Some.is at c.in_ok-samples.ensures.at_start in
          let zeros = rw w.in-Some.is at c.in_ok-samples.ensures.zeros in
          rw w.self-inside-is (Stands-begun _ _ tape (kept g c) (grows g c) (sym (ap (λ (m : Machine). m.context.time) (calm g c)) ∙ at_start refl)
          (zeros ∙ ap (λ (m : Machine). replicate (m.world.spec.channels * m.world.spec.length) (pos 0)) (calm g c)) (renderer g c) earlier)
      | in_default w ↦
          let given = rw w.in_default.is at c.in_ok-samples.ensures.some in
          rw w.self-inside-is (Stands-kept _ _ tape (audio g c) (kept g c) (grows g c) refl (renderer g c) (λ on begun. elim (cases_Bool (is_start c.args.call.now.op)) [
            | inl starts ↦ some_unless_none _ (λ none.
                let there = same_audio (MakesRoom 1) c.catch_up.new.side c.reserve-2.new.side c.in_ok-reserve-2.ensures.ok ∙ same_audio (CatchesUp c.self.inside.behind) c.self.inside.side c.catch_up.new.side c.in_ok-catch_up.ensures.ok.2 in
                let wrong = given.1 (subst IsTrue (sym there) on, subst IsNone (sym started) none, starts) in
                cc)
            | inr other ↦ subst IsSome (c.step.ensures.kept_start other ∙ started) begun
          ]) earlier)
    ]
