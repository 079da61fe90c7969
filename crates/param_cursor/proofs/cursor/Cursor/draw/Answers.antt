use Rattle.std.proofs.Common.{rules, pos, FitsSigned, ◌≡◌, ◌≤◌, ◌+◌, ◌-◌, ap, sym, subst, ◌∙◌, arith, length, get_or, inl, inr}
use Rattle.std.specs.Prelude.{IfSome}
use Rattle.std.specs.Int.{w32}
use Rattle.std.proofs.lemmas.Int.{to_z-of_z}
use Rattle.std.specs.Option.{IsSomeAnd}
use Rattle.param_events.specs.declared.events.Event.TheVariants.{Set}
use Rattle.param_events.specs.Events.{time_of}
use Rattle.param_events.proofs.Order.{order}
use Rattle.param_cursor.proofs.Draws.{drawn_joined}
use Rattle.param_events.proofs.Order.{rising_times}
use Rattle.param_cursor.proofs.Neighbours.{if_there, at_place, at_some, last_next}
use Rattle.param_cursor.proofs.Counting.{StandsAt, place_is, place_within, stands_at, moved_by}
use Rattle.param_cursor.proofs.Stays.{between_at, stands_on, last_begun, last_sound}
use Rattle.param_events.specs.Timeline.{IsSound}
use Rattle.param_cursor.proofs.cursor.Cursor.draw.Goals as goal

pub event_before-here-requires : goal.event_before-here-requires
event_before-here-requires g c = subst (λ p. p ≤ length c.args.line.now.events) (sym (c.self.view_is ∙ c.requires.stands)) (place_within c.args.first c.args.line.now.events)

pub block_end-end-requires : goal.block_end-end-requires
block_end-end-requires g c =
    let events = c.args.line.now.events in
    let stands = stands_at c.args.first c.self.inside.place events c.event_at-next.ensures.timeline.ordered (c.self.view_is ∙ c.requires.stands) in
    subst (λ o. IfSome o (λ e. c.args.first ≤ time_of e)) (sym c.event_at-next.ensures.value) (if_there c.self.inside.place events (λ e. c.args.first ≤ time_of e) stands.behind)

pub level-requires : goal.level-requires
level-requires g c =
    let events = c.args.line.now.events in
    let stands = stands_at c.args.first c.self.inside.place events c.event_at-next.ensures.timeline.ordered (c.self.view_is ∙ c.requires.stands) in
    record { sound = subst (λ o. IfSome o IsSound) (sym c.event_before-here.ensures.value) (last_sound c.self.inside.place events c.event_at-next.ensures.timeline.ordered stands.within) }

pub returns-in-Some-clause-level : goal.returns-in-Some-clause-level
returns-in-Some-clause-level g c later from below =
    let events = c.args.line.now.events in
    let place = c.self.inside.place in
    let stands = stands_at c.args.first place events c.event_at-next.ensures.timeline.ordered (c.self.view_is ∙ c.requires.stands) in
    let next = at_place place events (λ e. time_of e ≡ c.stay_until.result) (subst (λ o. IfSome o (λ e. time_of e ≡ c.stay_until.result)) c.event_at-next.ensures.value c.stay_until.ensures.event) in
    let result : FitsSigned w32 c.base.result = search rules in
    let base : FitsSigned w32 c.args.line.now.base = subst (FitsSigned w32) c.base.ensures result in
    let value : FitsSigned w32 c.in-Some.value = search rules in
    let held = simp (c.base.ensures, to_z-of_z _ _ base, c.event_before-here.ensures.value, c.event_at-next.ensures.value) at c.in-Some.ensures in
    between_at c.args.line.now.base events place c.args.first later c.event_at-next.ensures.timeline stands from (λ d l. let t = next d l in omega (arith, t, below)) ∙ held later from ∙ sym (to_z-of_z _ _ value)

pub returns-in-Some-clause-stays : goal.returns-in-Some-clause-stays
returns-in-Some-clause-stays g c later from below =
    let events = c.args.line.now.events in
    let place = c.self.inside.place in
    let stands = stands_at c.args.first place events c.event_at-next.ensures.timeline.ordered (c.self.view_is ∙ c.requires.stands) in
    let next = at_place place events (λ e. time_of e ≡ c.stay_until.result) (subst (λ o. IfSome o (λ e. time_of e ≡ c.stay_until.result)) c.event_at-next.ensures.value c.stay_until.ensures.event) in
    sym c.self.view_is ∙ place_is later place events c.event_at-next.ensures.timeline.ordered (stands_on events place c.args.first later stands from (λ d l. let t = next d l in omega (arith, t, below)))

pub returns-in-Some-clause-lasts : goal.returns-in-Some-clause-lasts
returns-in-Some-clause-lasts g c past later from =
    let events = c.args.line.now.events in
    let place = c.self.inside.place in
    let stands = stands_at c.args.first place events c.event_at-next.ensures.timeline.ordered (c.self.view_is ∙ c.requires.stands) in
    let result : FitsSigned w32 c.base.result = search rules in
    let base : FitsSigned w32 c.args.line.now.base = subst (FitsSigned w32) c.base.ensures result in
    let value : FitsSigned w32 c.in-Some.value = search rules in
    let held = simp (c.base.ensures, to_z-of_z _ _ base, c.event_before-here.ensures.value, c.event_at-next.ensures.value) at c.in-Some.ensures in
    between_at c.args.line.now.base events place c.args.first later c.event_at-next.ensures.timeline stands from (λ d l. absurd (omega (arith, l, c.self.view_is, past))) ∙ held later from ∙ sym (to_z-of_z _ _ value)

pub returns-in-Some-clause-stands : goal.returns-in-Some-clause-stands
returns-in-Some-clause-stands g c =
    let events = c.args.line.now.events in
    let place = c.self.inside.place in
    let stands = stands_at c.args.first place events c.event_at-next.ensures.timeline.ordered (c.self.view_is ∙ c.requires.stands) in
    let later = at_place place events (λ e. c.args.first + c.block_end-end.result ≤ time_of e) (subst (λ o. IfSome o (λ e. c.args.first + c.block_end-end.result ≤ time_of e)) c.event_at-next.ensures.value c.block_end-end.ensures.later) in
    sym c.self.view_is
    ∙ place_is (c.args.first + length c.args.out.now) place events c.event_at-next.ensures.timeline.ordered
    (stands_on events place c.args.first (c.args.first + length c.args.out.now) stands (omega arith) (λ d l. let t = later d l in let whole : c.block_end-end.result ≡ length c.args.out.now = c.if-end-count.true in omega (arith, t, whole)))

pub ramp_between-requires-clause-begun : goal.ramp_between-requires-clause-begun
ramp_between-requires-clause-begun g c =
    let events = c.args.line.now.events in
    let place = c.self.inside.place in
    let stands = stands_at c.args.first place events c.event_at-next.ensures.timeline.ordered (c.self.view_is ∙ c.requires.stands) in
    subst (λ o. IfSome o (λ e. time_of e ≤ c.args.first)) (sym c.event_before-here.ensures.value) (last_begun place c.args.first events stands)

pub returns-in-Some-ramp_between-clause-rises : goal.returns-in-Some-ramp_between-clause-rises
returns-in-Some-ramp_between-clause-rises g c m low =
    let events = c.args.line.now.events in
    let place = c.self.inside.place in
    let stands = stands_at c.args.first place events c.event_at-next.ensures.timeline.ordered (c.self.view_is ∙ c.requires.stands) in
    let later = at_place place events (λ e. c.args.first + c.block_end-end.result ≤ time_of e) (subst (λ o. IfSome o (λ e. c.args.first + c.block_end-end.result ≤ time_of e)) c.event_at-next.ensures.value c.block_end-end.ensures.later) in
    let whole : c.block_end-end.result ≡ length c.args.out.now = c.if-end-count.true in
    let rises = simp (c.event_before-here.ensures.value, c.event_at-next.ensures.value) at c.in-Some-ramp_between.ensures.value in
    between_at c.args.line.now.base events place c.args.first (c.args.first + m) c.event_at-next.ensures.timeline stands (omega arith) (λ d l. let t = later d l in omega (arith, t, whole, low)) ∙ rises c.args.line.now.base m

pub returns-in-Some-ramp_between-clause-stands : goal.returns-in-Some-ramp_between-clause-stands
returns-in-Some-ramp_between-clause-stands g c =
    let events = c.args.line.now.events in
    let place = c.self.inside.place in
    let stands = stands_at c.args.first place events c.event_at-next.ensures.timeline.ordered (c.self.view_is ∙ c.requires.stands) in
    let later = at_place place events (λ e. c.args.first + c.block_end-end.result ≤ time_of e) (subst (λ o. IfSome o (λ e. c.args.first + c.block_end-end.result ≤ time_of e)) c.event_at-next.ensures.value c.block_end-end.ensures.later) in
    sym c.self.view_is
    ∙ place_is (c.args.first + length c.args.out.now) place events c.event_at-next.ensures.timeline.ordered
    (stands_on events place c.args.first (c.args.first + length c.args.out.now) stands (omega arith) (λ d l. let t = later d l in let whole : c.block_end-end.result ≡ length c.args.out.now = c.if-end-count.true in omega (arith, t, whole)))

pub draw_around-requires-clause-place : goal.draw_around-requires-clause-place
draw_around-requires-clause-place g c = subst (λ p. p ≤ length c.args.line.now.events) (sym (c.self.view_is ∙ c.requires.stands)) (place_within c.args.first c.args.line.now.events)

pub draw_around-requires-clause-begun : goal.draw_around-requires-clause-begun
draw_around-requires-clause-begun g c = λ d some.
    let events = c.args.line.now.events in
    let stands = stands_at c.args.first c.self.inside.place events c.event_at-next.ensures.timeline.ordered (c.self.view_is ∙ c.requires.stands) in
    let before = stands.before d some in
    omega (arith, before)

pub draw_around-requires-clause-later : goal.draw_around-requires-clause-later
draw_around-requires-clause-later g c =
    at_place c.self.inside.place c.args.line.now.events (λ e. c.args.first + c.block_end-end.result ≤ time_of e)
    (subst (λ o. IfSome o (λ e. c.args.first + c.block_end-end.result ≤ time_of e)) c.event_at-next.ensures.value c.block_end-end.ensures.later)

pub loop-end-init : goal.loop-end-init
loop-end-init g c =
    let events = c.args.line.now.events in
    let place = c.self.inside.place in
    let first = c.args.first in
    let end = c.block_end-end.result in
    let stands : StandsAt place events first = stands_at first place events c.event_at-next.ensures.timeline.ordered (c.self.view_is ∙ c.requires.stands) in
    record {
      drawn = c.draw_around.ensures;
      order = c.block_end-end.ensures.within;
      long = search rules;
      within = search rules;
      next = c.event_at-next.ensures.value;
      before = search rules;
      begun = search rules;
      behind = at_place place events (λ e. first + end ≤ time_of e) (subst (λ o. IfSome o (λ e. first + end ≤ time_of e)) c.event_at-next.ensures.value c.block_end-end.ensures.later);
      there = λ l. at_some place events (λ e. time_of e ≡ first + end) (subst (λ o. IsSomeAnd o (λ e. time_of e ≡ first + end)) c.event_at-next.ensures.value (c.block_end-end.ensures.there l));
      cost = search rules;
    }

pub overflow_add-place : goal.overflow_add-place
overflow_add-place g c = let there = c.loop-end.invariant.there c.loop-end-test.true in record { fits = omega (arith, there.0, c.event_at-next.ensures.fits) }

pub block_end-end-requires-in-loop-end : goal.block_end-end-requires-in-loop-end
block_end-end-requires-in-loop-end g c =
    let there = c.loop-end.invariant.there c.loop-end-test.true in
    subst (λ o. IfSome o (λ e. c.args.first ≤ time_of e)) (sym c.event_at-next-in-loop-end.ensures.value)
    (if_there (c.loop-end.place + 1) c.args.line.now.events (λ e. c.args.first ≤ time_of e)
    (λ d l. let up = rising_times 0 c.loop-end.place (c.loop-end.place + 1) c.args.line.now.events d c.event_at-next.ensures.timeline.ordered (omega arith) l in omega (arith, up, there.1 d)))

pub draw_around-requires-in-loop-end-clause-order : goal.draw_around-requires-in-loop-end-clause-order
draw_around-requires-in-loop-end-clause-order g c =
    let there = c.loop-end.invariant.there c.loop-end-test.true in
    let d = Set 0 (pos 0) in
    elim (order (length c.args.out.now) c.block_end-end-in-loop-end.result) [
      | inl past ↦ omega (arith, c.loop-end.invariant.order, past)
      | inr inside ↦
          let some = at_some (c.loop-end.place + 1) c.args.line.now.events (λ e. time_of e ≡ c.args.first + c.block_end-end-in-loop-end.result)
          (subst (λ o. IsSomeAnd o (λ e. time_of e ≡ c.args.first + c.block_end-end-in-loop-end.result)) c.event_at-next-in-loop-end.ensures.value (c.block_end-end-in-loop-end.ensures.there inside)) in
          let up = rising_times 0 c.loop-end.place (c.loop-end.place + 1) c.args.line.now.events d c.event_at-next.ensures.timeline.ordered (omega arith) some.0 in
          omega (arith, up, there.1 d, some.1 d)
    ]

pub draw_around-requires-in-loop-end-clause-here : goal.draw_around-requires-in-loop-end-clause-here
draw_around-requires-in-loop-end-clause-here g c =
    let there = c.loop-end.invariant.there c.loop-end-test.true in
    c.loop-end.invariant.next ∙ last_next c.loop-end.place c.args.line.now.events there.0

pub draw_around-requires-in-loop-end-clause-later : goal.draw_around-requires-in-loop-end-clause-later
draw_around-requires-in-loop-end-clause-later g c =
    at_place (c.loop-end.place + 1) c.args.line.now.events (λ e. c.args.first + c.block_end-end-in-loop-end.result ≤ time_of e)
    (subst (λ o. IfSome o (λ e. c.args.first + c.block_end-end-in-loop-end.result ≤ time_of e)) c.event_at-next-in-loop-end.ensures.value c.block_end-end-in-loop-end.ensures.later)

pub loop-end-preserved : goal.loop-end-preserved
loop-end-preserved g c =
    let events = c.args.line.now.events in
    let place = c.loop-end.place in
    let first = c.args.first in
    let end = c.block_end-end-in-loop-end.result in
    let old = c.loop-end.invariant in
    let there = old.there c.loop-end-test.true in
    let back : place + 1 - 1 ≡ place = omega arith in
    let rises : c.loop-end.end ≤ end = elim (order (length c.args.out.now) end) [
      | inl past ↦ omega (arith, old.order, past)
      | inr inside ↦
          let d = Set 0 (pos 0) in
          let some = at_some (place + 1) events (λ e. time_of e ≡ first + end) (subst (λ o. IsSomeAnd o (λ e. time_of e ≡ first + end)) c.event_at-next-in-loop-end.ensures.value (c.block_end-end-in-loop-end.ensures.there inside)) in
          let up = rising_times 0 place (place + 1) events d c.event_at-next.ensures.timeline.ordered (omega arith) some.0 in
          omega (arith, up, there.1 d, some.1 d)
    ] in
    record {
      drawn = drawn_joined _ _ _ 0 c.loop-end.end end _ old.drawn c.draw_around-in-loop-end.ensures (omega arith);
      order = c.block_end-end-in-loop-end.ensures.within;
      long = search rules;
      within = omega (arith, there.0);
      next = c.event_at-next-in-loop-end.ensures.value;
      before = λ d l. let t : time_of (get_or events (place + 1 - 1) d) ≡ first + c.loop-end.end = ap (λ k. time_of (get_or events k d)) back ∙ there.1 d in omega (arith, t, c.loop-end-test.true);
      begun = λ d l. let t : time_of (get_or events (place + 1 - 1) d) ≡ first + c.loop-end.end = ap (λ k. time_of (get_or events k d)) back ∙ there.1 d in omega (arith, t, rises);
      behind = at_place (place + 1) events (λ e. first + end ≤ time_of e) (subst (λ o. IfSome o (λ e. first + end ≤ time_of e)) c.event_at-next-in-loop-end.ensures.value c.block_end-end-in-loop-end.ensures.later);
      there = λ l. at_some (place + 1) events (λ e. time_of e ≡ first + end) (subst (λ o. IsSomeAnd o (λ e. time_of e ≡ first + end)) c.event_at-next-in-loop-end.ensures.value (c.block_end-end-in-loop-end.ensures.there l));
      cost = let k = c.event_at-next-in-loop-end.ensures.cost in omega (arith, old.cost, k);
    }

pub returns-clause-stands : goal.returns-clause-stands
returns-clause-stands g c =
    let events = c.args.line.now.events in
    let last : StandsAt c.loop-end.place events (c.args.first + length c.loop-end.out) = search rules in
    place_is (c.args.first + length c.loop-end.out) c.loop-end.place events c.event_at-next.ensures.timeline.ordered last

pub returns-clause-cost : goal.returns-clause-cost
returns-clause-cost g c =
    let events = c.args.line.now.events in
    let last : StandsAt c.loop-end.place events (c.args.first + length c.loop-end.out) = search rules in
    let stands = place_is (c.args.first + length c.loop-end.out) c.loop-end.place events c.event_at-next.ensures.timeline.ordered last in
    let moved = moved_by c.args.first (c.args.first + length c.loop-end.out) events (omega arith) in
    omega (arith, moved, stands, c.requires.stands, c.loop-end.invariant.cost)
