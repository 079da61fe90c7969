use Rattle.std.proofs.Common.{ℕ, ◌≡◌, ◌+◌, ap₂, ◌++◌, ◌∷◌, [], ℤ, List, Some, length, sym, ap, ◌∙◌, subst, arith, append_assoc, inl, inr}
use Rattle.std.specs.Prelude.{is_some, IfSome}
use Rattle.std.proofs.lemmas.Bool.Decides.{nat_tests}
use Rattle.std.proofs.lemmas.List.{append-nil, with_items_is}
use Rattle.wa_base.specs.declared.contexts.ContextSpec.{ContextSpec}
use Rattle.ctx_state.specs.Context.{next, turn_of}
use Rattle.control_msgs.specs.Messages.{ended_marked}
use Rattle.transcript.specs.declared.lines.Line.{Line}
use Rattle.transcript.specs.declared.lines.Line.TheVariants as line
use Rattle.control_side.specs.Machine.{Machine, caught_up, world_caught_up}
use Rattle.control_side.specs.Turns.{ended_lines}
use Rattle.session.specs.Session.{promise_lines, lines_after, after_turn}
use Rattle.session.specs.View.{SessionView, Stands, HasRoom, sent}
use Rattle.session.proofs.CatchingUp.{told_after}
use Rattle.session.proofs.Quanta.{time_after}
use Rattle.session.proofs.Turning.{seen, keeps_up, has_room, none_ends, stands_next, long_room}
use Rattle.session.proofs.session.Session.advance.Goals as goal

pub render-requires-clause-long : goal.render-requires-clause-long
render-requires-clause-long c =
    long_room c.self.inside.control c.self.inside.samples.items c.as_mut_slice.result.now c.self.inside.side c.reserve-2.new.side c.as_mut_slice.ensures.value (c.now-first.ensures.begun (rw (← c.self.view_is) at c.requires)) c.self.invariant.samples_long
    c.self.invariant.side_keeps_up c.in_ok-reserve-2.ensures.ok

-- where no source ends, none is to be marked
pub post_ended-requires-clause-none : goal.post_ended-requires-clause-none
post_ended-requires-clause-none c none =
    let m : Machine = c.self.inside.control in
    let frame : c.now-first.result + c.from.result ≡ next m.context = ap₂ (λ (a b : ℕ). a + b) c.now-first.ensures.now (c.from.ensures ∙ ap (λ (x : ContextSpec). x.quantum) c.spec-spec.ensures.context) in
    let empty = c.is_empty.ensures in
    let few : length c.in_ok-ended.ended.items ≡ 0 = grind (arith, nat_tests) in
    subst (λ n. IfSome c.render.new.side (λ s. ended_marked n (sent s) ≡ sent s)) (sym frame)
    (none_ends m (next m.context) c.now-first.result c.as_mut_slice.result.now c.render.new.samples c.self.inside.side c.reserve-2.new.side c.render.new.side c.in_ok-reserve-2.ensures.ok c.in_ok-render.ensures.ok c.self.invariant.side_keeps_up (c.in_ok-ended.ensures.none few))

-- ---- rendering goes on

pub invariant_of-self-in-Went-1 : goal.invariant_of-self-in-Went-1
invariant_of-self-in-Went-1 c =
    let items = with_items_is c.self.inside.samples c.render.new.samples (c.render.auto.samples ∙ c.as_mut_slice.ensures.len) in
    record {
      line = omega (arith, c.in_ok-reserve.ensures.room, c.append_reserved.ensures.room, c.len.ensures);
      samples_long = subst (HasRoom (is_some c.post_ended.new.side) c.turn-turn.new.self) (sym items) (has_room c.self.inside.control c.turn-turn.new.self c.self.inside.samples.items c.as_mut_slice.result.now c.render.new.samples c.self.inside.side c.reserve-2.new.side c.render.new.side c.post_ended.new.side
          c.now-first.result c.spec-spec.result c.spec-spec.ensures.context c.spec-spec.ensures.spec c.now-first.ensures.now c.turn-turn.ensures.machine c.as_mut_slice.ensures.value c.in_ok-reserve-2.ensures.ok c.in_ok-render.ensures.ok (rw c.from.ensures at c.post_ended.ensures) (c.render.auto.samples ∙ ap length c.as_mut_slice.ensures.value) c.self.invariant.samples_long);
      side_keeps_up = keeps_up c.self.inside.control c.turn-turn.new.self c.self.inside.samples.items c.as_mut_slice.result.now c.render.new.samples c.self.inside.side c.reserve-2.new.side c.render.new.side c.post_ended.new.side
          c.now-first.result c.spec-spec.result c.spec-spec.ensures.context c.spec-spec.ensures.spec c.now-first.ensures.now c.turn-turn.ensures.machine c.as_mut_slice.ensures.value c.in_ok-reserve-2.ensures.ok c.in_ok-render.ensures.ok (rw c.from.ensures at c.post_ended.ensures) c.self.invariant.side_keeps_up;
    }

pub returns-in-Went-clause-stands : goal.returns-in-Went-clause-stands
returns-in-Went-clause-stands c = λ tape stands.
    let items = with_items_is c.self.inside.samples c.render.new.samples (c.render.auto.samples ∙ c.as_mut_slice.ensures.len) in
    rw (← c.self.view_is) (subst (λ (xs : List ℤ). Stands (seen (caught_up (Some c.now-first.result) c.turn-turn.new.self) c.append_reserved.new.self.items xs c.post_ended.new.side) (tape ++ world_caught_up c.self.inside.behind c.self.inside.control.world ∷ [])) (sym items)
    (stands_next c.self.inside.control c.turn-turn.new.self c.self.inside.samples.items c.as_mut_slice.result.now c.render.new.samples c.self.inside.side c.reserve-2.new.side c.render.new.side c.post_ended.new.side
    c.now-first.result c.spec-spec.result c.spec-spec.ensures.context c.spec-spec.ensures.spec c.now-first.ensures.now c.turn-turn.ensures.machine c.as_mut_slice.ensures.value c.in_ok-reserve-2.ensures.ok c.in_ok-render.ensures.ok (rw c.from.ensures at c.post_ended.ensures) c.self.inside.behind c.self.inside.lines.items c.append_reserved.new.self.items tape c.self.invariant.side_keeps_up c.turn-turn.ensures.valid (rw (← c.self.view_is) at stands)))

pub returns-in-Went-clause-told : goal.returns-in-Went-clause-told
returns-in-Went-clause-told c =
    let m : Machine = c.self.inside.control in
    let ended : List Line = ended_lines m.first_names (next m.context) m.world.scheds.items in
    let promised : promise_lines (turn_of m.context) ≡ [] = ap promise_lines (sym c.turn-turn.ensures.turn ∙ c.in-Went.is) in
    let lines : c.append_reserved.new.self.items ≡ c.self.inside.lines.items ++ lines_after m =
    c.append_reserved.ensures.items
    ∙ ap (λ (ls : List Line). ls ++ c.in_ok-ended.ended.items) c.in_ok-reserve.ensures.items
    ∙ ap (λ (ls : List Line). c.self.inside.lines.items ++ ls) (c.in_ok-ended.ensures.lines ∙ sym (append-nil ended) ∙ ap (λ (ls : List Line). ended ++ ls) (sym promised)) in
    told_after c.self.inside.behind m c.turn-turn.new.self c.now-first.result c.self.inside.lines.items c.append_reserved.new.self.items c.now-first.ensures.now c.turn-turn.ensures.machine lines
    ∙ ap (λ (v : SessionView). after_turn v.told) c.self.view_is

-- ---- a promise resolves

pub returns-in-Due-clause-told : goal.returns-in-Due-clause-told
returns-in-Due-clause-told c =
    let m : Machine = c.self.inside.control in
    let ended : List Line = ended_lines m.first_names (next m.context) m.world.scheds.items in
    let promised : promise_lines (turn_of m.context) ≡ line.Resolved c.in-Due.ordinal ∷ [] =
    elim c.in-Due.is [
      | inl due ↦ ap promise_lines (sym c.turn-turn.ensures.turn ∙ due)
      | inr done ↦ ap promise_lines (sym c.turn-turn.ensures.turn ∙ done)
    ] in
    let lines : c.push_reserved.new.self.items ≡ c.self.inside.lines.items ++ lines_after m =
    c.push_reserved.ensures.items
    ∙ ap (λ (ls : List Line). ls ++ line.Resolved c.in-Due.ordinal ∷ []) (c.append_reserved.ensures.items ∙ ap (λ (ls : List Line). ls ++ c.in_ok-ended.ended.items) c.in_ok-reserve.ensures.items)
    ∙ append_assoc c.self.inside.lines.items c.in_ok-ended.ended.items (line.Resolved c.in-Due.ordinal ∷ [])
    ∙ ap (λ (ls : List Line). c.self.inside.lines.items ++ ls) (ap (λ (ls : List Line). ls ++ line.Resolved c.in-Due.ordinal ∷ []) c.in_ok-ended.ensures.lines ∙ ap (λ (ls : List Line). ended ++ ls) (sym promised)) in
    told_after c.self.inside.behind m c.turn-turn.new.self c.now-first.result c.self.inside.lines.items c.push_reserved.new.self.items c.now-first.ensures.now c.turn-turn.ensures.machine lines
    ∙ ap (λ (v : SessionView). after_turn v.told) c.self.view_is

pub invariant_of-self-in-Due : goal.invariant_of-self-in-Due
invariant_of-self-in-Due c =
    let items = with_items_is c.self.inside.samples c.render.new.samples (c.render.auto.samples ∙ c.as_mut_slice.ensures.len) in
    record {
      line = omega (arith, c.in_ok-reserve.ensures.room, c.append_reserved.ensures.room, c.push_reserved.ensures.room, c.len.ensures);
      samples_long = subst (HasRoom (is_some c.post_ended.new.side) c.turn-turn.new.self) (sym items) (has_room c.self.inside.control c.turn-turn.new.self c.self.inside.samples.items c.as_mut_slice.result.now c.render.new.samples c.self.inside.side c.reserve-2.new.side c.render.new.side c.post_ended.new.side
          c.now-first.result c.spec-spec.result c.spec-spec.ensures.context c.spec-spec.ensures.spec c.now-first.ensures.now c.turn-turn.ensures.machine c.as_mut_slice.ensures.value c.in_ok-reserve-2.ensures.ok c.in_ok-render.ensures.ok (rw c.from.ensures at c.post_ended.ensures) (c.render.auto.samples ∙ ap length c.as_mut_slice.ensures.value) c.self.invariant.samples_long);
      side_keeps_up = keeps_up c.self.inside.control c.turn-turn.new.self c.self.inside.samples.items c.as_mut_slice.result.now c.render.new.samples c.self.inside.side c.reserve-2.new.side c.render.new.side c.post_ended.new.side
          c.now-first.result c.spec-spec.result c.spec-spec.ensures.context c.spec-spec.ensures.spec c.now-first.ensures.now c.turn-turn.ensures.machine c.as_mut_slice.ensures.value c.in_ok-reserve-2.ensures.ok c.in_ok-render.ensures.ok (rw c.from.ensures at c.post_ended.ensures) c.self.invariant.side_keeps_up;
    }

pub returns-in-Due-clause-stands : goal.returns-in-Due-clause-stands
returns-in-Due-clause-stands c = λ tape stands.
    let items = with_items_is c.self.inside.samples c.render.new.samples (c.render.auto.samples ∙ c.as_mut_slice.ensures.len) in
    rw (← c.self.view_is) (subst (λ (xs : List ℤ). Stands (seen (caught_up (Some c.now-first.result) c.turn-turn.new.self) c.push_reserved.new.self.items xs c.post_ended.new.side) (tape ++ world_caught_up c.self.inside.behind c.self.inside.control.world ∷ [])) (sym items)
    (stands_next c.self.inside.control c.turn-turn.new.self c.self.inside.samples.items c.as_mut_slice.result.now c.render.new.samples c.self.inside.side c.reserve-2.new.side c.render.new.side c.post_ended.new.side
    c.now-first.result c.spec-spec.result c.spec-spec.ensures.context c.spec-spec.ensures.spec c.now-first.ensures.now c.turn-turn.ensures.machine c.as_mut_slice.ensures.value c.in_ok-reserve-2.ensures.ok c.in_ok-render.ensures.ok (rw c.from.ensures at c.post_ended.ensures) c.self.inside.behind c.self.inside.lines.items c.push_reserved.new.self.items tape c.self.invariant.side_keeps_up c.turn-turn.ensures.valid (rw (← c.self.view_is) at stands)))

-- ---- the time

pub returns-in-Went-clause-time : goal.returns-in-Went-clause-time
returns-in-Went-clause-time c =
    time_after c.args.self.now.told _ c.spec-spec.result (returns-in-Went-clause-told c) (c.spec-spec.ensures.context ∙ ap (λ (v : SessionView). v.told.machine.context.spec) c.self.view_is)
    (c.spec-spec.ensures.spec ∙ ap (λ (v : SessionView). v.told.machine.world.spec) c.self.view_is)

pub returns-in-Due-clause-time : goal.returns-in-Due-clause-time
returns-in-Due-clause-time c =
    time_after c.args.self.now.told _ c.spec-spec.result (returns-in-Due-clause-told c) (c.spec-spec.ensures.context ∙ ap (λ (v : SessionView). v.told.machine.context.spec) c.self.view_is)
    (c.spec-spec.ensures.spec ∙ ap (λ (v : SessionView). v.told.machine.world.spec) c.self.view_is)
