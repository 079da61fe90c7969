use Rattle.std.proofs.Common.{rules, ◌≡◌, ◌<◌, ◌≤◌, ◌+◌, [], length, get_or, set, true, subst, sym, ◌∙◌, ap, arith}
use Rattle.std.proofs.lemmas.List.{get_or_read, length_push}
use Rattle.law_base.specs.Members.{IsIn}
use Rattle.cycle_order.specs.Passes.{IsPassing, unfollowed}
use Rattle.cycle_order.specs.Reach.{is_marked, leads}
use Rattle.cycle_order.proofs.Lists.{IsIn-get_or}
use Rattle.cycle_order.proofs.Searching.{leads_to}
use Rattle.cycle_order.proofs.Ways.{joined_ways, one_arrow, chained_to}
use Rattle.cycle_order.proofs.Finishing.{top_within, one_followed, passing_follows, passing_finishes}
use Rattle.cycle_order.proofs.passes.Pass.step.Goals as goal

pub index-first-requires : goal.index-first-requires
index-first-requires c =
    let l = top_within c.args.arrows.now c.args.self.now.marks.items c.args.self.now.next.items c.args.self.now.stack.items c.args.self.now.order.items c.args.vertex c.requires.passing in
    let n = c.requires.passing.nexts in search rules

pub part-targets-requires : goal.part-targets-requires
part-targets-requires c = top_within c.args.arrows.now c.args.self.now.marks.items c.args.self.now.next.items c.args.self.now.stack.items c.args.self.now.order.items c.args.vertex c.requires.passing

pub visit-requires-clause-vertex : goal.visit-requires-clause-vertex
visit-requires-clause-vertex c =
    let arrows = c.args.arrows.now in
    let v = c.args.vertex in
    let l = top_within arrows c.args.self.now.marks.items c.args.self.now.next.items c.args.self.now.stack.items c.args.self.now.order.items v c.requires.passing in
    let targets = c.part-targets.ensures in
    let t = get_or c.part-targets.result.now c.index-first.result.now 0 in
    let led : leads arrows v t ≡ true = leads_to arrows v t (subst (λ xs. IsIn t xs) targets (IsIn-get_or c.part-targets.result.now c.index-first.result.now 0 c.if-first-targets.true)) in
    c.requires.within v t led

pub visit-requires-clause-ways : goal.visit-requires-clause-ways
visit-requires-clause-ways c g h =
    let arrows = c.args.arrows.now in
    let v = c.args.vertex in
    let l = top_within arrows c.args.self.now.marks.items c.args.self.now.next.items c.args.self.now.stack.items c.args.self.now.order.items v c.requires.passing in
    let targets = c.part-targets.ensures in
    let t = get_or c.part-targets.result.now c.index-first.result.now 0 in
    let led : leads arrows v t ≡ true = leads_to arrows v t (subst (λ xs. IsIn t xs) targets (IsIn-get_or c.part-targets.result.now c.index-first.result.now 0 c.if-first-targets.true)) in
    joined_ways arrows g v t (chained_to arrows c.args.self.now.stack.items v g c.requires.passing.chained (subst (λ xs. IsIn g xs) c.in_ok-push.ensures.items h)) (one_arrow arrows v t led)

pub index_mut-requires : goal.index_mut-requires
index_mut-requires c =
    let l = top_within c.args.arrows.now c.args.self.now.marks.items c.args.self.now.next.items c.args.self.now.stack.items c.args.self.now.order.items c.args.vertex c.requires.passing in
    let n = ap length c.in_ok-visit.ensures.next ∙ c.requires.passing.nexts in search rules

pub returns-in_ok-visit-clause-passing : goal.returns-in_ok-visit-clause-passing
returns-in_ok-visit-clause-passing c =
    let arrows = c.args.arrows.now in
    let v = c.args.vertex in
    let next = c.args.self.now.next.items in
    let next' = c.visit.new.self.next.items in
    let l = top_within arrows c.args.self.now.marks.items next c.args.self.now.stack.items c.args.self.now.order.items v c.requires.passing in
    let inside : v < length next = subst (λ n. v < n) (sym c.requires.passing.nexts) l in
    let targets = c.part-targets.ensures in
    let first : c.index-first.result.now ≡ get_or next' v 0 = get_or_read next v c.index-first.result.now inside c.index-first.ensures 0 ∙ ap (λ xs. get_or xs v 0) (sym c.in_ok-visit.ensures.next) in
    let marked = subst (λ i. is_marked c.visit.new.self.marks.items (get_or (get_or arrows v []) i 0) ≡ true) first
    (subst (λ ts. is_marked c.visit.new.self.marks.items (get_or ts c.index-first.result.now 0) ≡ true) targets c.in_ok-visit.ensures.marked) in
    subst (λ i. IsPassing arrows c.visit.new.self.marks.items (set next' v (i + 1)) c.visit.new.self.stack.items c.visit.new.self.order.items) (sym first)
    (passing_follows arrows c.visit.new.self.marks.items next' c.visit.new.self.stack.items c.visit.new.self.order.items v c.in_ok-visit.ensures.passing l marked)

pub returns-in_ok-visit-clause-less : goal.returns-in_ok-visit-clause-less
returns-in_ok-visit-clause-less c =
    let arrows = c.args.arrows.now in
    let v = c.args.vertex in
    let next = c.args.self.now.next.items in
    let l = top_within arrows c.args.self.now.marks.items next c.args.self.now.stack.items c.args.self.now.order.items v c.requires.passing in
    let inside : v < length next = subst (λ n. v < n) (sym c.requires.passing.nexts) l in
    let targets = c.part-targets.ensures in
    let first : c.index-first.result.now ≡ get_or next v 0 = get_or_read next v c.index-first.result.now inside c.index-first.ensures 0 in
    let below : get_or next v 0 < length (get_or arrows v []) = subst (λ i. i < length (get_or arrows v [])) first (subst (λ ts. c.index-first.result.now < length ts) targets c.if-first-targets.true) in
    let one = one_followed arrows next v c.requires.passing.nexts l below in
    let same : unfollowed arrows (set c.visit.new.self.next.items v (c.index-first.result.now + 1)) ≡ unfollowed arrows (set next v (get_or next v 0 + 1)) =
    ap (λ xs. unfollowed arrows (set xs v (c.index-first.result.now + 1))) c.in_ok-visit.ensures.next ∙ ap (λ i. unfollowed arrows (set next v (i + 1))) first in
    let pushed = ap length c.in_ok-push.ensures.items ∙ length_push c.args.self.now.stack.items v in
    let more = c.in_ok-visit.ensures.stack in
    omega arith

pub returns-in_ok-push-2-clause-passing : goal.returns-in_ok-push-2-clause-passing
returns-in_ok-push-2-clause-passing c =
    let arrows = c.args.arrows.now in
    let v = c.args.vertex in
    let next = c.args.self.now.next.items in
    let l = top_within arrows c.args.self.now.marks.items next c.args.self.now.stack.items c.args.self.now.order.items v c.requires.passing in
    let inside : v < length next = subst (λ n. v < n) (sym c.requires.passing.nexts) l in
    let targets = c.part-targets.ensures in
    let first : c.index-first.result.now ≡ get_or next v 0 = get_or_read next v c.index-first.result.now inside c.index-first.ensures 0 in
    let number : length c.part-targets.result.now ≡ length (get_or arrows v []) = ap length targets in
    let past = c.if-first-targets.false in
    let all : length (get_or arrows v []) ≤ get_or next v 0 = omega arith in
    subst (λ xs. IsPassing arrows c.args.self.now.marks.items next c.args.self.now.stack.items xs) (sym c.in_ok-push-2.ensures.items)
    (passing_finishes arrows c.args.self.now.marks.items next c.args.self.now.stack.items c.args.self.now.order.items v c.requires.passing all)
