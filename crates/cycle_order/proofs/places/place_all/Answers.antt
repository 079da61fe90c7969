use Rattle.std.proofs.Common.{ℕ, ◌≡◌, ◌<◌, ◌||◌, ◌&&◌, [], length, drop, get_or, sym, ◌∙◌, ap, arith, subst}
use Rattle.std.specs.Prelude.{◌==◌, nat_lt}
use Rattle.std.specs.List.{list_any}
use Rattle.std.proofs.lemmas.List.{take_at, length_push}
use Rattle.law_base.specs.Members.{IsIn}
use Rattle.cycle_order.specs.Arrows.{vertex_of}
use Rattle.cycle_order.specs.Counts.{times, holds}
use Rattle.cycle_order.proofs.Searching.{leads_to}
use Rattle.cycle_order.proofs.Placed.{IsPlacing, placing_starts, placing_ends, next_inside, enough, one_placed_more, placed_more}
use Rattle.cycle_order.proofs.places.place_all.Goals as goal

pub loop-vertex-init : goal.loop-vertex-init
loop-vertex-init c =
    let arrows = c.args.arrows.now in
    let ends = c.args.ends.now in
    let held = subst (λ xs. (v : ℕ) → holds c.in_ok-ready.ready v ≡ list_any (λ e. vertex_of e == v && get_or xs (vertex_of e) 0 == 0) ends) c.as_slice.ensures.value c.in_ok-ready.ensures in
    subst (λ ps. IsPlacing arrows c.args.tie ends c.in_ok-counts.counts.items c.in_ok-ready.ready ps) (sym c.new-placed.ensures)
    (placing_starts arrows c.args.tie ends c.requires.within c.requires.ends c.in_ok-counts.counts.items c.in_ok-ready.ready c.requires.rising c.in_ok-counts.ensures.number c.in_ok-counts.ensures.counts held)

pub end_at-requires : goal.end_at-requires
end_at-requires c =
    let l = next_inside c.args.arrows.now c.args.tie c.args.ends.now c.requires.within c.requires.ends c.loop-vertex.counts.items c.loop-vertex.ready c.loop-vertex.placed c.loop-vertex.invariant c.in-Some.vertex c.take_next.new.ready c.in-Some.ensures.some in
    let few = c.requires.vertices in omega arith

pub part-requires : goal.part-requires
part-requires c = next_inside c.args.arrows.now c.args.tie c.args.ends.now c.requires.within c.requires.ends c.loop-vertex.counts.items c.loop-vertex.ready c.loop-vertex.placed c.loop-vertex.invariant c.in-Some.vertex c.take_next.new.ready c.in-Some.ensures.some

pub release-requires-clause-within : goal.release-requires-clause-within
release-requires-clause-within c v h =
    let arrows = c.args.arrows.now in
    let u = c.in-Some.vertex in
    let l = next_inside arrows c.args.tie c.args.ends.now c.requires.within c.requires.ends c.loop-vertex.counts.items c.loop-vertex.ready c.loop-vertex.placed c.loop-vertex.invariant u c.take_next.new.ready c.in-Some.ensures.some in
    let targets = c.part.ensures in
    let v_below = c.requires.within u v (leads_to arrows u v (subst (λ xs. IsIn v xs) targets h)) in
    subst (λ n. v < n) (sym (ap length c.as_mut_slice.ensures.value ∙ c.loop-vertex.invariant.number)) v_below

pub release-requires-clause-enough : goal.release-requires-clause-enough
release-requires-clause-enough c v h =
    let arrows = c.args.arrows.now in
    let u = c.in-Some.vertex in
    let l = next_inside arrows c.args.tie c.args.ends.now c.requires.within c.requires.ends c.loop-vertex.counts.items c.loop-vertex.ready c.loop-vertex.placed c.loop-vertex.invariant u c.take_next.new.ready c.in-Some.ensures.some in
    let targets = c.part.ensures in
    let inside : v < length c.loop-vertex.counts.items = subst (λ n. v < n) (ap length c.as_mut_slice.ensures.value) h in
    let k = enough arrows c.args.tie c.args.ends.now c.requires.within c.requires.ends c.loop-vertex.counts.items c.loop-vertex.ready c.loop-vertex.placed c.loop-vertex.invariant u c.take_next.new.ready c.in-Some.ensures.some v inside in
    let value : get_or c.as_mut_slice.result.now v 0 ≡ get_or c.loop-vertex.counts.items v 0 = ap (λ xs. get_or xs v 0) c.as_mut_slice.ensures.value in
    let read : times v c.part.result.now ≡ times v (get_or arrows u []) = ap (times v) targets in
    omega arith

pub loop-vertex-smaller : goal.loop-vertex-smaller
loop-vertex-smaller c =
    let more = one_placed_more c.args.arrows.now c.args.tie c.args.ends.now c.requires.within c.requires.ends c.loop-vertex.counts.items c.loop-vertex.ready c.loop-vertex.placed c.loop-vertex.invariant c.in-Some.vertex c.take_next.new.ready c.in-Some.ensures.some in
    let pushed = ap length c.in_ok-push.ensures.ok ∙ length_push c.loop-vertex.placed c.end_at.result in
    omega arith

pub loop-vertex-preserved : goal.loop-vertex-preserved
loop-vertex-preserved c =
    let arrows = c.args.arrows.now in
    let u = c.in-Some.vertex in
    let counts = c.loop-vertex.counts.items in
    let counts' = c.release.new.counts in
    let l = next_inside arrows c.args.tie c.args.ends.now c.requires.within c.requires.ends counts c.loop-vertex.ready c.loop-vertex.placed c.loop-vertex.invariant u c.take_next.new.ready c.in-Some.ensures.some in
    let targets = c.part.ensures in
    let kept = take_at counts' (drop (length counts') counts) c.loop-vertex.counts.len (c.release.auto.counts ∙ c.as_mut_slice.ensures.len) in
    let value = c.as_mut_slice.ensures.value in
    subst (λ xs. IsPlacing arrows c.args.tie c.args.ends.now xs c.release.new.ready c.push.new.self) (sym kept)
    (subst (λ ps. IsPlacing arrows c.args.tie c.args.ends.now counts' c.release.new.ready ps) (sym c.in_ok-push.ensures.ok)
    (placed_more arrows c.args.tie c.args.ends.now c.requires.within c.requires.ends counts c.loop-vertex.ready c.loop-vertex.placed c.loop-vertex.invariant u c.take_next.new.ready c.in-Some.ensures.some
    counts' c.release.new.ready (c.release.auto.counts ∙ ap length value)
    (λ v inside.
    let lower = c.in_ok-release.ensures.counts v (subst (λ n. v < n) (sym (ap length value)) inside) in
    let read : times v c.part.result.now ≡ times v (get_or arrows u []) = ap (times v) targets in
    let before : get_or c.as_mut_slice.result.now v 0 ≡ get_or counts v 0 = ap (λ xs. get_or xs v 0) value in
    omega arith)
    (λ v. c.in_ok-release.ensures.ready v ∙ ap (λ ts. holds c.take_next.new.ready v || (nat_lt 0 (times v ts) && get_or counts' v 0 == 0)) targets)
    c.end_at.result c.end_at.ensures))

pub returns : goal.returns
returns c = placing_ends c.args.arrows.now c.args.tie c.args.ends.now c.requires.within c.requires.ends c.loop-vertex.counts.items c.loop-vertex.ready c.loop-vertex.placed c.loop-vertex.invariant c.in_default.ensures.none
