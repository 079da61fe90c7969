use Rattle.std.proofs.Common.{ℕ, ◌≡◌, ◌<◌, ◌≤◌, [], filter, length, drop, get_or, ◌∙◌, sym, ap, subst, arith}
use Rattle.std.specs.Prelude.{◌==◌}
use Rattle.std.specs.List.{range_with_len}
use Rattle.std.proofs.lemmas.List.{get_or_read, take_at}
use Rattle.law_base.specs.Members.{IsIn}
use Rattle.cycle_order.specs.Sorting.{AreFree}
use Rattle.cycle_order.proofs.Lists.{IsIn-get_or}
use Rattle.cycle_order.proofs.Searching.{leads_to}
use Rattle.cycle_order.proofs.Sorted.{free_first, forward_more, front_long, no_cycle}
use Rattle.cycle_order.proofs.sorting.are_sorted.Goals as goal

pub loop-place-init : goal.loop-place-init
loop-place-init c =
    let counts = c.in_ok-counts.counts.items in
    record {
      number = c.in_ok-counts.ensures.number;
      free = subst (λ fs. AreFree counts fs) (sym (c.in_ok-free.ensures ∙ ap (λ cs. filter (λ v. get_or cs v 0 == 0) (range_with_len 0 (length cs))) c.as_slice.ensures.value)) (free_first counts);
      listed = omega arith;
      forward = λ i j l. absurd (omega arith);
    }

pub part-requires : goal.part-requires
part-requires c =
    let free = c.loop-place.free.items in
    let listed : c.loop-place.place < length free = let l = c.if-place-len.false in let own = c.len.ensures in let same = c.loop-place.free.ok.0 in omega arith in
    let vertex : c.index-vertex.result.now ≡ get_or free c.loop-place.place 0 = get_or_read free c.loop-place.place c.index-vertex.result.now listed c.index-vertex.ensures 0 in
    let below = c.loop-place.invariant.free.within (get_or free c.loop-place.place 0) (IsIn-get_or free c.loop-place.place 0 listed) in
    let number = c.loop-place.invariant.number in
    omega arith

pub take_away-requires-clause-within : goal.take_away-requires-clause-within
take_away-requires-clause-within c v h =
    let arrows = c.args.arrows.now in
    let below = c.requires c.index-vertex.result.now v (leads_to arrows c.index-vertex.result.now v (subst (λ xs. IsIn v xs) c.part.ensures h)) in
    subst (λ n. v < n) (sym (ap length c.as_mut_slice.ensures.value ∙ c.loop-place.invariant.number)) below

-- a vertex more that is taken away
pub loop-place-preserved : goal.loop-place-preserved
loop-place-preserved c =
    let arrows = c.args.arrows.now in
    let place : ℕ = c.loop-place.place in
    let counts = c.loop-place.counts.items in
    let free = c.loop-place.free.items in
    let counts_2 = c.take_away.new.counts in
    let free_2 = c.take_away.new.free.items in
    let kept = take_at counts_2 (drop (length counts_2) counts) c.loop-place.counts.len (c.take_away.auto.counts ∙ c.as_mut_slice.ensures.len) in
    let listed : place < length free = let l = c.if-place-len.false in let own = c.len.ensures in let same = c.loop-place.free.ok.0 in omega arith in
    let vertex : c.index-vertex.result.now ≡ get_or free place 0 = get_or_read free place c.index-vertex.result.now listed c.index-vertex.ensures 0 in
    record {
      number = ap length kept ∙ c.take_away.auto.counts ∙ ap length c.as_mut_slice.ensures.value ∙ c.loop-place.invariant.number;
      free = subst (λ cs. AreFree cs free_2) (sym kept) c.in_ok-take_away.ensures.free;
      listed = let l = front_long free free_2 c.in_ok-take_away.ensures.front in omega arith;
      forward = forward_more arrows free free_2 place listed c.in_ok-take_away.ensures.front c.loop-place.invariant.forward
          (λ v m. c.in_ok-take_away.ensures.later c.if-not-branch.false v (subst (λ xs. IsIn v xs) (sym (c.part.ensures ∙ ap (λ u. get_or arrows u []) vertex)) m));
    }

pub returns : goal.returns
returns c all =
    let arrows = c.args.arrows.now in
    let free = c.loop-place.free.items in
    let past : length arrows ≤ c.loop-place.place = subst (λ n. n ≤ c.loop-place.place) c.len-place-end.ensures c.loop-place-test.false in
    no_cycle arrows c.loop-place.counts.items free c.requires c.loop-place.invariant.number c.loop-place.invariant.free (let l = c.loop-place.invariant.listed in omega arith)
    (λ i j l. c.loop-place.invariant.forward i j (omega arith))
