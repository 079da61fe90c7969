use Rattle.std.proofs.Common.{rules, ℕ, zero, suc, ◌≡◌, ◌<◌, ◌-◌, ◌++◌, [], true, false, refl, replicate, length, take, drop, get_or, sym, ◌∙◌, ap, subst}
use Rattle.std.proofs.lemmas.List.{get_or_read, take_at, append-nil, length-replicate}
use Rattle.law_base.specs.Members.{IsIn}
use Rattle.cycle_order.specs.Passes.{IsTree}
use Rattle.cycle_order.specs.Reach.{is_marked}
use Rattle.cycle_order.proofs.Searching.{marked_within}
use Rattle.cycle_order.proofs.Leading.{IsLeading, leading_starts, leading_ends, root_within, leading_skips, leading_goes_on}
use Rattle.cycle_order.proofs.passes.leaders.Goals as goal

none_marked : (n v : ℕ) → is_marked (replicate n false) v ≡ false
none_marked zero v = refl
none_marked (suc n) zero = refl
none_marked (suc n) (suc v) = none_marked n v

pub loop-root-init : goal.loop-root-init
loop-root-init c =
    let marks = c.in_ok-marks.marks.items in
    let leaders = c.in_ok-leaders.leaders.items in
    let blank : marks ≡ replicate c.len.result false = c.in_ok-marks.ensures.items_if_clones_equal (λ y e. e) in
    let low : leaders ≡ replicate c.len-2.result 0 = c.in_ok-leaders.ensures.items_if_clones_equal (λ y e. e) in
    leading_starts c.args.arrows.now c.in_ok-order.order.items c.in_ok-order.ensures marks leaders
    (ap length blank ∙ length-replicate c.len.result false ∙ c.len.ensures)
    (ap length low ∙ length-replicate c.len-2.result 0 ∙ c.len-2.ensures)
    (λ v. ap (λ xs. is_marked xs v) blank ∙ none_marked c.len.result v)

pub index-requires : goal.index-requires
index-requires c =
    let order = c.in_ok-order.order.items in
    let p = subst (λ xs. IsLeading c.args.arrows.now order xs c.loop-root.marks.items c.loop-root.leaders.items) c.in-Some.ensures.items c.loop-root.invariant in
    let l = root_within c.args.arrows.now order c.in_ok-order.ensures c.pop.new.self.items c.in-Some.root c.loop-root.marks.items c.loop-root.leaders.items p in
    let n = c.loop-root.invariant.number in
    search rules

pub gather-requires-clause-root : goal.gather-requires-clause-root
gather-requires-clause-root c =
    let order = c.in_ok-order.order.items in
    let p = subst (λ xs. IsLeading c.args.arrows.now order xs c.loop-root.marks.items c.loop-root.leaders.items) c.in-Some.ensures.items c.loop-root.invariant in
    let l = root_within c.args.arrows.now order c.in_ok-order.ensures c.pop.new.self.items c.in-Some.root c.loop-root.marks.items c.loop-root.leaders.items p in
    subst (λ n. c.in-Some.root < n) (sym c.in_ok-back.ensures.number) l

pub lead-requires : goal.lead-requires
lead-requires c v h =
    let tree = subst (λ xs. IsIn v xs) c.as_slice.ensures.value h in
    let l = marked_within c.gather.new.marks v (c.in_ok-gather.ensures.marked v tree) in
    let number = c.gather.auto.marks ∙ ap length c.as_mut_slice.ensures.value ∙ c.loop-root.invariant.number in
    subst (λ n. v < n) (number ∙ sym (ap length c.as_mut_slice-then-not-index.ensures.value ∙ c.loop-root.invariant.leaders_number)) l

pub loop-root-preserved-then-not-index : goal.loop-root-preserved-then-not-index
loop-root-preserved-then-not-index c =
    let arrows = c.args.arrows.now in
    let order = c.in_ok-order.order.items in
    let rest = c.pop.new.self.items in
    let root = c.in-Some.root in
    let marks = c.loop-root.marks.items in
    let leaders = c.loop-root.leaders.items in
    let marks' = c.gather.new.marks in
    let leaders' = c.lead.new.leaders in
    let tree = c.gather.new.tree.items in
    let back = c.in_ok-back.back in
    let p = subst (λ xs. IsLeading arrows order xs marks leaders) c.in-Some.ensures.items c.loop-root.invariant in
    let kept_marks = take_at marks' (drop (length marks') marks) c.loop-root.marks.len (c.gather.auto.marks ∙ c.as_mut_slice.ensures.len) in
    let kept_leaders = take_at leaders' (drop (length leaders') leaders) c.loop-root.leaders.len (c.lead.auto.leaders ∙ c.as_mut_slice-then-not-index.ensures.len) in
    let found : IsTree back root marks marks' tree =
    subst (λ xs. IsTree back root xs marks' tree) c.as_mut_slice.ensures.value c.in_ok-gather.ensures in
    let in_tree = c.as_slice.ensures.value in
    let value = c.as_mut_slice-then-not-index.ensures.value in
    subst (λ xs. IsLeading arrows order rest xs (take c.loop-root.leaders.len (leaders' ++ drop (length leaders') leaders))) (sym kept_marks)
    (subst (λ xs. IsLeading arrows order rest marks' xs) (sym kept_leaders)
    (leading_goes_on arrows order c.in_ok-order.ensures rest root marks leaders p back c.in_ok-back.ensures marks' tree found leaders'
    (c.gather.auto.marks ∙ ap length c.as_mut_slice.ensures.value) (c.lead.auto.leaders ∙ ap length value)
    (λ v k. c.lead.ensures.tree v (subst (λ xs. IsIn v xs) (sym in_tree) k))
    (λ v none. c.lead.ensures.others v (λ h. none (subst (λ xs. IsIn v xs) in_tree h)) ∙ ap (λ xs. get_or xs v 0) value)))

pub loop-root-preserved : goal.loop-root-preserved
loop-root-preserved c =
    let arrows = c.args.arrows.now in
    let order = c.in_ok-order.order.items in
    let marks = c.loop-root.marks.items in
    let leaders = c.loop-root.leaders.items in
    let root = c.in-Some.root in
    let p = subst (λ xs. IsLeading arrows order xs marks leaders) c.in-Some.ensures.items c.loop-root.invariant in
    let l = root_within arrows order c.in_ok-order.ensures c.pop.new.self.items root marks leaders p in
    let inside : root < length marks = subst (λ n. root < n) (sym c.loop-root.invariant.number) l in
    let marked : is_marked marks root ≡ true = sym (get_or_read marks root c.index.result.now inside c.index.ensures _) ∙ c.if-not-index.false in
    leading_skips arrows order c.in_ok-order.ensures c.pop.new.self.items root marks leaders p marked

pub returns : goal.returns
returns c =
    let none = c.in_default.ensures in
    let order = c.loop-root.order.items in
    let empty : order ≡ [] = none.items ∙ append-nil c.pop.new.self.items ∙ none.rest ∙ ap (λ n. take (n - 1) order) none.cases.0 in
    leading_ends c.args.arrows.now c.in_ok-order.order.items c.in_ok-order.ensures c.loop-root.marks.items c.loop-root.leaders.items
    (subst (λ xs. IsLeading c.args.arrows.now c.in_ok-order.order.items xs c.loop-root.marks.items c.loop-root.leaders.items) empty c.loop-root.invariant)
