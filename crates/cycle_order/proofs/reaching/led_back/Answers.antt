use Rattle.std.proofs.Common.{◌≡◌, ◌<◌, ◌++◌, ◌∷◌, [], length, map, get_or, sym, ◌∙◌, ap, subst, arith}
use Rattle.std.specs.Prelude.{◌==◌}
use Rattle.std.specs.List.{list_any, range_with_len}
use Rattle.std.proofs.lemmas.List.{get_or_read}
use Rattle.std.proofs.lemmas.List.FromFn.{map-range_with_len_more}
use Rattle.law_base.specs.Members.{IsIn}
use Rattle.cycle_order.specs.Reach.{reaches_itself}
use Rattle.cycle_order.proofs.Leading.{led_round}
use Rattle.cycle_order.proofs.Searching.{leads_to}
use Rattle.cycle_order.proofs.reaching.led_back.Goals as goal

pub is_led-requires : goal.is_led-requires
is_led-requires c v h =
    let arrows = c.args.arrows.now in
    let u = c.loop-v.v in
    let targets = c.part.ensures in
    let below = c.requires u v (leads_to arrows u v (subst (λ xs. IsIn v xs) targets h)) in
    subst (λ n. v < n) (sym (ap length c.as_slice.ensures.value ∙ c.in_ok-leaders.ensures.number)) below

pub loop-v-preserved : goal.loop-v-preserved
loop-v-preserved c =
    let v = c.loop-v.v in
    let arrows = c.args.arrows.now in
    let leaders = c.in_ok-leaders.leaders.items in
    let targets = c.part.ensures in
    let below : v < length arrows = subst (λ n. v < n) c.len-v-end.ensures c.loop-v-test.true in
    let inside : v < length leaders = subst (λ n. v < n) (sym c.in_ok-leaders.ensures.number) below in
    let own : c.index-own.result.now ≡ get_or leaders v 0 = get_or_read leaders v c.index-own.result.now inside c.index-own.ensures 0 in
    let mark : c.is_led.result ≡ reaches_itself arrows v =
    c.is_led.ensures
    ∙ ap (λ xs. list_any (λ u. get_or xs u 0 == c.index-own.result.now) c.part.result.now) c.as_slice.ensures.value
    ∙ ap (λ k. list_any (λ u. get_or leaders u 0 == k) c.part.result.now) own
    ∙ ap (list_any (λ u. get_or leaders u 0 == get_or leaders v 0)) targets
    ∙ led_round arrows leaders c.requires c.in_ok-leaders.ensures v below in
    c.in_ok-push.ensures.items ∙ ap (λ ms. ms ++ c.is_led.result ∷ []) c.loop-v.invariant ∙ ap (λ m. map (reaches_itself arrows) (range_with_len 0 v) ++ m ∷ []) mark
    ∙ sym (map-range_with_len_more (reaches_itself arrows) 0 v v (omega arith))
