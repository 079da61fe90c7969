use Rattle.std.proofs.Common.{rules, ℕ, ◌||◌, ◌+◌, drop, get_or, sym, ◌∙◌, ap}
use Rattle.std.specs.Prelude.{◌==◌}
use Rattle.std.specs.List.{list_any}
use Rattle.std.proofs.lemmas.Bool.{eq-eqb, ne_eqb}
use Rattle.std.proofs.lemmas.List.{drop_more}
use Rattle.cycle_order.proofs.Lists.{IsIn-drop, IsIn-drop_more}
use Rattle.cycle_order.proofs.reaching.is_led.Goals as goal

pub bounds-leaders-v : goal.bounds-leaders-v
bounds-leaders-v c = c.loop-v.invariant.within _ (IsIn-drop c.args.targets.now c.loop-v.v-index 0 c.loop-v-test.true)

pub offset_bounds-leaders-v : goal.offset_bounds-leaders-v
offset_bounds-leaders-v c = let l = c.loop-v.invariant.within _ (IsIn-drop c.args.targets.now c.loop-v.v-index 0 c.loop-v-test.true) in search rules

pub loop-v-preserved : goal.loop-v-preserved
loop-v-preserved c =
    let vs = c.args.targets.now in
    let i : ℕ = c.loop-v.v-index in
    let leaders = c.args.leaders.now in
    record {
      within = λ u h. c.loop-v.invariant.within u (IsIn-drop_more vs i u c.loop-v-test.true h);
      rest =
          ap (λ b. b || list_any (λ u. get_or leaders u 0 == c.args.leader) (drop (i + 1) vs)) (sym (ne_eqb (get_or leaders (get_or vs i 0) 0) c.args.leader c.if-leaders-v.false))
          ∙ ap (list_any (λ u. get_or leaders u 0 == c.args.leader)) (sym (drop_more vs i 0 c.loop-v-test.true))
          ∙ c.loop-v.invariant.rest;
    }

pub returns-then-leaders-v : goal.returns-then-leaders-v
returns-then-leaders-v c =
    let vs = c.args.targets.now in
    let i : ℕ = c.loop-v.v-index in
    let leaders = c.args.leaders.now in
    ap (λ b. b || list_any (λ u. get_or leaders u 0 == c.args.leader) (drop (i + 1) vs)) (sym (eq-eqb (get_or leaders (get_or vs i 0) 0) c.args.leader c.if-leaders-v.true))
    ∙ ap (list_any (λ u. get_or leaders u 0 == c.args.leader)) (sym (drop_more vs i 0 c.loop-v-test.true))
    ∙ c.loop-v.invariant.rest
