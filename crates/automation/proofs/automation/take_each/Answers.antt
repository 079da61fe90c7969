use Rattle.std.proofs.Common.{rules, ap₂, ℕ, ◌≡◌, ◌≤◌, ◌<◌, ◌+◌, ◌++◌, ◌∷◌, [], List, length, map, take, drop, slice_index_or, inl, inr, refl, ap, sym, ◌∙◌, arith, subst}
use Rattle.std.proofs.lemmas.List.{get_or-set_other, length-map, map_push, take_more_set}
use Rattle.std.proofs.lemmas.List.Sums.{sum_by_more, sum_by-take-le}
use Rattle.std.specs.List.{sum_by}
use Rattle.law_base.specs.Members.{IsIn}
use Rattle.law_base.proofs.Members.{IsIn-append, IsIn-append_first, IsIn-append_second}
use Rattle.meaning.specs.declared.params.Param.{Param}
use Rattle.automation.specs.Levels.{HasRoom, IsLevelOf, level_of}
use Rattle.automation.specs.Ready.{Rests, RiseWithin, RunningView, looks_at, param_of}
use Rattle.automation.proofs.Places.{place_of, in_list}
use Rattle.automation.proofs.Running.{also_left, cost_at, cost_running, first_left, front_apart, front_low, left_apart, left_low, next_is, next_low, rise_done, rise_on, rise_past}
use Rattle.automation.proofs.Taken.{IsTaken, moves_on, none_ahead, rests_on, room_kept, stays}
use Rattle.automation.proofs.automation.take_each.Goals as goal
use Rattle.automation.proofs.automation.take_each.Goals.{then-take, else-take}

pub loop-k-init : goal.loop-k-init
loop-k-init g c = record {
  few = omega arith;
  ahead = λ j r low. refl;
  rise = c.requires.ready.held.running;
  room = c.requires.ready.held.room;
  rests = c.requires.ready.held.rests;
  taken = λ i d low. elim (c.requires.ready.held.others i d low) [
    | inl runs ↦ inl runs
    | inr keeps ↦ inr (inr keeps)
  ];
  cost = search rules;
}

pub take-requires-clause-param : goal.take-requires-clause-param
take-requires-clause-param g c =
    let r : RunningView = c.index-running-k.result in
    next_low c.args.running.now c.loop-k.running c.loop-k.k r c.loop-k-test.true c.index-running-k.is (c.loop-k.invariant.ahead c.loop-k.k r (omega arith)) r.param refl (length c.args.params.now) c.requires.ready.held.running

pub take-requires-clause-stands : goal.take-requires-clause-stands
take-requires-clause-stands g c =
    let k = c.loop-k.k in
    let r : RunningView = c.index-running-k.result in
    let was = c.index-running-k.is ∙ c.loop-k.invariant.ahead k r (omega arith) in
    c.requires.ready.stands r (subst (λ (x : RunningView). IsIn x c.args.running.now) (sym was) (in_list c.args.running.now k r c.loop-k-test.true))

pub take-requires-clause-rests : goal.take-requires-clause-rests
take-requires-clause-rests g c =
    let k = c.loop-k.k in
    let old = c.args.running.now in
    let r : RunningView = c.index-running-k.result in
    let was = c.index-running-k.is ∙ c.loop-k.invariant.ahead k r (omega arith) in
    c.loop-k.invariant.rests r (IsIn-append_second (take c.loop-k.moving c.loop-k.running) (drop k old) r (subst (λ (x : RunningView). IsIn x (drop k old)) (sym was) (first_left old k r c.loop-k-test.true)))

pub loop-k-preserved : goal.loop-k-preserved
loop-k-preserved g c =
    let k = c.loop-k.k in
    let inv = c.loop-k.invariant in
    let q = c.args.frames in
    let first = c.args.first in
    let params = c.args.params.now in
    let count = length params in
    let old = c.args.running.now in
    let all : List ℕ = map param_of old in
    let running = c.loop-k.running in
    let moving = c.loop-k.moving in
    let front : List RunningView = take moving running in
    let left : List RunningView = drop (k + 1) old in
    let r : RunningView = c.index-running-k.result in
    let i : ℕ = r.param in
    let y : RunningView = c.take.new.self in
    let levels = c.loop-k.levels in
    let new = c.take.new.levels in
    let takes = c.take.ensures.level in
    let order = c.requires.nodes.1.order in
    let was = inv.ahead k r (omega arith) in
    let place : (d : ℕ) → slice_index_or all k d ≡ i = next_is old running k r c.loop-k-test.true c.index-running-k.is was i refl in
    let below : k < length all = omega (arith, c.loop-k-test.true, length-map old param_of) in
    let low : i < count = next_low old running k r c.loop-k-test.true c.index-running-k.is was i refl count c.requires.ready.held.running in
    let new_room : (x : Param) → IsIn x params → (x.id.node.0 < length new) × HasRoom q (level_of new x.id.node.0) = λ x is.
    let own = inv.room x is in
    (omega (arith, own.0, c.take.ensures.length), room_kept q first params order levels new all k i below place low takes x own.1) in
    let front_rests : (x : RunningView) → IsIn x front → Rests q params first new x = λ x is.
    rests_on q first params order levels new all k i below place low takes x (front_low count front old k i below (place 0) inv.rise x is) (front_apart count front old k i below (place 0) inv.rise x is)
    (inv.rests x (IsIn-append_first front (drop k old) x is)) in
    let left_rests : (x : RunningView) → IsIn x left → Rests q params first new x = λ x is.
    rests_on q first params order levels new all k i below place low takes x (left_low count front old k i below (place 0) inv.rise x is) (left_apart count front old k i below (place 0) inv.rise x is)
    (inv.rests x (IsIn-append_second front (drop k old) x (also_left old k x c.loop-k-test.true is))) in
    let new_cost : c.take.new.steps ≤ c.args.steps.now + sum_by (cost_at (looks_at q first) params) (take (k + 1) all) =
    let more = sum_by_more (cost_at (looks_at q first) params) all k 0 below in
    let own = ap (cost_at (looks_at q first) params) (place 0) in
    let cost = c.take.ensures.cost in
    omega (arith, cost, more, own, inv.cost) in
    elim c.if-take.branch [
      | then-take w ↦
          let within : moving < length running = omega (arith, inv.few, c.loop-k-test.true, c.loop-k.auto.running) in
          let runs : take c.if-take.moving c.if-take.running ≡ front ++ y ∷ [] = ap₂ (λ m (rs : List RunningView). take m rs) w.moving-is w.running-is ∙ take_more_set running moving y within in
          let places : map param_of (take c.if-take.moving c.if-take.running) ≡ map param_of front ++ i ∷ [] =
          ap (map param_of) runs ∙ map_push param_of front y ∙ ap (λ n. map param_of front ++ n ∷ []) c.take.ensures.param in
          record {
            few = omega (arith, w.moving-is, inv.few);
            ahead = λ j x later.
                ap (λ (rs : List RunningView). slice_index_or rs j x) w.running-is
                ∙ get_or-set_other running moving j y x (λ e. let same : j ≡ moving = e in omega (arith, later, same, inv.few)) ∙ inv.ahead j x (omega (arith, later));
            rise = subst (λ (ns : List ℕ). RiseWithin 0 count (ns ++ drop (k + 1) all)) (sym places) (rise_on count k (map param_of front) all i below (place 0) inv.rise);
            room = new_room;
            rests = λ x is. elim (IsIn-append (take c.if-take.moving c.if-take.running) left x is) [
              | inl done ↦ elim (IsIn-append front (y ∷ []) x (subst (λ (rs : List RunningView). IsIn x rs) runs done)) [
                | inl before ↦ front_rests x before
                | inr own ↦ elim own [
                  | inl same ↦ subst (Rests q params first new) (sym same) c.take.ensures.rests
                  | inr none ↦ absurd none
                ]
              ]
              | inr later ↦ left_rests x later
            ];
            taken = λ j d under. subst (λ (ns : List ℕ). IsTaken q params first new all (k + 1) ns j d) (sym places)
                (moves_on q first params order levels new all k i below place low takes (map param_of front) j d under (inv.taken j d under));
            cost = new_cost;
          }
      | else-take w ↦
          let runs : take c.if-take.moving c.if-take.running ≡ front = ap₂ (λ m (rs : List RunningView). take m rs) w.moving-is w.running-is in
          let places : map param_of (take c.if-take.moving c.if-take.running) ≡ map param_of front = ap (map param_of) runs in
          record {
            few = omega (arith, w.moving-is, inv.few);
            ahead = λ j x later. ap (λ (rs : List RunningView). slice_index_or rs j x) w.running-is ∙ inv.ahead j x (omega (arith, later));
            rise = subst (λ (ns : List ℕ). RiseWithin 0 count (ns ++ drop (k + 1) all)) (sym places) (rise_past count k (map param_of front) all below inv.rise);
            room = new_room;
            rests = λ x is. elim (IsIn-append (take c.if-take.moving c.if-take.running) left x is) [
              | inl done ↦ front_rests x (subst (λ (rs : List RunningView). IsIn x rs) runs done)
              | inr later ↦ left_rests x later
            ];
            taken = λ j d under. subst (λ (ns : List ℕ). IsTaken q params first new all (k + 1) ns j d) (sym places)
                (stays q first params order levels new all k i below place low takes (map param_of front) (c.take.ensures.keeps w.if-take.false) j d under (inv.taken j d under));
            cost = new_cost;
          }
    ]

pub returns-clause-levels : goal.returns-clause-levels
returns-clause-levels g c p is =
    let params = c.args.params.now in
    let found = place_of params p is in
    let past : length (map param_of c.args.running.now) ≤ c.loop-k.k = omega (arith, c.loop-k-test.false, length-map c.args.running.now param_of) in
    subst (λ (x : Param). IsLevelOf c.args.frames x c.args.first (level_of c.loop-k.levels x.id.node.0)) (found.2 p) (elim (c.loop-k.invariant.taken found.0 p found.1) [
      | inl ahead ↦ absurd (none_ahead (map param_of c.args.running.now) c.loop-k.k found.0 past ahead)
      | inr (inl own) ↦ own.1
      | inr (inr keeps) ↦ keeps c.args.first (omega arith)
    ])

pub returns-clause-held : goal.returns-clause-held
returns-clause-held g c =
    let params = c.args.params.now in
    let inv = c.loop-k.invariant in
    let all : List ℕ = map param_of c.args.running.now in
    let past : length all ≤ c.loop-k.k = omega (arith, c.loop-k-test.false, length-map c.args.running.now param_of) in
    record {
      running = rise_done (length params) c.loop-k.k (map param_of (take c.loop-k.moving c.loop-k.running)) all past inv.rise;
      room = inv.room;
      others = λ i d low. elim (inv.taken i d low) [
        | inl ahead ↦ absurd (none_ahead all c.loop-k.k i past ahead)
        | inr (inl own) ↦ inl own.0
        | inr (inr keeps) ↦ inr keeps
      ];
      rests = λ r is. inv.rests r (IsIn-append_first (take c.loop-k.moving c.loop-k.running) _ r is);
    }

pub returns-clause-cost : goal.returns-clause-cost
returns-clause-cost g c =
    let places = map param_of c.args.running.now in
    let f = looks_at c.args.frames c.args.first in
    let some = sum_by-take-le (cost_at f c.args.params.now) places c.loop-k.k in
    let all = cost_running f c.args.params.now places c.requires.ready.held.running in
    omega (arith, some, all, c.loop-k.invariant.cost)
