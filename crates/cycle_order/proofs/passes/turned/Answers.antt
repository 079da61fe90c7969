use Rattle.std.proofs.Common.{◌<◌, [], inl, inr, get_or, sym, ◌∙◌, arith, subst}
use Rattle.std.proofs.lemmas.Bool.{cases_eq}
use Rattle.law_base.specs.Members.{IsIn}
use Rattle.cycle_order.proofs.Searching.{is_led_to, leads_to, source_within}
use Rattle.cycle_order.proofs.passes.turned.Goals as goal

pub turn-requires : goal.turn-requires
turn-requires c v h =
    let arrows = c.args.arrows.now in
    let u = c.loop-vertex.vertex in
    let below = c.requires u v (leads_to arrows u v (subst (λ xs. IsIn v xs) c.part.ensures h)) in
    subst (λ n. v < n) (sym c.loop-vertex.invariant.number) below

pub loop-vertex-preserved : goal.loop-vertex-preserved
loop-vertex-preserved c =
    let arrows = c.args.arrows.now in
    let u = c.loop-vertex.vertex in
    let targets = c.part.ensures in
    record {
      number = c.in_ok-turn.ensures.number ∙ c.loop-vertex.invariant.number;
      turned = λ b a. (
        (λ h. elim ((c.in_ok-turn.ensures.arrows b a).0 h) [
          | inl k ↦ let old = (c.loop-vertex.invariant.turned b a).0 k in (let l = old.0 in omega arith, old.1)
          | inr k ↦ (let e = k.0 in omega arith, leads_to arrows a b (subst (λ x. IsIn b (get_or arrows x [])) (sym k.0) (subst (λ xs. IsIn b xs) targets k.1)))
        ]),
        (λ h. (c.in_ok-turn.ensures.arrows b a).1 (elim (cases_eq a u) [
          | inl e ↦ inr (e, subst (λ xs. IsIn b xs) (sym targets) (subst (λ x. IsIn b (get_or arrows x [])) e (is_led_to arrows a b h.1)))
          | inr ne ↦ inl ((c.loop-vertex.invariant.turned b a).1 (let l = h.0 in omega arith, h.1))
        ])),
      );
    }

pub returns : goal.returns
returns c =
    let arrows = c.args.arrows.now in
    let number = c.len-vertex-end.ensures in
    let past = c.loop-vertex-test.false in
    record {
      number = c.loop-vertex.invariant.number;
      forth = λ a b h. leads_to c.loop-vertex.back b a ((c.loop-vertex.invariant.turned b a).1 (let l = source_within arrows a b h in omega arith, h));
      home = λ a b h. ((c.loop-vertex.invariant.turned b a).0 (is_led_to c.loop-vertex.back b a h)).1;
    }
