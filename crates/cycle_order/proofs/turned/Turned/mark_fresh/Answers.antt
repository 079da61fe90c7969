use Rattle.std.proofs.Common.{◌≡◌, ◌<◌, [], None, inl, inr, length, set, true, refl, get_or, sym, ◌∙◌, ap, subst, arith}
use Rattle.std.proofs.lemmas.List.{get_or_read, length-map, length-set}
use Rattle.law_base.specs.Members.{IsIn}
use Rattle.cycle_order.specs.Links.{chain, IsBelow}
use Rattle.cycle_order.specs.Reach.{IsMarking}
use Rattle.cycle_order.proofs.Links.{source_at, chain_none, next_links, next_there, next_less}
use Rattle.cycle_order.proofs.Marking.{marking_none, marking_seen, marking_fresh}
use Rattle.cycle_order.proofs.turned.Turned.mark_fresh.Goals as goal

pub loop-at-init : goal.loop-at-init
loop-at-init c =
    let links = c.self.inside.links.items in
    let firsts = c.self.inside.firsts.items in
    let to = c.args.to in
    let number = length-map firsts (chain links (length links)) in
    let seen = ap length c.self.view_is in
    let asked = c.requires.to in
    let below : to < length firsts = omega arith in
    let first : c.index-at.result.now ≡ get_or firsts to None = get_or_read firsts to c.index-at.result.now below c.index-at.ensures None in
    let whole : chain links (length links) c.index-at.result.now ≡ get_or c.args.self.now to [] =
    ap (chain links (length links)) first ∙ sym (source_at links firsts to) ∙ ap (λ xs. get_or xs to []) c.self.view_is in
    record {
      there = subst (IsBelow (length links)) (sym first) (c.self.invariant.there to);
      within = λ u h. c.requires.within u (subst (λ vs. IsIn u vs) whole h);
      rest = λ marks' found' r. subst (λ vs. IsMarking vs c.args.marks.now c.args.found.now.items marks' found') whole r;
    }

pub bounds-marks-link : goal.bounds-marks-link
bounds-marks-link c =
    let links = c.self.inside.links.items in
    let firsts = c.self.inside.firsts.items in
    let link = c.index-link.result.now in
    let steps = next_links links firsts c.self.invariant c.loop-at.at c.in-Some.key link c.in-Some.is c.loop-at.invariant.there c.index-link.ensures in
    c.loop-at.invariant.within link.from (subst (λ vs. IsIn link.from vs) (sym steps) (inl refl))

pub bounds-marks-link-then-not-marks-link : goal.bounds-marks-link-then-not-marks-link
bounds-marks-link-then-not-marks-link c =
    let links = c.self.inside.links.items in
    let firsts = c.self.inside.firsts.items in
    let link = c.index-link.result.now in
    let steps = next_links links firsts c.self.invariant c.loop-at.at c.in-Some.key link c.in-Some.is c.loop-at.invariant.there c.index-link.ensures in
    c.loop-at.invariant.within link.from (subst (λ vs. IsIn link.from vs) (sym steps) (inl refl))

pub loop-at-smaller-in_ok-push : goal.loop-at-smaller-in_ok-push
loop-at-smaller-in_ok-push c =
    let links = c.self.inside.links.items in
    let firsts = c.self.inside.firsts.items in
    let link = c.index-link.result.now in
    next_less links firsts c.self.invariant c.loop-at.at c.in-Some.key link c.in-Some.is c.loop-at.invariant.there c.index-link.ensures

pub loop-at-smaller : goal.loop-at-smaller
loop-at-smaller c =
    let links = c.self.inside.links.items in
    let firsts = c.self.inside.firsts.items in
    let link = c.index-link.result.now in
    next_less links firsts c.self.invariant c.loop-at.at c.in-Some.key link c.in-Some.is c.loop-at.invariant.there c.index-link.ensures

pub loop-at-preserved-in_ok-push : goal.loop-at-preserved-in_ok-push
loop-at-preserved-in_ok-push c =
    let links = c.self.inside.links.items in
    let firsts = c.self.inside.firsts.items in
    let link = c.index-link.result.now in
    let steps = next_links links firsts c.self.invariant c.loop-at.at c.in-Some.key link c.in-Some.is c.loop-at.invariant.there c.index-link.ensures in
    let marks = c.loop-at.marks in
    let found = c.loop-at.found.items in
    let rest = chain links (length links) link.behind in
    record {
      there = next_there links firsts c.self.invariant c.loop-at.at c.in-Some.key link c.in-Some.is c.loop-at.invariant.there c.index-link.ensures;
      within = λ u h. let k : u < length marks = c.loop-at.invariant.within u (subst (λ vs. IsIn u vs) (sym steps) (inr h)) in subst (λ n. u < n) (sym (length-set marks link.from true)) k;
      rest = λ marks' found' r. c.loop-at.invariant.rest marks' found' (subst (λ vs. IsMarking vs marks found marks' found') (sym steps) (
          marking_fresh link.from rest marks found marks' found' (c.loop-at.invariant.within link.from (subst (λ vs. IsIn link.from vs) (sym steps) (inl refl))) c.if-not-marks-link.true
          (subst (λ p. IsMarking rest (set marks link.from true) p marks' found') c.in_ok-push.ensures.items r)));
    }

pub loop-at-preserved : goal.loop-at-preserved
loop-at-preserved c =
    let links = c.self.inside.links.items in
    let firsts = c.self.inside.firsts.items in
    let link = c.index-link.result.now in
    let steps = next_links links firsts c.self.invariant c.loop-at.at c.in-Some.key link c.in-Some.is c.loop-at.invariant.there c.index-link.ensures in
    let marks = c.loop-at.marks in
    let found = c.loop-at.found.items in
    let rest = chain links (length links) link.behind in
    record {
      there = next_there links firsts c.self.invariant c.loop-at.at c.in-Some.key link c.in-Some.is c.loop-at.invariant.there c.index-link.ensures;
      within = λ u h. let k : u < length marks = c.loop-at.invariant.within u (subst (λ vs. IsIn u vs) (sym steps) (inr h)) in omega arith;
      rest = λ marks' found' r. c.loop-at.invariant.rest marks' found' (subst (λ vs. IsMarking vs marks found marks' found') (sym steps) (
          marking_seen link.from rest marks found marks' found' c.if-not-marks-link.false r));
    }

pub returns : goal.returns
returns c =
    let links = c.self.inside.links.items in
    let marks = c.loop-at.marks in
    let found = c.loop-at.found.items in
    let none = ap (chain links (length links)) c.in_default.is ∙ chain_none links (length links) in
    c.loop-at.invariant.rest marks found (subst (λ vs. IsMarking vs marks found marks found) (sym none) (marking_none marks found))
