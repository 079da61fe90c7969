use Rattle.std.proofs.Common.{List, ◌<◌, length, inl, sym, ◌∙◌, ap, arith, subst}
use Rattle.automation.specs.Levels.{LevelView, HasRoom, level_of}
use Rattle.law_base.proofs.Places.{rewritten}
use Rattle.automation.proofs.Places.{all_ok}
use Rattle.automation.proofs.Stands.{rests_unknown}
use Rattle.automation.proofs.automation.Automation.prepare.Goals as goal

pub returns-clause-ready : goal.returns-clause-ready
returns-clause-ready g c =
    let levels = rewritten _ c.reserve_each.new.levels _ (c.in_ok-reserve_each.ensures.length ∙ c.as_mut_slice.ensures.len) in
    all_ok c.run_each.result c.run_each.ensures.running c.run_each.ensures.all c.run_each.ensures.stands c.run_each.ensures.unknown (λ running all stands unknown. record {
      held = record {
        running = running;
        room = λ p is. subst (λ (xs : List LevelView). (p.id.node.0 < length xs) × HasRoom c.self.inside.quantum (level_of xs p.id.node.0)) (sym levels) (omega (arith, c.requires.there p is, c.in_ok-extend.ensures, c.in_ok-reserve_each.ensures.length, ap length c.as_mut_slice.ensures.value), c.in_ok-reserve_each.ensures.room p is);
        others = λ i d low. inl (all i low);
        rests = λ r is. rests_unknown _ _ _ _ r (omega (arith, c.self.invariant.low)) (unknown r is);
      };
      stands = stands;
    })
