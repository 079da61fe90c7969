use Rattle.std.proofs.Common.{◌≡◌, ◌+◌, ◌<◌, length, List, [], ◌∷◌, ◌++◌, sym, ◌∙◌, ap, subst, arith}
use Rattle.derivations.specs.Tapes.{worlds}
use Rattle.derivations.specs.Searches.{IsMissing, AreKnown}
use Rattle.derivations.specs.declared.needs.Search.{Search}
use Rattle.explain.specs.Accounts.{derived}
use Rattle.explain.specs.Needs.{needs}
use Rattle.explain.specs.declared.facts.Key.{Key}
use Rattle.explain.specs.declared.facts.Fact.{Fact}
use Rattle.explain_top.specs.Stacks.{IsDeriving}
use Rattle.explain_top.proofs.Stacks.{popped_searched, deriving_on, deriving_too_many, deriving_more}
use Rattle.explain_top.proofs.derivation.facts_for.Goals as goal

pub next_missing-requires-clause-searched : goal.next_missing-requires-clause-searched
next_missing-requires-clause-searched c =
    popped_searched c.args.quantum c.requires.some (worlds c.args.tape.now) c.requires.regular c.args.key c.loop-walk.known c.loop-walk.walks.items c.pop.new.self.items c.in-Some.walk c.in-Some.ensures.items c.loop-walk.invariant

pub returns-then-len-gt-MAX_FACTS-clause-long : goal.returns-then-len-gt-MAX_FACTS-clause-long
returns-then-len-gt-MAX_FACTS-clause-long c stop =
    let q = c.args.quantum in
    let tape = worlds c.args.tape.now in
    let known = c.loop-walk.known in
    let next : Search = c.new-in-Some-next_missing.result in
    let pushed : c.push-in-Some-next_missing-2.new.self.items ≡ (c.pop.new.self.items ++ c.next_missing.new.self ∷ []) ++ next ∷ [] =
    c.in_ok-push-in-Some-next_missing-2.ensures.items ∙ ap (λ (ws : List Search). ws ++ next ∷ []) c.in_ok-push-in-Some-next_missing.ensures.items in
    let l = ap (λ (ws : List Search). length ws) pushed in
    let n = c.push-in-Some-next_missing-2.new.self.ok.0 in
    let a = c.len.ensures in
    let b = c.len-in-Some-next_missing.ensures in
    let many : 1048576 < c.len.result + c.len-in-Some-next_missing.result = c.if-len-gt-MAX_FACTS.true in
    deriving_too_many q c.requires.some tape c.requires.regular c.args.key known c.loop-walk.walks.items c.pop.new.self.items c.in-Some.walk c.in-Some.ensures.items c.loop-walk.invariant
    c.next_missing.new.self next c.in-Some-next_missing.ensures.same c.in-Some-next_missing.ensures.searched (c.new-in-Some-next_missing.ensures.searched q tape known)
    (subst (λ (k : Key). IsMissing q tape known (λ a. needs q tape a c.in-Some.walk.key) k) (sym c.new-in-Some-next_missing.ensures.key) c.in-Some-next_missing.ensures.some)
    (omega (arith, l, n, a, b, many))

pub loop-walk-preserved-else-len-gt-MAX_FACTS : goal.loop-walk-preserved-else-len-gt-MAX_FACTS
loop-walk-preserved-else-len-gt-MAX_FACTS c =
    let q = c.args.quantum in
    let tape = worlds c.args.tape.now in
    let known = c.loop-walk.known in
    let next : Search = c.new-in-Some-next_missing.result in
    let pushed : c.push-in-Some-next_missing-2.new.self.items ≡ (c.pop.new.self.items ++ c.next_missing.new.self ∷ []) ++ next ∷ [] =
    c.in_ok-push-in-Some-next_missing-2.ensures.items ∙ ap (λ (ws : List Search). ws ++ next ∷ []) c.in_ok-push-in-Some-next_missing.ensures.items in
    let l = ap (λ (ws : List Search). length ws) pushed in
    let n = c.push-in-Some-next_missing-2.new.self.ok.0 in
    let a = c.len.ensures in
    let b = c.len-in-Some-next_missing.ensures in
    let few = c.if-len-gt-MAX_FACTS.false in
    subst (λ (ws : List Search). IsDeriving q tape c.args.key known ws) (sym pushed)
    (deriving_on q c.requires.some tape c.requires.regular c.args.key known c.loop-walk.walks.items c.pop.new.self.items c.in-Some.walk c.in-Some.ensures.items c.loop-walk.invariant
    c.next_missing.new.self next c.in-Some-next_missing.ensures.same c.in-Some-next_missing.ensures.searched (c.new-in-Some-next_missing.ensures.searched q tape known)
    (subst (λ (k : Key). IsMissing q tape known (λ a. needs q tape a c.in-Some.walk.key) k) (sym c.new-in-Some-next_missing.ensures.key) c.in-Some-next_missing.ensures.some)
    (omega (arith, l, n, a, b, few)))

pub fact_of-requires-clause-needed : goal.fact_of-requires-clause-needed
fact_of-requires-clause-needed c =
    let q = c.args.quantum in
    let tape = worlds c.args.tape.now in
    subst (λ (k : Key). AreKnown q tape c.loop-walk.known (λ a. needs q tape a k)) (sym c.in-None.ensures.same) c.in-None.ensures.none

pub loop-walk-preserved : goal.loop-walk-preserved
loop-walk-preserved c =
    let q = c.args.quantum in
    let tape = worlds c.args.tape.now in
    let known = c.loop-walk.known in
    subst (λ (facts : List Fact). IsDeriving q tape c.args.key facts c.pop.new.self.items) (sym c.in_ok-push-in-None.ensures.ok)
    (deriving_more q c.requires.some tape c.requires.regular c.args.key known c.loop-walk.walks.items c.pop.new.self.items c.in-Some.walk c.in-Some.ensures.items c.loop-walk.invariant
    c.in_ok-fact-in-None.fact
    (λ a hold. subst (λ (k : Key). derived q tape a k ≡ c.in_ok-fact-in-None.fact) c.in-None.ensures.same (c.in_ok-fact-in-None.ensures a hold))
    c.in-None.ensures.none)
