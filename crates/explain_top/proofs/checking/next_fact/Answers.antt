use Rattle.std.proofs.Common.{◌≡◌, ◌+◌, Bool, true, false, sym, ◌∙◌, ap}
use Rattle.derivations.specs.Contexts.{tape_in}
use Rattle.explain.specs.Accounts.{meant}
use Rattle.explain.specs.declared.facts.Fact.{Fact}
use Rattle.explain_top.proofs.Cuts.{begins_with, lacks_need, all_known, has_needs, next_is, same_parts, held}
use Rattle.explain_top.proofs.checking.next_fact.Goals as goal

pub returns-in-Some-next_missing-clause-fault : goal.returns-in-Some-next_missing-clause-fault
returns-in-Some-next_missing-clause-fault c =
    let q = c.args.context.quantum in
    let tape = tape_in c.args.context in
    let known = c.args.context.known.now in
    let hold = held q c.requires.ready.some tape c.requires.ready.regular known c.requires.ready.checked in
    let first = c.in-Some.ensures.some in (
      ap (λ n. n + 1) c.len.ensures,
      (
        c.in-Some.fact,
        begins_with q tape known c.args.rest.now c.in-Some.fact c.in-Some.more.now first c.new-search.result.key c.new-search.ensures.key,
        lacks_need q tape known c.args.rest.now c.in-Some.fact c.in-Some.more.now first c.new-search.result.key c.new-search.ensures.key hold c.in-Some-next_missing.field-0 c.in-Some-next_missing.ensures.some,
      ),
    )

pub fact_of-requires-clause-needed : goal.fact_of-requires-clause-needed
fact_of-requires-clause-needed c =
    all_known c.args.context.quantum (tape_in c.args.context) c.args.context.known.now c.args.rest.now c.in-Some.fact c.in-Some.more.now c.in-Some.ensures.some c.new-search.result.key c.new-search.ensures.key
    c.in_default-next_missing.ensures.none

pub returns-then-is_same-clause-next : goal.returns-then-is_same-clause-next
returns-then-is_same-clause-next c =
    let q = c.args.context.quantum in
    let tape = tape_in c.args.context in
    let known = c.args.context.known.now in
    let hold = held q c.requires.ready.some tape c.requires.ready.regular known c.requires.ready.checked in
    next_is q tape known c.args.rest.now c.in-Some.fact c.in-Some.more.now c.in-Some.ensures.some c.new-search.result.key c.new-search.ensures.key hold c.in_default-next_missing.ensures.none
    (let given = c.in_ok-derived.ensures (meant q tape) hold in let told = c.is_same.ensures.0 c.if-is_same.true in given ∙ same_parts c.in_ok-derived.derived c.in-Some.fact (ap (λ (y : Fact). y.key) (sym given)) told.0 told.1)

never : (b : Bool) → b ≡ false → b ≡ true → ⊥
never b e f = absurd cc

pub returns-else-is_same-clause-fault : goal.returns-else-is_same-clause-fault
returns-else-is_same-clause-fault c =
    let q = c.args.context.quantum in
    let tape = tape_in c.args.context in
    let known = c.args.context.known.now in
    let hold = held q c.requires.ready.some tape c.requires.ready.regular known c.requires.ready.checked in (
      ap (λ n. n + 1) c.len.ensures,
      (
        c.in-Some.fact,
        begins_with q tape known c.args.rest.now c.in-Some.fact c.in-Some.more.now c.in-Some.ensures.some c.new-search.result.key c.new-search.ensures.key,
        has_needs q tape known c.args.rest.now c.in-Some.fact c.in-Some.more.now c.in-Some.ensures.some c.new-search.result.key c.new-search.ensures.key hold c.in_default-next_missing.ensures.none,
        (λ same. (let e = sym (c.in_ok-derived.ensures (meant q tape) hold) ∙ same in never _ c.if-is_same.false (c.is_same.ensures.1 (ap (λ (y : Fact). y.value) e, ap (λ (y : Fact). y.cells) e)))),
      ),
    )
