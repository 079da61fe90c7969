use Rattle.std.proofs.Common.{ℕ, ◌≡◌, ◌<◌, length, List, ◌++◌, take, suc, get_or, None, pos, false, sym, ◌∙◌, ap, arith}
use Rattle.explain.specs.Texts.{facts_text}
use Rattle.explain.specs.declared.facts.Fact.{Fact}
use Rattle.explain.specs.declared.facts.Key.TheVariants.{Count}
use Rattle.explain_top.specs.Faults.{line_of}
use Rattle.explain_top.proofs.Stacks.{first_bytes, more_text}
use Rattle.explain_top.proofs.derivation.text_of.Goals as goal

-- what stands at no place
abbrev no_fact : Fact
no_fact = record { key = Count 0 (record { node = record { 0 = 0 }; writer = false }) 0; value = pos 0; cells = None }

pub returns-then-len-gt-MAX_BYTES-clause-long : goal.returns-then-len-gt-MAX_BYTES-clause-long
returns-then-len-gt-MAX_BYTES-clause-long c stop =
    let facts = c.args.facts.now in
    let n : ℕ = suc c.loop-fact.fact-index in
    let l : c.loop-fact.fact-index < length facts = c.loop-fact-test.true in
    let t : c.push_line.new.text.items ≡ facts_text (take n facts) =
    c.in_ok-push_line.ensures ∙ ap (λ (bs : List ℕ). bs ++ line_of (get_or facts c.loop-fact.fact-index no_fact)) c.loop-fact.invariant.0 ∙ sym (more_text c.loop-fact.fact-index facts no_fact l) in
    let k2 = ap (λ (bs : List ℕ). length bs) t in
    let k = c.push_line.new.text.ok.0 in
    let m = c.len.ensures in
    let h = c.if-len-gt-MAX_BYTES.true in
    let b = first_bytes n facts in
    omega (arith, k2, k, m, h, b)
