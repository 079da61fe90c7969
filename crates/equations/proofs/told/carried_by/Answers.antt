use Rattle.std.proofs.Common.{FitsSigned, ℕ, ◌<◌, ◌≢◌, ◌≡◌, ◌/◌, length, sym, ◌∙◌, ap, subst, rules, arith, get_or-set_other, get_or-set_same, below_more}
use Rattle.std.specs.Int.{w64}
use Rattle.std.proofs.lemmas.Int.{to_z-of_z}
use Rattle.std.proofs.lemmas.List.{length-set}
use Rattle.explain.specs.declared.facts.Key.TheVariants.{Count}
use Rattle.derivations.specs.Contexts.{StandsIn}
use Rattle.equations.specs.Given.{meaning_of}
use Rattle.equations.proofs.Saying.{counted, sampled}
use Rattle.equations.proofs.told.carried_by.Goals as goal

pub count_of-count-requires-clause-known : goal.count_of-count-requires-clause-known
count_of-count-requires-clause-known c =
    let quantum : c.args.frame / c.from.result ≡ c.args.frame / c.args.context.quantum = ap (λ n. c.args.frame / n) c.from.ensures in
    subst (λ j. StandsIn c.args.context (Count j c.args.end c.args.output)) (sym quantum) (counted c.args.context c.requires.given c.args.frame c.args.end c.args.output c.requires.known)

pub value_of-requires-clause-known : goal.value_of-requires-clause-known
value_of-requires-clause-known c =
    let quantum : c.args.frame / c.from.result ≡ c.args.frame / c.args.context.quantum = ap (λ n. c.args.frame / n) c.from.ensures in
    let many : c.count_of-count.result ≡ (meaning_of c.args.context).counts (c.args.frame / c.args.context.quantum) c.args.end =
    c.count_of-count.ensures.value ∙ ap (λ j. (meaning_of c.args.context).counts j c.args.end) quantum in
    sampled c.args.context c.requires.given c.args.frame c.args.end c.args.output c.loop-channel.channel c.requires.known (subst (λ k. c.loop-channel.channel < k) many c.loop-channel-test.true)

pub loop-channel-preserved : goal.loop-channel-preserved
loop-channel-preserved c =
    let here : ℕ = c.loop-channel.channel in
    let fits : FitsSigned w64 c.value_of.result = search rules in
    let value = to_z-of_z _ _ fits ∙ c.value_of.ensures in
    let few = c.count_of-count.ensures.few in
    let long = c.loop-channel.invariant.long in
    record {
      long = length-set c.loop-channel.samples here _ ∙ long;
      each = below_more _ _
          (λ k h. let ne : k ≢ here = omega arith in rw get_or-set_other (c.loop-channel.invariant.each k h))
          (let lt : here < length c.loop-channel.samples = omega arith in rw get_or-set_same value);
    }
