use Rattle.std.proofs.Common.{rules, FitsSigned, to_z, of_z, ℕ, ◌≡◌, ◌+◌, ◌-◌, ◌++◌, ◌∷◌, [], ap, ap₂, subst, sym, ◌∙◌, add-one, arith}
use Rattle.std.specs.Int.{w64}
use Rattle.std.proofs.lemmas.Int.{to_z-of_z}
use Rattle.explain.specs.declared.facts.Key.TheVariants.{Hist}
use Rattle.explain.specs.Accounts.{value_in}
use Rattle.derivations.specs.Contexts.{tape_in, StandsIn}
use Rattle.equations.specs.declared.histories.Heard.{Heard}
use Rattle.equations.specs.Given.{meaning_of}
use Rattle.equations.specs.Histories.{result_at, back_from}
use Rattle.equations.proofs.Backs.{back_more}
use Rattle.equations.proofs.histories.results_before.Goals as goal

key_is : (c : goal.After-key) → c.key.result ≡ Hist (c.args.heard.frame - (c.loop-ago.ago + 1)) c.args.heard.node c.args.heard.channel
key_is c = c.key.ensures ∙ ap (λ (h : Heard). Hist h.frame h.node h.channel) c.ago.ensures

pub value_of-requires-clause-known : goal.value_of-requires-clause-known
value_of-requires-clause-known c = subst (StandsIn c.args.context) (sym (key_is c)) (c.requires.each c.loop-ago.ago c.loop-ago-test.true)

pub loop-ago-preserved : goal.loop-ago-preserved
loop-ago-preserved c =
    let ago : ℕ = c.loop-ago.ago in
    let f : ℕ = c.args.heard.frame in
    let at = result_at c.args.context c.args.heard in
    let key : c.key.result ≡ Hist (f - (ago + 1)) c.args.heard.node c.args.heard.channel = c.key.ensures ∙ ap (λ (h : Heard). Hist h.frame h.node h.channel) c.ago.ensures in
    let wide : FitsSigned w64 c.value_of.result = search rules in
    let here : to_z w64 (of_z w64 c.value_of.result) ≡ at (f - (ago + 1)) = to_z-of_z _ _ wide ∙ c.value_of.ensures ∙ ap (value_in c.args.context.quantum (tape_in c.args.context) (meaning_of c.args.context)) key in
    let place : 1 + ago ≡ ago + 1 = omega arith in
    c.in_ok-push.ensures.items
    ∙ ap₂ (λ xs v. xs ++ v ∷ []) c.loop-ago.invariant here
    ∙ sym (ap (back_from at f 1) (add-one ago) ∙ back_more at f 1 ago ∙ ap (λ k. back_from at f 1 ago ++ at (f - k) ∷ []) place)
