use Rattle.std.proofs.Common.{rules, ℕ, ◌≡◌, ◌+◌, ◌-◌, ◌++◌, ◌∷◌, [], FitsSigned, to_z, of_z, ap, ap₂, subst, sym, ◌∙◌, add-one, arith}
use Rattle.std.specs.Int.{w32, w64}
use Rattle.std.proofs.lemmas.Int.{to_z-of_z}
use Rattle.equations.specs.declared.histories.Heard.{Heard}
use Rattle.equations.specs.Histories.{taken_at, back_from, IsHeard}
use Rattle.equations.proofs.Backs.{back_more}
use Rattle.equations.proofs.histories.frames_taken.Goals as goal

pub taken-requires-clause-heard : goal.taken-requires-clause-heard
taken-requires-clause-heard c = subst (IsHeard c.args.context) (sym c.ago.ensures) (c.requires.each c.loop-ago.ago c.loop-ago-test.true)

pub loop-ago-preserved : goal.loop-ago-preserved
loop-ago-preserved c =
    let ago : ℕ = c.loop-ago.ago in
    let f : ℕ = c.args.heard.frame in
    let at = taken_at c.args.context c.args.heard in
    let fits : FitsSigned w32 c.taken.result = search rules in
    let wide : FitsSigned w64 c.from.result = search rules in
    let here : to_z w64 (of_z w64 c.from.result) ≡ at (f - ago) = to_z-of_z _ _ wide ∙ c.from.ensures ∙ to_z-of_z _ _ fits ∙ c.taken.ensures ∙ ap (λ (h : Heard). taken_at c.args.context h h.frame) c.ago.ensures in
    let place : 0 + ago ≡ ago = omega arith in
    c.in_ok-push.ensures.items
    ∙ ap₂ (λ xs v. xs ++ v ∷ []) c.loop-ago.invariant here
    ∙ sym (ap (back_from at f 0) (add-one ago) ∙ back_more at f 0 ago ∙ ap (λ k. back_from at f 0 ago ++ at (f - k) ∷ []) place)
