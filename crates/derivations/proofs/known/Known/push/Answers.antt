use Rattle.std.proofs.Common.{ℕ, ◌≡◌, ◌++◌, ◌∷◌, [], List, length, Some, sym, ◌∙◌, ap, ap₂, subst, arith, cond}
use Rattle.std.specs.HashMap.{get}
use Rattle.explain.specs.declared.facts.Fact.{Fact}
use Rattle.derivations.specs.declared.known.Name.{Name}
use Rattle.derivations.specs.Places.{same_name, ArePlaces}
use Rattle.derivations.proofs.Placing.{ArePlaces-more}
use Rattle.derivations.proofs.known.Known.push.Goals as goal

pub invariant_of-self-2 : goal.invariant_of-self-2
invariant_of-self-2 c =
    let facts : List Fact = c.self.inside.facts.items in
    let all : c.push_reserved.new.self.items ≡ facts ++ c.args.fact ∷ [] = c.push_reserved.ensures.items ∙ ap (λ xs. xs ++ c.args.fact ∷ []) c.in_ok-reserve.ensures.items in
    let number : c.len-place.result ≡ length facts = c.len-place.ensures ∙ (let n = c.reserve.new.self.ok.0 in omega (arith, n)) ∙ ap length c.in_ok-reserve.ensures.items in
    subst (λ (xs : List Fact). ArePlaces xs c.insert.new.self) (sym all)
    (ArePlaces-more facts c.self.inside.places c.insert.new.self c.args.fact c.self.invariant
    (λ name. c.in_ok-insert.ensures.updates.0 name
    ∙ ap₂ (λ (key : Name) (n : ℕ). cond (same_name key name) (Some n) (get same_name c.self.inside.places name)) c.name_of.ensures number))
