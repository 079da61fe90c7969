use Rattle.std.proofs.Common.{◌≡◌, List, sym, subst, arith}
use Rattle.law_base.specs.Members.{IsIn}
use Rattle.explain.specs.declared.facts.Fact.{Fact}
use Rattle.explain.specs.Checked.{Stands}
use Rattle.derivations.proofs.Placing.{found_low, found_item, none_stands}
use Rattle.derivations.proofs.known.Known.find.Goals as goal

pub index-requires : goal.index-requires
index-requires c =
    let low = found_low c.self.inside.facts.items c.self.inside.places c.self.invariant c.name_of.result c.in_ok-place.field-0.now (sym c.in_ok-place.ensures.value) in
    omega (arith, low, c.self.inside.facts.ok.0)

pub returns-clause-found : goal.returns-clause-found
returns-clause-found c =
    let there = sym (c.in_ok-place.ensures.value) in
    subst (λ (facts : List Fact). IsIn c.index.result.now facts × (c.index.result.now.key ≡ c.args.key)) c.self.view_is
    (found_item c.self.inside.facts.items c.self.inside.places c.self.invariant c.args.key c.in_ok-place.field-0.now (rw c.name_of.ensures at there) c.index.result.now c.index.ensures)

pub returns-in_err-place-clause-none : goal.returns-in_err-place-clause-none
returns-in_err-place-clause-none c =
    let none = sym (c.in_err-place.ensures.value) in
    rw c.from_residual.ensures
    (subst (λ (facts : List Fact). Stands c.args.key facts → ⊥) c.self.view_is
    (none_stands c.self.inside.facts.items c.self.inside.places c.self.invariant c.args.key (rw c.name_of.ensures at none)))
