use Rattle.std.proofs.Common.{rules, ℕ, ℤ, ◌≡◌, ◌<◌, length, List, Option, None, Some, IfSome, sym, ◌∙◌, ap, subst}
use Rattle.std.specs.List.{slice_get}
use Rattle.std.proofs.lemmas.Option.{get_or_from_slice_get}
use Rattle.automation.specs.Levels.{StaysAt}
use Rattle.automation.specs.Ready.{IsHeld}
use Rattle.circular_buffer.proofs.Places.{slice_get-some}
use Rattle.meaning.specs.declared.params.Param.{Param}
use Rattle.meaning.specs.declared.world.World.{World}
use Rattle.meaning.specs.World.{param_id, find_param}
use Rattle.quantum_render.proofs.Automated.{level_stays}
use Rattle.quantum_render.proofs.rest.level.Goals as goal

-- what holds of a value that is there
each_some : {P Q : ℤ → Type 0} (o : Option ℤ) → IfSome o P → ((v : ℤ) → P v → Q v) → IfSome o Q
each_some None is f = tt
each_some (Some v) is f = f v is

pub returns-clause-level : goal.returns-clause-level
returns-clause-level c =
    let w : World = c.args.ahead.now.census.now.world.now in
    let first : ℕ = c.args.ahead.now.census.now.first in
    let until : ℕ = c.args.ahead.now.until in
    let place : ℕ = c.in_ok-place.place in
    let low : place < length c.as_slice.result.now = search rules in
    let found = slice_get-some c.as_slice.result.now place low in
    let here : find_param w.params.items (param_id c.args.node.0 c.args.name) ≡ Some found.0 = sym c.in_ok-place.ensures.item ∙ ap (λ (ps : List Param). slice_get ps place) (sym c.as_slice.ensures) ∙ found.1 in
    each_some c.stays.result (c.stays.ensures first found.0 (subst (λ (ps : List Param). IsHeld ps first c.args.ahead.now.automation.now) (sym c.as_slice.ensures) c.requires.held)) (λ v stays.
    level_stays w (param_id c.args.node.0 c.args.name) found.0 here first until v
    (subst (λ q. StaysAt q first until found.0 v) c.requires.frames (subst (λ (p : Param). StaysAt c.args.ahead.now.automation.now.quantum first until p v) (get_or_from_slice_get c.as_slice.result.now place found.0 found.0 found.1) stays)))
