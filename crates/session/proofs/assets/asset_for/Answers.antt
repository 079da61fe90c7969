use Rattle.std.proofs.Common.{List, ℕ, Some, refl, sym, subst, inl, inr}
use Rattle.std.proofs.lemmas.Bool.{cases_Bool}
use Rattle.io_edge.specs.Fetch.{IsFetchedOf}
use Rattle.io_edge.specs.Paths.{Paths}
use Rattle.script_ast.specs.declared.operations.Op.{Op}
use Rattle.control_side.specs.Assets.{IsAssetOf, found_of}
use Rattle.session.proofs.Fetching.{found_is, needs_none, no_asset_held}
use Rattle.session.proofs.assets.asset_for.Goals as goal

pub returns-in_default-clause-asset : goal.returns-in_default-clause-asset
returns-in_default-clause-asset g c = needs_none c.args.op.now c.in_default.not-DecodeAudioData

pub returns-in_default-clause-held : goal.returns-in_default-clause-held
returns-in_default-clause-held g c =
    let held = g.F.Files.paths c.args.files.now in
    (held, (λ told q. refl), no_asset_held held c.args.op.now c.in_default.not-DecodeAudioData)

pub returns-in-Ok-clause-held : goal.returns-in-Ok-clause-held
returns-in-Ok-clause-held g c =
    let asset = c.in-Ok.asset in
    let path = c.in-DecodeAudioData.path in
    let of_op = λ (held : Paths) (found : IsFetchedOf (held path) asset). subst (λ (o : Op). IsAssetOf held o (Some asset)) (sym c.in-DecodeAudioData.is) found in
    elim (cases_Bool (g.F.Files.tells c.args.files.now)) [
      | inl told ↦
          let held = g.F.Files.paths c.args.files.now in
          (held, (λ _ q. refl), of_op held (subst (λ (p : List ℕ). IsFetchedOf (held p) asset) c.as_str.ensures (c.in-Ok.ensures.found told)))
      | inr untold ↦ ((λ q. found_of asset), (λ told q. absurd (let wrong = told in cc)), of_op (λ q. found_of asset) (found_is asset))
    ]
