use Rattle.std.proofs.Common.{◌≡◌, Option, sym, subst, ◌∙◌}
use Rattle.std.proofs.lemmas.Result.{IfOk-weaker}
use Rattle.std.specs.Prelude.{IfOk}
use Rattle.io_edge.specs.Paths.{Paths}
use Rattle.io_edge.specs.declared.files.Fetched.{Fetched}
use Rattle.script_ast.specs.declared.operations.Op.{Op}
use Rattle.script_ast.specs.declared.operations.Op.TheVariants as op
use Rattle.control_side.specs.Assets.{IsAssetOf, decodes}
use Rattle.control_side.specs.Steady.{IsSteady}
use Rattle.control_side.specs.Step.{IsFor, decided_with}
use Rattle.control_side.proofs.Deciding.{decided_for}
use Rattle.control_side.proofs.Finding.{fit_for, looks_away, same_found}
use Rattle.control_side.proofs.control.Control.decide_with.Goals as goal

pub returns-in-Some-clause-decided : goal.returns-in-Some-clause-decided
returns-in-Some-clause-decided c =
    let machine = c.args.self.now in
    let path = c.in-DecodeAudioData.path in
    let within = rw (c.in-DecodeAudioData.is, c.in-Some.is) at c.requires.asset in
    subst (λ (o : Op). IfOk c.decode.result (λ d. (held : Paths) → IsAssetOf held o c.args.asset → d ≡ decided_with machine held o)) (sym c.in-DecodeAudioData.is)
    (subst (λ (a : Option Fetched). IfOk c.decode.result (λ d. (held : Paths) → IsAssetOf held (op.DecodeAudioData c.in-DecodeAudioData.name path) a → d ≡ decodes machine (held path))) (sym c.in-Some.is)
    (IfOk-weaker c.decode.result _ _ (λ d is held found. is ∙ same_found machine (held path) c.in-Some.asset within found) c.decode.ensures.decided))

pub returns-in-Some-clause-fits : goal.returns-in-Some-clause-fits
returns-in-Some-clause-fits c =
    let steady = subst IsSteady c.self.view_is c.self.invariant.0 in
    subst (λ (o : Op). IfOk c.decode.result (IsFor c.args.self.now o)) (sym c.in-DecodeAudioData.is)
    (IfOk-weaker c.decode.result _ _ (λ d fit. fit_for c.args.self.now c.in-DecodeAudioData.name c.in-DecodeAudioData.path d steady fit) c.decode.ensures.fits)

pub returns-in_default-clause-decided : goal.returns-in_default-clause-decided
returns-in_default-clause-decided c =
    IfOk-weaker c.decide.result _ _ (λ d is held found. is ∙ sym (looks_away c.args.self.now held c.args.op.now c.in_default.not-DecodeAudioData)) c.decide.ensures

pub returns-in_default-clause-fits : goal.returns-in_default-clause-fits
returns-in_default-clause-fits c =
    let steady = subst IsSteady c.self.view_is c.self.invariant.0 in
    IfOk-weaker c.decide.result _ _ (λ d is. subst (IsFor c.args.self.now c.args.op.now) (sym is) (decided_for c.args.self.now steady c.args.op.now c.requires.in_range)) c.decide.ensures
