use Rattle.std.proofs.Common.{◌≡◌, true, Err, refl, sym, ◌∙◌, subst, inl}
use Rattle.std.specs.Prelude.{IsErrOf, is_some}
use Rattle.std.proofs.lemmas.Result.{err_from_is_err_and}
use Rattle.wa_base.specs.Contexts.{IsSupported}
use Rattle.session.specs.declared.stop.Stop.{Stop}
use Rattle.session.specs.declared.stop.Stop.TheVariants.{AssetFault}
use Rattle.session.proofs.Fetching.{rose_later}
use Rattle.session.proofs.Replaying.{was_started, decodes_later, played_of, comes_of, both_ok}
use Rattle.session.proofs.replay.replay_calls.Goals as goal

pub returns-in_err-call_list-clause-cause : goal.returns-in_err-call_list-clause-cause
returns-in_err-call_list-clause-cause g c = λ fault.
    let failed = err_from_is_err_and c.from_residual-in_err-call_list.result c.from_residual-in_err-call_list.ensures.1 in
    let here = subst (λ r. IsErrOf r AssetFault) failed.1 fault in
    let cause = c.in_err-call_list.ensures.cause (subst (λ (e : Stop). IsErrOf {T = Unit {0}} (Err e) AssetFault) failed.2 here) in
    (cause.0, ((λ n. g.F.Files.paths c.args.files.now), (λ n told q. refl), inl cause.1))

pub returns-clause-ok : goal.returns-clause-ok
returns-clause-ok g c =
    let tells = g.F.Files.tells c.args.files.now in
    let paths = g.F.Files.paths c.args.files.now in
    let told = c.in_ok-call_list.ensures.told in
    let begun = subst (λ o. is_some o ≡ true) c.started.ensures.started c.if-is_none.ensures in
    both_ok _ _ _ c.go_on.result (λ played started.
    was_started tells paths c.args.calls.now c.args.session.now c.call_list.new.session told.0 told.1 told.2 begun _ c.go_on.new.session
    (played_of _ tells (g.F.Files.tells c.call_list.new.files) paths (g.F.Files.paths c.call_list.new.files) c.args.calls.now c.call_list.new.session c.go_on.new.session c.call_list.ensures.tells c.call_list.ensures.paths played)
    (c.go_on.ensures.spec ∙ c.call_list.ensures.kept.spec) (subst IsSupported (sym c.go_on.ensures.spec) c.started.ensures.supported) started) c.go_on.ensures.ok c.go_on.ensures.started

pub returns-clause-cause : goal.returns-clause-cause
returns-clause-cause g c = λ fault.
    let tells = g.F.Files.tells c.args.files.now in
    let paths = g.F.Files.paths c.args.files.now in
    let told = c.in_ok-call_list.ensures.told in
    let begun = subst (λ o. is_some o ≡ true) c.started.ensures.started c.if-is_none.ensures in
    let cause = c.go_on.ensures.cause fault in (
      rose_later _ _ _ c.call_list.ensures.later cause.0,
      decodes_later tells paths c.args.calls.now c.args.session.now c.call_list.new.session told.0 told.1 told.2 begun c.go_on.new.session
          (comes_of tells (g.F.Files.tells c.call_list.new.files) paths (g.F.Files.paths c.call_list.new.files) c.args.calls.now c.call_list.new.session c.go_on.new.session c.call_list.ensures.tells c.call_list.ensures.paths cause.1),
    )
