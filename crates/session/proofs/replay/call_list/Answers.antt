use Rattle.std.proofs.Common.{◌+◌, ◌∷◌, length, drop, Err, refl, sym, ◌∙◌, ap, subst, arith}
use Rattle.std.specs.Prelude.{IsTrue, IsErrOf}
use Rattle.std.proofs.lemmas.Result.{err_from_is_err_and}
use Rattle.script_ast.specs.WellFormed.{AreCallsAfter}
use Rattle.script_ast.specs.declared.call_list.Call.{Call}
use Rattle.session.specs.declared.stop.Stop.{Stop}
use Rattle.session.specs.declared.stop.Stop.TheVariants.{AssetFault}
use Rattle.session.specs.Session.{after_calls, held_by}
use Rattle.control_side.specs.Step.{is_decode}
use Rattle.session.proofs.Fetching.{rose_later}
use Rattle.session.proofs.Folders.{Found, found_more, more_lines, decode_at}
use Rattle.session.proofs.Lists.{after_some, none_early, next_call, one_less}
use Rattle.session.proofs.replay.call_list.Goals as goal

pub loop-left-init : goal.loop-left-init
loop-left-init g c =
    let early = none_early 0 c.args.holder c.args.holder c.args.calls.now c.requires.calls (omega arith) in (
      ((λ n. g.F.Files.paths c.args.files.now), (λ n told q. refl), (λ other agree. ap (after_calls other c.args.session.now.told) early)),
      after_some 0 c.args.holder c.args.holder c.args.calls.now (omega arith) c.requires.calls,
      refl,
      record { spec = refl; now = refl },
      omega arith,
      refl,
      (λ told q. refl),
      omega arith,
      refl,
      (λ started. started),
      (λ tape stands. stands),
      (λ runs. runs),
      c.length_of-left.ensures ∙ c.requires.lengths c.args.holder ∙ sym (ap length early),
    )

pub loop-left-preserved-in-Continue-1 : goal.loop-left-preserved-in-Continue-1
loop-left-preserved-in-Continue-1 g c =
    let inv = c.loop-left.invariant in
    let call = c.index-calls-place.result in
    let rest = drop (c.loop-left.place + 1) c.args.calls.now in
    let next = next_call c.args.calls.now c.loop-left.place c.args.holder c.loop-left.left call inv.12 c.loop-left-test.true c.index-calls-place.is in
    let calls = subst (AreCallsAfter c.loop-left.place) next.1 inv.1 in
    let told = c.in_ok-call.ensures.told in
    let earlier : Found (g.F.Files.tells c.args.files.now) (g.F.Files.paths c.args.files.now) (length c.args.session.now.told.lines) (length c.loop-left.session.told.lines)
    (λ folder. after_calls folder c.loop-left.session.told (held_by c.args.holder (call ∷ rest))) (λ folder. after_calls folder c.args.session.now.told (held_by c.args.holder c.args.calls.now)) =
    subst (λ calls. Found (g.F.Files.tells c.args.files.now) (g.F.Files.paths c.args.files.now) (length c.args.session.now.told.lines) (length c.loop-left.session.told.lines)
    (λ folder. after_calls folder c.loop-left.session.told (held_by c.args.holder calls)) (λ folder. after_calls folder c.args.session.now.told (held_by c.args.holder c.args.calls.now))) next.1 inv.0 in
    let less = one_less c.args.holder call rest c.if-call-holder.true in
    let count = inv.12 ∙ ap (λ calls. length (held_by c.args.holder calls)) next.1 in (
      found_more (g.F.Files.tells c.args.files.now) (g.F.Files.paths c.args.files.now) told.0 (length c.args.session.now.told.lines) c.loop-left.session.told c.call.new.self.told call rest c.args.holder
          (λ folder. after_calls folder c.args.session.now.told (held_by c.args.holder c.args.calls.now)) inv.4 c.if-call-holder.true (λ tells q. told.1 (subst IsTrue (sym inv.5) tells) q ∙ inv.6 tells q) told.2 earlier,
      calls.1,
      c.call.ensures.audio ∙ inv.2,
      record { spec = c.call.ensures.kept.spec ∙ inv.3.spec; now = c.call.ensures.kept.now ∙ inv.3.now },
      omega (arith, inv.4, more_lines c.loop-left.session.told c.call.new.self.told told.0 call told.2),
      c.call.ensures.tells ∙ inv.5,
      (λ tells q. c.call.ensures.paths (subst IsTrue (sym inv.5) tells) q ∙ inv.6 tells q),
      omega (arith, inv.7, c.call.ensures.later),
      c.call.ensures.writes ∙ inv.8,
      (λ started. c.call.ensures.started (inv.9 started)),
      (λ tape stands. c.call.ensures.stands tape (inv.10 tape stands)),
      (λ runs. c.call.ensures.runs (inv.11 runs)),
      omega (arith, less, count),
    )

pub returns-in_err-call-clause-cause : goal.returns-in_err-call-clause-cause
returns-in_err-call-clause-cause g c = λ fault.
    let inv = c.loop-left.invariant in
    let next = next_call c.args.calls.now c.loop-left.place c.args.holder c.loop-left.left c.index-calls-place.result inv.12 c.loop-left-test.true c.index-calls-place.is in
    let failed = err_from_is_err_and c.from_residual.result c.from_residual.ensures.1 in
    let here = subst (λ r. IsErrOf r AssetFault) failed.1 fault in
    let cause = c.in_err-call.ensures.cause (subst (λ (e : Stop). IsErrOf {T = Unit {0}} (Err e) AssetFault) failed.2 here) in (
      rose_later _ _ _ inv.7 cause.0,
      decode_at c.args.calls.now c.args.holder c.loop-left.place c.index-calls-place.result next.0
          (ap (λ (call : Call). call.holder) (sym c.index-calls-place.is) ∙ c.if-call-holder.true) (ap (λ (call : Call). is_decode call.op) (sym c.index-calls-place.is) ∙ cause.1),
    )
