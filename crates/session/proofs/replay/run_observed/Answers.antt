use Rattle.std.proofs.Common.{◌≡◌, true, false, None, refl, rules, subst}
use Rattle.wa_base.specs.Contexts.{is_supported}
use Rattle.wa_base.specs.declared.exceptions.Exc.TheVariants.{NotSupported}
use Rattle.session.specs.Folders.{Folder}
use Rattle.session.proofs.Replaying.{refused_outcome, refused_shown, refused_tape, replayed_outcome, replayed_shown, replayed_tape, not_off}
use Rattle.session.specs.View.{IsReplayed}
use Rattle.session.specs.Observing.{Saw}
use Rattle.session.proofs.replay.run_observed.Goals as goal

pub returns-in-Err-Exc-clause-outcome : goal.returns-in-Err-Exc-clause-outcome
returns-in-Err-Exc-clause-outcome g c =
    let exception : c.in-Err-Exc.exception ≡ NotSupported None = search rules in
    let no : is_supported c.args.script.now.context ≡ false = search rules in
    let folder : Folder = λ n. g.F.Files.paths c.args.files.now in
    (folder, (λ n told q. refl), refused_outcome folder c.args.script.now c.args.options.audio _ no c.new-in-Err-Exc.ensures (rw exception refl) refl refl, refused_shown folder c.args.script.now (g.O.Observer.saw c.args.observer.now) no c.requires.unseen, refused_tape folder c.args.script.now no)

pub returns-in-Ok-replay_calls-clause-outcome : goal.returns-in-Ok-replay_calls-clause-outcome
returns-in-Ok-replay_calls-clause-outcome g c =
    let is = subst (λ calls. IsReplayed (Saw (g.O.Observer.saw c.replay_calls.new.observer)) (g.F.Files.tells c.args.files.now) (g.F.Files.paths c.args.files.now) calls c.in-Ok.session c.replay_calls.new.session) c.as_slice.ensures c.in-Ok-replay_calls.ensures.ok in
    let fresh = c.in-Ok.ensures.ok in
    let supported : is_supported c.args.script.now.context ≡ true = not_off (is_supported c.args.script.now.context) (λ off. let wrong = c.in-Ok.ensures.refused.1 off in absurd cc) in (
      is.folder,
      is.of,
      replayed_outcome (g.F.Files.tells c.args.files.now) (g.F.Files.paths c.args.files.now) c.args.script.now c.args.options.audio c.in-Ok.session c.replay_calls.new.session c.finish.result _ is supported fresh c.replay_calls.ensures.audio
          c.finish.ensures.lines c.finish.ensures.end c.finish.ensures.quanta c.finish.ensures.rendered,
      replayed_shown (g.F.Files.tells c.args.files.now) (g.F.Files.paths c.args.files.now) c.args.script.now c.args.options.audio c.in-Ok.session c.replay_calls.new.session _ is supported fresh,
      replayed_tape (g.F.Files.tells c.args.files.now) (g.F.Files.paths c.args.files.now) c.args.script.now c.args.options.audio c.in-Ok.session c.replay_calls.new.session _ is supported fresh c.finish.ensures.state c.finish.ensures.short,
    )
