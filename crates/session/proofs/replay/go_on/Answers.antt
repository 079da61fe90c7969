use Rattle.std.proofs.Common.{◌==◌, Err, map, refl, sym, ap, ◌∙◌, subst, arith}
use Rattle.std.specs.Prelude.{IsTrue, IsErrOf}
use Rattle.wa_base.specs.Contexts.{IsSupported}
use Rattle.meaning.specs.World.{sounding}
use Rattle.std.proofs.lemmas.Bool.{eqb-true}
use Rattle.std.proofs.lemmas.Result.{IfOk-weaker, err_from_is_err_and}
use Rattle.session.specs.declared.stop.Stop.{Stop}
use Rattle.session.specs.declared.stop.Stop.TheVariants.{AssetFault}
use Rattle.session.specs.Session.{held_by, is_running}
use Rattle.session.specs.Observing.{Saw}
use Rattle.control_side.specs.Turns.{IsTurned}
use Rattle.session.proofs.Fetching.{rose_later}
use Rattle.session.proofs.Going.{shown_more, begun_next, at_start, lists_of, goes_on, was_started, ends_closed, ends_stalled, is_resumed, decodes_due, decodes_done}
use Rattle.session.proofs.Showing.{comes_next}
use Rattle.session.proofs.replay.go_on.Goals as goal

pub loop-session-init : goal.loop-session-init
loop-session-init g c = (
  at_start _ (g.F.Files.tells c.args.files.now) (g.F.Files.paths c.args.files.now) c.args.calls.now c.args.session.now c.requires.running c.requires.started c.requires.fresh c.requires.unseen,
  refl,
  (λ told q. refl),
  omega arith,
  refl,
)

pub loop-session-preserved-in-Went : goal.loop-session-preserved-in-Went
loop-session-preserved-in-Went g c =
    let inv = c.loop-session.invariant in
    let turn = c.in_ok-advance.ensures in
    let saw = g.O.Observer.saw in
    let before = Saw (saw c.loop-session.observer) in
    let after = Saw (saw c.show.new.self) in
    let shows = shown_more (saw c.loop-session.observer) (saw c.show.new.self) c.world.result.now c.loop-session.session.told.machine.world c.world.ensures c.in_ok-show.ensures in
    let went = sym turn.turn ∙ c.in-Went.is in
    let turned = subst (λ t. IsTurned t c.loop-session.session.told.machine c.advance.new.self.told.machine) c.in-Went.is turn.state in (
      goes_on before after c.loop-session.again (g.F.Files.tells c.args.files.now) (g.F.Files.paths c.args.files.now) c.args.calls.now c.args.session.now c.loop-session.session c.advance.new.self inv.0
          (record { told = turn.told; left = turn.left; time = turn.time; size = turn.size; audio = turn.audio; stands = turn.stands }) shows (c.line_count.result == c.line_count-told.result) (λ same. sym c.line_count.ensures ∙ eqb-true _ _ same ∙ c.line_count-told.ensures) c.requires.supported went turned,
      inv.1,
      inv.2,
      inv.3,
      inv.4,
    )

-- ---- a suspension is due

pub returns-in_err-call_list-in-Due-clause-cause : goal.returns-in_err-call_list-in-Due-clause-cause
returns-in_err-call_list-in-Due-clause-cause g c = λ fault.
    let inv = c.loop-session.invariant in
    let turn = c.in_ok-advance.ensures in
    let saw = g.O.Observer.saw in
    let before = Saw (saw c.loop-session.observer) in
    let after = Saw (saw c.show.new.self) in
    let shows = shown_more (saw c.loop-session.observer) (saw c.show.new.self) c.world.result.now c.loop-session.session.told.machine.world c.world.ensures c.in_ok-show.ensures in
    let due = sym turn.turn ∙ c.in-Due.is in
    let turned = subst (λ t. IsTurned t c.loop-session.session.told.machine c.advance.new.self.told.machine) c.in-Due.is turn.state in
    let failed = err_from_is_err_and c.from_residual-in_err-call_list-in-Due.result c.from_residual-in_err-call_list-in-Due.ensures.1 in
    let here = subst (λ r. IsErrOf r AssetFault) failed.1 fault in
    let cause = c.in_err-call_list-in-Due.ensures.cause (subst (λ (e : Stop). IsErrOf {T = Unit {0}} (Err e) AssetFault) failed.2 here) in (
      rose_later _ _ _ inv.3 cause.0,
      decodes_due before after c.loop-session.again (g.F.Files.tells c.args.files.now) (g.F.Files.paths c.args.files.now) c.args.calls.now c.args.session.now c.loop-session.session c.advance.new.self inv.0
          (record { told = turn.told; left = turn.left; time = turn.time; size = turn.size; audio = turn.audio; stands = turn.stands }) shows c.in-Due.ordinal c.call_list.new.session c.in_err-call_list-in-Due.ensures.longer cause.1 due turned,
    )

pub returns-then-not-is_running-clause-ok : goal.returns-then-not-is_running-clause-ok
returns-then-not-is_running-clause-ok g c =
    let inv = c.loop-session.invariant in
    let turn = c.in_ok-advance.ensures in
    let saw = g.O.Observer.saw in
    let before = Saw (saw c.loop-session.observer) in
    let after = Saw (saw c.show.new.self) in
    let shows = shown_more (saw c.loop-session.observer) (saw c.show.new.self) c.world.result.now c.loop-session.session.told.machine.world c.world.ensures c.in_ok-show.ensures in
    let found = c.in_ok-call_list-in-Due.ensures.told in
    let due = sym turn.turn ∙ c.in-Due.is in
    let turned = subst (λ t. IsTurned t c.loop-session.session.told.machine c.advance.new.self.told.machine) c.in-Due.is turn.state in
    let list = lists_of (g.F.Files.tells c.args.files.now) (g.F.Files.tells c.loop-session.files) (g.F.Files.paths c.args.files.now) (g.F.Files.paths c.loop-session.files) (held_by c.in-Due.ordinal c.args.calls.now) c.advance.new.self c.call_list.new.session inv.1 inv.2
    found.0 found.1 found.2 c.call_list.ensures.longer c.call_list.ensures.audio c.call_list.ensures.kept c.call_list.ensures.started c.call_list.ensures.stands in
    let waits = ap is_running (sym c.state.ensures) ∙ sym c.is_running.ensures ∙ c.if-not-is_running.true in
    ends_stalled before after c.loop-session.again (g.F.Files.tells c.args.files.now) (g.F.Files.paths c.args.files.now) c.args.calls.now c.args.session.now c.loop-session.session c.advance.new.self inv.0
    (record { told = turn.told; left = turn.left; time = turn.time; size = turn.size; audio = turn.audio; stands = turn.stands }) shows c.in-Due.ordinal c.call_list.new.session list due turned waits

pub returns-then-not-is_running-clause-started : goal.returns-then-not-is_running-clause-started
returns-then-not-is_running-clause-started g c =
    let inv = c.loop-session.invariant in
    let turn = c.in_ok-advance.ensures in
    let saw = g.O.Observer.saw in
    let before = Saw (saw c.loop-session.observer) in
    let after = Saw (saw c.show.new.self) in
    let shows = shown_more (saw c.loop-session.observer) (saw c.show.new.self) c.world.result.now c.loop-session.session.told.machine.world c.world.ensures c.in_ok-show.ensures in
    let found = c.in_ok-call_list-in-Due.ensures.told in
    let due = sym turn.turn ∙ c.in-Due.is in
    let turned = subst (λ t. IsTurned t c.loop-session.session.told.machine c.advance.new.self.told.machine) c.in-Due.is turn.state in
    let list = lists_of (g.F.Files.tells c.args.files.now) (g.F.Files.tells c.loop-session.files) (g.F.Files.paths c.args.files.now) (g.F.Files.paths c.loop-session.files) (held_by c.in-Due.ordinal c.args.calls.now) c.advance.new.self c.call_list.new.session inv.1 inv.2
    found.0 found.1 found.2 c.call_list.ensures.longer c.call_list.ensures.audio c.call_list.ensures.kept c.call_list.ensures.started c.call_list.ensures.stands in
    was_started before after c.loop-session.again (g.F.Files.tells c.args.files.now) (g.F.Files.paths c.args.files.now) c.args.calls.now c.args.session.now c.loop-session.session c.advance.new.self inv.0
    (record { told = turn.told; left = turn.left; time = turn.time; size = turn.size; audio = turn.audio; stands = turn.stands }) shows c.in-Due.ordinal c.call_list.new.session list

pub loop-session-preserved : goal.loop-session-preserved
loop-session-preserved g c =
    let inv = c.loop-session.invariant in
    let turn = c.in_ok-advance.ensures in
    let saw = g.O.Observer.saw in
    let before = Saw (saw c.loop-session.observer) in
    let after = Saw (saw c.show.new.self) in
    let shows = shown_more (saw c.loop-session.observer) (saw c.show.new.self) c.world.result.now c.loop-session.session.told.machine.world c.world.ensures c.in_ok-show.ensures in
    let found = c.in_ok-call_list-in-Due.ensures.told in
    let due = sym turn.turn ∙ c.in-Due.is in
    let turned = subst (λ t. IsTurned t c.loop-session.session.told.machine c.advance.new.self.told.machine) c.in-Due.is turn.state in
    let list = lists_of (g.F.Files.tells c.args.files.now) (g.F.Files.tells c.loop-session.files) (g.F.Files.paths c.args.files.now) (g.F.Files.paths c.loop-session.files) (held_by c.in-Due.ordinal c.args.calls.now) c.advance.new.self c.call_list.new.session inv.1 inv.2
    found.0 found.1 found.2 c.call_list.ensures.longer c.call_list.ensures.audio c.call_list.ensures.kept c.call_list.ensures.started c.call_list.ensures.stands in
    let runs = ap is_running (sym c.state.ensures) ∙ sym c.is_running.ensures ∙ c.if-not-is_running.false in (
      is_resumed before after c.loop-session.again (g.F.Files.tells c.args.files.now) (g.F.Files.paths c.args.files.now) c.args.calls.now c.args.session.now c.loop-session.session c.advance.new.self inv.0
          (record { told = turn.told; left = turn.left; time = turn.time; size = turn.size; audio = turn.audio; stands = turn.stands }) shows c.in-Due.ordinal c.call_list.new.session list due turned c.requires.supported runs,
      c.call_list.ensures.tells ∙ inv.1,
      (λ told q. c.call_list.ensures.paths (subst IsTrue (sym inv.1) told) q ∙ inv.2 told q),
      omega (arith, inv.3, c.call_list.ensures.later),
      c.call_list.ensures.writes ∙ inv.4,
    )

-- ---- the length is reached

pub returns-in-Done-clause-ok : goal.returns-in-Done-clause-ok
returns-in-Done-clause-ok g c =
    let inv = c.loop-session.invariant in
    let turn = c.in_ok-advance.ensures in
    let saw = g.O.Observer.saw in
    let before = Saw (saw c.loop-session.observer) in
    let after = Saw (saw c.show.new.self) in
    let shows = shown_more (saw c.loop-session.observer) (saw c.show.new.self) c.world.result.now c.loop-session.session.told.machine.world c.world.ensures c.in_ok-show.ensures in
    let done = sym turn.turn ∙ c.in-Done.is in
    let turned = subst (λ t. IsTurned t c.loop-session.session.told.machine c.advance.new.self.told.machine) c.in-Done.is turn.state in
    IfOk-weaker c.call_list-in-Done.result _ _ (λ v found.
    let list = lists_of (g.F.Files.tells c.args.files.now) (g.F.Files.tells c.loop-session.files) (g.F.Files.paths c.args.files.now) (g.F.Files.paths c.loop-session.files) (held_by c.in-Done.ordinal c.args.calls.now) c.advance.new.self c.call_list-in-Done.new.session inv.1 inv.2
    found.0 found.1 found.2 c.call_list-in-Done.ensures.longer c.call_list-in-Done.ensures.audio c.call_list-in-Done.ensures.kept c.call_list-in-Done.ensures.started c.call_list-in-Done.ensures.stands in
    ends_closed before after c.loop-session.again (g.F.Files.tells c.args.files.now) (g.F.Files.paths c.args.files.now) c.args.calls.now c.args.session.now c.loop-session.session c.advance.new.self inv.0
    (record { told = turn.told; left = turn.left; time = turn.time; size = turn.size; audio = turn.audio; stands = turn.stands }) shows c.in-Done.ordinal c.call_list-in-Done.new.session list done turned) c.call_list-in-Done.ensures.told

pub returns-in-Done-clause-started : goal.returns-in-Done-clause-started
returns-in-Done-clause-started g c =
    let inv = c.loop-session.invariant in
    let turn = c.in_ok-advance.ensures in
    let saw = g.O.Observer.saw in
    let before = Saw (saw c.loop-session.observer) in
    let after = Saw (saw c.show.new.self) in
    let shows = shown_more (saw c.loop-session.observer) (saw c.show.new.self) c.world.result.now c.loop-session.session.told.machine.world c.world.ensures c.in_ok-show.ensures in
    IfOk-weaker c.call_list-in-Done.result _ _ (λ v found. c.call_list-in-Done.ensures.started (begun_next before after c.loop-session.again (g.F.Files.tells c.args.files.now) (g.F.Files.paths c.args.files.now) c.args.calls.now c.args.session.now c.loop-session.session c.advance.new.self inv.0
    (record { told = turn.told; left = turn.left; time = turn.time; size = turn.size; audio = turn.audio; stands = turn.stands }) shows)) c.call_list-in-Done.ensures.told

pub returns-in-Done-clause-cause : goal.returns-in-Done-clause-cause
returns-in-Done-clause-cause g c = λ fault.
    let inv = c.loop-session.invariant in
    let turn = c.in_ok-advance.ensures in
    let saw = g.O.Observer.saw in
    let before = Saw (saw c.loop-session.observer) in
    let after = Saw (saw c.show.new.self) in
    let shows = shown_more (saw c.loop-session.observer) (saw c.show.new.self) c.world.result.now c.loop-session.session.told.machine.world c.world.ensures c.in_ok-show.ensures in
    let done = sym turn.turn ∙ c.in-Done.is in
    let turned = subst (λ t. IsTurned t c.loop-session.session.told.machine c.advance.new.self.told.machine) c.in-Done.is turn.state in
    let cause = c.call_list-in-Done.ensures.cause fault in (
      rose_later _ _ _ inv.3 cause.0,
      decodes_done before after c.loop-session.again (g.F.Files.tells c.args.files.now) (g.F.Files.paths c.args.files.now) c.args.calls.now c.args.session.now c.loop-session.session c.advance.new.self inv.0
          (record { told = turn.told; left = turn.left; time = turn.time; size = turn.size; audio = turn.audio; stands = turn.stands }) shows c.in-Done.ordinal c.call_list-in-Done.new.session c.call_list-in-Done.ensures.longer cause.1 done turned,
    )

-- ---- what is shown

pub show-requires : goal.show-requires
show-requires g c =
    let inv = c.loop-session.invariant in
    let way = inv.0 in
    (map sounding way.tape, way.seen, comes_next c.loop-session.again c.loop-session.session way.tape c.world.result.now way.stands (subst IsSupported (sym way.spec) c.requires.supported) way.short c.world.ensures way.last)
