use Rattle.std.proofs.Common.{◌≡◌, ◌≤◌, ◌-◌}
use Rattle.std.specs.Prelude.{IsTrue}
use Rattle.io_edge.specs.Paths.{SamePaths}
use Rattle.session.specs.Observing.{Saw}
use Rattle.session.proofs.Going.{IsOnItsWay}
use Rattle.session.proofs.replay.go_on.Given as goal

abbrev pub invariant-loop-session : goal.invariant-loop-session
invariant-loop-session g l = IsOnItsWay (Saw (g.O.Observer.saw l.observer)) l.again (g.F.Files.tells l.fn.files) (g.F.Files.paths l.fn.files) l.calls l.fn.session l.session
    × (g.F.Files.tells l.files ≡ g.F.Files.tells l.fn.files)
    × (IsTrue (g.F.Files.tells l.fn.files) → SamePaths (g.F.Files.paths l.fn.files) (g.F.Files.paths l.files))
    × (g.F.Files.read_faults l.fn.files ≤ g.F.Files.read_faults l.files)
    × (g.F.Files.write_faults l.files ≡ g.F.Files.write_faults l.fn.files)

abbrev pub decreases-loop-session : goal.decreases-loop-session
decreases-loop-session g l = l.session.told.machine.world.spec.length - l.session.told.machine.context.time
