use Rattle.std.proofs.Common.{◌≡◌, ◌≤◌, ◌-◌, List, length, IsSome, drop}
use Rattle.std.specs.Prelude.{IsTrue}
use Rattle.io_edge.specs.Paths.{SamePaths}
use Rattle.script_ast.specs.WellFormed.{AreCallsAfter}
use Rattle.session.specs.Folders.{Folder, IsFolderOf, AgreeBetween}
use Rattle.session.specs.Session.{after_calls, held_by}
use Rattle.control_side.specs.Step.{KeepsTime, RunsOnceStarted}
use Rattle.session.specs.View.{Stands}
use Rattle.meaning.specs.declared.world.World.{World}
use Rattle.session.proofs.replay.call_list.Given as goal

abbrev pub invariant-loop-left : goal.invariant-loop-left
invariant-loop-left g l = ((folder : Folder) × IsFolderOf (g.F.Files.tells l.fn.files) (g.F.Files.paths l.fn.files) folder
    × ((other : Folder) → AgreeBetween (length l.fn.session.told.lines) (length l.session.told.lines) folder other
    → after_calls other l.session.told (held_by l.holder (drop l.place l.calls)) ≡ after_calls other l.fn.session.told (held_by l.fn.holder l.fn.calls)))
    × AreCallsAfter l.place (drop l.place l.calls)
    × (l.session.audio ≡ l.fn.session.audio)
    × KeepsTime l.fn.session.told.machine l.session.told.machine
    × (length l.fn.session.told.lines ≤ length l.session.told.lines)
    × (g.F.Files.tells l.files ≡ g.F.Files.tells l.fn.files)
    × (IsTrue (g.F.Files.tells l.fn.files) → SamePaths (g.F.Files.paths l.fn.files) (g.F.Files.paths l.files))
    × (g.F.Files.read_faults l.fn.files ≤ g.F.Files.read_faults l.files)
    × (g.F.Files.write_faults l.files ≡ g.F.Files.write_faults l.fn.files)
    × (IsSome l.fn.session.told.machine.context.started → IsSome l.session.told.machine.context.started)
    × ((tape : List World) → Stands l.fn.session tape → Stands l.session tape)
    × (RunsOnceStarted l.fn.session.told.machine → RunsOnceStarted l.session.told.machine)
    × (l.left ≡ length (held_by l.holder (drop l.place l.calls)))

abbrev pub decreases-loop-left : goal.decreases-loop-left
decreases-loop-left g l = length l.calls - l.place
