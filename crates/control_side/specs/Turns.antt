-- What a render quantum does to the machine, where no slot is set yet.
use Rattle.std.specs.Prelude.{ℕ, ◌≡◌, ◌≤◌, ◌<◌, List, [], ◌∷◌, if◌then◌else◌, unwrap_or, Some}
use Rattle.wa_base.specs.declared.contexts.State.TheVariants.{Running}
use Rattle.ctx_state.specs.Context.{next, after_turn}
use Rattle.ctx_state.specs.declared.context.Turn.{Turn}
use Rattle.ctx_state.specs.declared.context.Turn.TheVariants.{Went, Due, Done}
use Rattle.control_msgs.specs.Messages.{ends_by, ended_marked}
use Rattle.transcript.specs.declared.lines.Line.{Line}
use Rattle.transcript.specs.declared.lines.Line.TheVariants as line
use Rattle.name_book.specs.Book.{first_name_of}
use Rattle.meaning.specs.declared.scheds.Play.{Play}
use Rattle.control_side.specs.Machine.{Machine}

-- a line for each source that ends, in the order of the schedules, which is that of the node numbers, with the name under which the node was created
abbrev pub ended_lines : List (ℕ × List ℕ) → ℕ → List Play → List Line
ended_lines names now [] = []
ended_lines names now (play ∷ plays) =
    if ends_by now play.sched
    then line.Ended play.id (unwrap_or (first_name_of names play.id.0) []) ∷ ended_lines names now plays
    else ended_lines names now plays

-- the machine after a turn but for the slots, which are left to be set: the time moved on, and the sources that ended are marked
abbrev pub gone_on : Machine → Machine
gone_on machine = record machine {
  context = after_turn machine.context;
  world = ended_marked (next machine.context) machine.world;
}

-- After a turn that is not the last one there are frames left; where rendering goes on the context is running. The last one has the ordinal of the startRendering.
abbrev pub IsTurned : Turn → Machine → Machine → Type 0
IsTurned Went old new = (new.context.state ≡ Running) × (new.context.time < new.world.spec.length)
IsTurned (Due ordinal) old new = new.context.time < new.world.spec.length
IsTurned (Done ordinal) old new = (old.context.started ≡ Some ordinal) × (old.world.spec.length ≤ new.context.time)
