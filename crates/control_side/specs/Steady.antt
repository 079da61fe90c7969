-- What holds of the machine between two steps.
use Rattle.std.specs.Prelude.{ℕ, ◌≡◌, ◌≤◌, ◌<◌, List, length, slice_index_or, false, All, IsSome}
use Rattle.name_book.specs.Book.{first_name_of}
use Rattle.name_book.specs.declared.book.Object.{Object}
use Rattle.name_book.specs.declared.book.Object.TheVariants.{Node, Buffer}
use Rattle.meaning.specs.declared.scheds.Play.{Play}
use Rattle.meaning.specs.declared.world.World.{World}
use Rattle.meaning.specs.Validity.{IsValid, play_nodes}
use Rattle.control_msgs.specs.Messages.{ends_by}
use Rattle.control_side.specs.Machine.{Machine}

-- an object is there, among the nodes and the buffers
abbrev pub IsThere : World → Object → Type 0
IsThere w (Node node) = node.0 < length w.nodes
IsThere w (Buffer buffer) = buffer.0 < length w.store

pub record IsSteady (machine : Machine) : Type 0 where
  pub valid : IsValid machine.world
  pub spec : machine.context.spec ≡ machine.world.spec
  pub time : machine.context.time ≤ 33555456
  pub bound : All (λ (b : List ℕ × Object). IsThere machine.world b.1) machine.bindings
  pub named : All (λ node. IsSome (first_name_of machine.first_names node)) (play_nodes machine.world)

-- none of the sources ends before a quantum that begins before a frame
abbrev pub AreOpen : ℕ → List Play → Type 0
AreOpen until plays = (next i : ℕ) (d : Play) → next < until → i < length plays → ends_by next (slice_index_or plays i d).sched ≡ false
