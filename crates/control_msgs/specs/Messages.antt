-- What the control side of a session tells the side that renders, and what a render quantum changes in a world.
use Rattle.std.specs.Prelude.{ℕ, nat_le, map, List, [], ◌∷◌, Bool, true, false, not, ◌&&◌, if◌then◌else◌}
use Rattle.std.specs.Option.{option_map_or}
use Rattle.sched_source.specs.Schedule.{Schedule, end_frame}
use Rattle.meaning.specs.declared.scheds.Play.{Play}
use Rattle.meaning.specs.declared.world.World.{World}
use Rattle.meaning.specs.Automation.{with_params, slot_set}
use Rattle.meaning.specs.Changes.{Accepts, changed}
use Rattle.meaning.specs.Lists.{listed}
use Rattle.meaning.specs.Plays.{rescheduled}
use Rattle.control_msgs.specs.declared.message.Message.{Message}
use Rattle.control_msgs.specs.declared.message.Message.TheVariants as message

-- ---- a render quantum

-- a source ends before a frame, and has not ended before
abbrev pub ends_by : ℕ → Schedule → Bool
ends_by next sched = not sched.ended && option_map_or (λ end. nat_le end next) (end_frame sched) false

abbrev pub marked : ℕ → Play → Play
marked next play = if ends_by next play.sched then rescheduled play (record play.sched { ended = true }) else play

-- the sources that end before the quantum that begins at a frame are marked
abbrev pub ended_marked : ℕ → World → World
ended_marked next w = record w { scheds = listed (map (marked next) w.scheds.items) }

-- the current values become the intrinsic values at a frame
abbrev pub slots_set : ℕ → World → World
slots_set first w = with_params w (map (slot_set first) w.params.items)

-- a world after the quantum that begins at a frame, with the first frame of the next one
abbrev pub after : ℕ → ℕ → World → World
after first next w = ended_marked next (slots_set first w)

-- ---- messages

-- a world after a message
abbrev pub after_message : World → Message → World
after_message w (message.Change change) = changed w change
after_message w (message.Slots first) = slots_set first w
after_message w (message.Ended next) = ended_marked next w

-- A world accepts the message of a change that it accepts, and those of each quantum.
abbrev pub IsAcceptedBy : World → Message → Type 0
IsAcceptedBy w (message.Change change) = Accepts w change
IsAcceptedBy w (message.Slots first) = Unit {0}
IsAcceptedBy w (message.Ended next) = Unit {0}

-- a world after messages, in their order
abbrev pub after_messages : World → List Message → World
after_messages w [] = w
after_messages w (m ∷ ms) = after_messages (after_message w m) ms

-- the world that the messages before it left accepts each message
abbrev pub AreAcceptedBy : World → List Message → Type 0
AreAcceptedBy w [] = Unit {0}
AreAcceptedBy w (m ∷ ms) = IsAcceptedBy w m × AreAcceptedBy (after_message w m) ms

-- what contracts see of a queue: its messages in order, and for how many more there is room
pub record QueueView : Type 0 where
  pub messages : List Message
  pub room : ℕ
