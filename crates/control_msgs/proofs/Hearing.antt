-- Messages that are heard one after another.
use Rattle.std.proofs.Common.{◌≡◌, ◌∷◌, ◌++◌, [], ℕ, zero, suc, List, take, drop, refl}
use Rattle.meaning.specs.declared.world.World.{World}
use Rattle.control_msgs.specs.declared.message.Message.{Message}
use Rattle.control_msgs.specs.Messages.{after_message, after_messages, IsAcceptedBy, AreAcceptedBy}

-- the first of the messages that are left is the next one of all
pub next_heard : (w : World) (heard : ℕ) (all : List Message) (m : Message) (left : List Message) → m ∷ left ≡ drop heard all
    → (left ≡ drop (suc heard) all) × (after_messages w (take (suc heard) all) ≡ after_message (after_messages w (take heard all)) m)
next_heard w zero [] m left is = absurd cc
next_heard w zero (x ∷ xs) m left is = (cc, cc)
next_heard w (suc heard) [] m left is = absurd cc
next_heard w (suc heard) (x ∷ xs) m left is = next_heard (after_message w x) heard xs m left is

-- one message more
pub after_more : (w : World) (ms : List Message) (m : Message) → after_messages w (ms ++ m ∷ []) ≡ after_message (after_messages w ms) m
after_more w [] m = refl
after_more w (x ∷ xs) m = after_more (after_message w x) xs m

pub accepted_more : (w : World) (ms : List Message) (m : Message) → AreAcceptedBy w ms → IsAcceptedBy (after_messages w ms) m → AreAcceptedBy w (ms ++ m ∷ [])
accepted_more w [] m are is = (is, tt)
accepted_more w (x ∷ xs) m are is = (are.0, accepted_more (after_message w x) xs m are.1 is)
