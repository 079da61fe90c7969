-- Scripts and what is left of them.
use Rattle.std.specs.Prelude.{ℕ, ◌≡◌, pos, codes, List, [], ◌∷◌, refl, None}
use Rattle.wa_base.specs.declared.exceptions.Exc.TheVariants.{NotSupported}
use Rattle.law_base.specs.Reaching.{reaches}
use Rattle.node_table.specs.declared.kinds.Kind.TheVariants.{Constant, Gain}
use Rattle.script_ast.specs.declared.call_list.Call.{Call}
use Rattle.script_ast.specs.declared.call_list.Script.{Script}
use Rattle.script_ast.specs.declared.left_out.LeftOutName.TheVariants.{CreateOscillator}
use Rattle.script_ast.specs.declared.operations.Op.{Op}
use Rattle.script_ast.specs.declared.operations.Op.TheVariants.{Create, Connect, Disconnect, Start, Suspend, Resume, StartRendering, ReadTime, LeftOut}
use Rattle.name_book.specs.Book.{destination}
use Rattle.transcript.specs.declared.lines.Answer.TheVariants.{Ok, Throw, Pending, Resolved, Time}
use Rattle.transcript.specs.declared.lines.Line.TheVariants as line
use Rattle.prune_script.specs.Pruned.{pruned}

abbrev held : ℕ → ℕ → Op → Call
held holder ordinal op = record { ordinal = ordinal; holder = holder; op = op }

abbrev call : ℕ → Op → Call
call = held 0

abbrev of_calls : List Call → Script
of_calls calls = record { context = record { channels = 1; length = 128; rate = 48000; quantum = 128 }; calls = calls }

abbrev connect : List ℕ → List ℕ → Op
connect from to = Connect from 0 to 0

abbrev gain : List ℕ → Op
gain name = Create name (Gain (pos 16777216))

abbrev source : Op
source = Create (codes "c") (Constant (pos 16777216))

abbrev start : Op
start = Start (codes "c") (pos 0) (pos 0) None

-- an oscillator, which is refused, and a gain, which reaches nothing, are left out with the connection to it
unheard_nodes : pruned (of_calls (
    call 1 (LeftOut CreateOscillator)
    ∷ call 2 source
    ∷ call 3 (connect (codes "c") destination)
    ∷ call 4 start
    ∷ call 5 (gain (codes "g"))
    ∷ call 6 (connect (codes "c") (codes "g"))
    ∷ call 7 StartRendering
    ∷ []))
    (line.Call 1 (Throw (NotSupported None)) ∷ line.Call 2 Ok ∷ line.Call 3 Ok ∷ line.Call 4 Ok ∷ line.Call 5 Ok ∷ line.Call 6 Ok ∷ line.Call 7 Pending ∷ line.Resolved 7 ∷ line.Complete 128 ∷ [])
    ≡ of_calls (call 1 source ∷ call 2 (connect (codes "c") destination) ∷ call 3 start ∷ call 4 StartRendering ∷ [])
unfolding pruned reaches destination
unheard_nodes = refl

-- A name is given to a second node, which reaches nothing. What is done to the first one is kept, in the list of a suspension too, and what is done to the second one is not; nor is the list of startRendering, nor what reads the time. A connection that was taken away again keeps its node.
names_given_twice : pruned (of_calls (
    call 1 (gain (codes "g"))
    ∷ call 2 (connect (codes "g") destination)
    ∷ call 3 (Suspend (pos 128))
    ∷ held 3 4 ReadTime
    ∷ held 3 5 (Disconnect (codes "g") None None None)
    ∷ held 3 6 (gain (codes "g"))
    ∷ held 3 7 (connect (codes "g") (codes "g"))
    ∷ held 3 8 Resume
    ∷ call 9 StartRendering
    ∷ held 9 10 (connect (codes "g") (codes "g"))
    ∷ []))
    (line.Call 1 Ok ∷ line.Call 2 Ok ∷ line.Call 3 Pending ∷ line.Call 9 Pending ∷ line.Resolved 3 ∷ line.Call 4 (Time 128) ∷ line.Call 5 Ok ∷ line.Call 6 Ok ∷ line.Call 7 Ok ∷ line.Call 8 Resolved
    ∷ line.Resolved 9 ∷ line.Call 10 Ok ∷ line.Complete 256 ∷ [])
    ≡ of_calls (
    call 1 (gain (codes "g"))
    ∷ call 2 (connect (codes "g") destination)
    ∷ call 3 (Suspend (pos 128))
    ∷ held 3 4 (Disconnect (codes "g") None None None)
    ∷ held 3 5 Resume
    ∷ call 6 StartRendering
    ∷ [])
unfolding pruned reaches destination
names_given_twice = refl
