-- The pruned script: what is left of a script without the calls that are not heard.
use Rattle.std.specs.Prelude.{ℕ, suc, ◌==◌, ◌&&◌, ◌||◌, not, List, [], ◌∷◌, ◌++◌, map, find, bytes_eq, Bool, true, false, if◌then◌else◌, Option, None, Some, is_some, option_to_list, length}
use Rattle.std.specs.List.{list_any, filter_map, position}
use Rattle.std.specs.Option.{option_map_or}
use Rattle.law_base.specs.Reaching.{reaches}
use Rattle.script_ast.specs.Operations.{new_name}
use Rattle.script_ast.specs.declared.call_list.Call.{Call}
use Rattle.script_ast.specs.declared.call_list.Script.{Script}
use Rattle.script_ast.specs.declared.operations.Op.{Op}
use Rattle.script_ast.specs.declared.operations.Op.TheVariants as op
use Rattle.name_book.specs.Book.{destination}
use Rattle.transcript.specs.declared.lines.Answer.{Answer}
use Rattle.transcript.specs.declared.lines.Answer.TheVariants as answer
use Rattle.transcript.specs.declared.lines.Line.{Line}
use Rattle.transcript.specs.declared.lines.Line.TheVariants as line

-- ---- what a session did

abbrev pub is_refusal : Answer → Bool
is_refusal (answer.Throw exception) = true
is_refusal (answer.Rejected exception) = true
is_refusal other = false

-- the call that a line answers, unless it was refused
abbrev pub accepted_by : List Call → Line → Option Call
accepted_by calls (line.Call ordinal said) = if is_refusal said then None else find (λ call. call.ordinal == ordinal) calls
accepted_by calls other = None

-- the calls of a script that its session accepted, in the order in which they were made
abbrev pub accepted_calls : Script → List Line → List Call
accepted_calls script lines = filter_map (accepted_by script.calls) lines

-- ---- nodes and names

-- whether a call creates a node
abbrev pub creates_node : Op → Bool
creates_node (op.CreateBuffer name channels frames rate) = false
creates_node (op.DecodeAudioData name path) = false
creates_node other = is_some (new_name other)

-- the names of nodes that an operation has
abbrev pub node_names : Op → List (List ℕ)
node_names (op.Connect from output to input) = from ∷ to ∷ []
node_names (op.ConnectParam from output to param) = from ∷ to ∷ []
node_names (op.Disconnect from output to input) = from ∷ option_to_list to
node_names (op.DisconnectParam from to param output) = from ∷ to ∷ []
node_names (op.SetChannelCount node value) = node ∷ []
node_names (op.SetChannelCountMode node value) = node ∷ []
node_names (op.SetChannelInterpretation node value) = node ∷ []
node_names (op.SetCurve node curve) = node ∷ []
node_names (op.SetOversample node value) = node ∷ []
node_names (op.SetBuffer node buffer) = node ∷ []
node_names (op.SetLoop node value) = node ∷ []
node_names (op.SetLoopStart node value) = node ∷ []
node_names (op.SetLoopEnd node value) = node ∷ []
node_names (op.Start node when offset duration) = node ∷ []
node_names (op.Stop node when) = node ∷ []
node_names (op.SetValue node param value) = node ∷ []
node_names (op.SetValueAtTime node param value time) = node ∷ []
node_names (op.LinearRampToValueAtTime node param value time) = node ∷ []
node_names (op.SetValueCurveAtTime node param values time duration) = node ∷ []
node_names (op.CancelScheduledValues node param time) = node ∷ []
node_names (op.CancelAndHoldAtTime node param time) = node ∷ []
node_names (op.SetAutomationRate node param value) = node ∷ []
node_names (op.ExponentialRampToValueAtTime node param) = node ∷ []
node_names (op.SetTargetAtTime node param) = node ∷ []
node_names (op.ReadValue node param) = node ∷ []
node_names other = []

-- A node is told by the ordinal of the call that created it, and the destination by 0: what a name is bound to after these calls, the newest first, where it is a node.
abbrev pub node_bound : List Call → List ℕ → Option ℕ
node_bound [] name = None
node_bound (call ∷ earlier) name =
    if option_map_or (bytes_eq name) (new_name call.op) false
    then (if creates_node call.op then Some call.ordinal else None)
    else node_bound earlier name

-- the node that a name stands for
abbrev pub node_named : List Call → List ℕ → Option ℕ
node_named earlier name = if bytes_eq name destination then Some 0 else node_bound earlier name

-- the nodes that a call names after these calls
abbrev pub named_nodes : List Call → Call → List ℕ
named_nodes earlier call = filter_map (node_named earlier) (node_names call.op)

-- those, or the node that it creates
abbrev pub touched_nodes : List Call → Call → List ℕ
touched_nodes earlier call = if creates_node call.op then call.ordinal ∷ [] else named_nodes earlier call

-- ---- which nodes are live

abbrev pub is_connect : Op → Bool
is_connect (op.Connect from output to input) = true
is_connect (op.ConnectParam from output to param) = true
is_connect other = false

-- from which node a call connects to which one
abbrev pub first_two : List ℕ → List (ℕ × ℕ)
first_two (from ∷ to ∷ more) = (from, to) ∷ []
first_two other = []

abbrev pub connections_of : List Call → Call → List (ℕ × ℕ)
connections_of earlier call = if is_connect call.op then first_two (named_nodes earlier call) else []

-- each connection that was ever made, by calls made after these
abbrev pub connections : List Call → List Call → List (ℕ × ℕ)
connections earlier [] = []
connections earlier (call ∷ calls) = connections_of earlier call ++ connections (call ∷ earlier) calls

-- whether there is a connection between two nodes
abbrev pub are_connected : List (ℕ × ℕ) → ℕ → ℕ → Bool
are_connected made from to = list_any (λ c. c.0 == from && c.1 == to) made

-- The destination is live, and each node that was ever connected to a live one.
abbrev pub is_live : List (ℕ × ℕ) → ℕ → Bool
is_live made node = node == 0 || reaches (are_connected made) (map (λ c. c.0) made) (length made) node 0

-- ---- which calls are kept

abbrev pub is_read : Op → Bool
is_read (op.ReadValue node param) = true
is_read op.ReadState = true
is_read op.ReadTime = true
is_read other = false

abbrev pub is_start : Op → Bool
is_start op.StartRendering = true
is_start other = false

-- of calls made after these, the ordinals of those that do more than read, and name and create live nodes alone
abbrev pub heard_calls : (ℕ → Bool) → List Call → List Call → List ℕ
heard_calls live earlier [] = []
heard_calls live earlier (call ∷ calls) =
    if not (is_read call.op) && not (list_any (λ node. not (live node)) (touched_nodes earlier call))
    then call.ordinal ∷ heard_calls live (call ∷ earlier) calls
    else heard_calls live (call ∷ earlier) calls

-- Of these calls, in document order, those that are heard and stand in the main list or in the list of a kept call. The list of startRendering comes too late to be heard.
abbrev pub kept_calls : List ℕ → List ℕ → List Call → List Call
kept_calls heard holders [] = []
kept_calls heard holders (call ∷ calls) =
    if list_any (λ n. n == call.ordinal) heard && list_any (λ n. n == call.holder) holders
    then call ∷ kept_calls heard (if is_start call.op then holders else call.ordinal ∷ holders) calls
    else kept_calls heard holders calls

-- ---- the pruned script

-- the place of a call among those that are kept, from 1 on; 0 stands for none
abbrev pub place_in : List Call → ℕ → ℕ
place_in calls ordinal = option_map_or suc (position (λ call. call.ordinal == ordinal) calls) 0

abbrev pub renumbered : List Call → Call → Call
renumbered calls call = record call { ordinal = place_in calls call.ordinal; holder = place_in calls call.holder }

-- A script without the calls that were refused, those that only read, and those that name or create a node that is not live, each with the calls that it holds, by the lines of its session.
unfoldable pub pruned : Script → List Line → Script
pruned script lines =
    let accepted = accepted_calls script lines in
    let live = is_live (connections [] accepted) in
    let kept = kept_calls (heard_calls live [] accepted) (0 ∷ []) script.calls in
    record script { calls = map (renumbered kept) kept }
