-- What the accepted calls do to nodes.
use Rattle.std.specs.Prelude.{ℕ, ◌<◌, ◌&&◌, not, List, [], ◌∷◌, All, Bool, if◌then◌else◌, Option, Some, None}
use Rattle.std.specs.List.{list_any, filter_map, flat_map}
use Rattle.script_ast.specs.declared.call_list.Call.{Call}
use Rattle.prune_script.specs.Pruned.{touched_nodes, is_connect, is_read, first_two}

-- what a call does
pub record DeedView : Type 0 where
  pub ordinal : ℕ
  -- the nodes that the call names, or the one that it creates
  pub nodes : List ℕ
  pub connects : Bool
  pub reads : Bool

-- what a call does after these calls, the newest first
abbrev pub deed : List Call → Call → DeedView
deed earlier call = record { ordinal = call.ordinal; nodes = touched_nodes earlier call; connects = is_connect call.op; reads = is_read call.op }

abbrev pub deeds : List Call → List Call → List DeedView
deeds earlier [] = []
deeds earlier (call ∷ calls) = deed earlier call ∷ deeds (call ∷ earlier) calls

-- the connection that a call makes
abbrev pub link : DeedView → List (ℕ × ℕ)
link d = if d.connects then first_two d.nodes else []

-- the connections that calls make
abbrev pub links : List DeedView → List (ℕ × ℕ)
links = flat_map link

-- whether a call is heard
abbrev pub is_heard : (ℕ → Bool) → DeedView → Bool
is_heard live d = not d.reads && not (list_any (λ node. not (live node)) d.nodes)

-- the ordinal of a call that is heard
abbrev pub heard_by : (ℕ → Bool) → DeedView → Option ℕ
heard_by live d = if is_heard live d then Some d.ordinal else None

-- the ordinals of those that are heard
abbrev pub heard_of : (ℕ → Bool) → List DeedView → List ℕ
heard_of live = filter_map (heard_by live)

-- the call and the nodes that it touches have numbers below this one
pub record IsBelow (count : ℕ) (d : DeedView) : Type 0 where
  pub ordinal : d.ordinal < count
  pub nodes : All (λ node. node < count) d.nodes

abbrev pub AreBelow : ℕ → List DeedView → Type 0
AreBelow count = All (IsBelow count)
