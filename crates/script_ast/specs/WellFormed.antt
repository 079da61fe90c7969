-- What holds of every script that was read.
use Rattle.std.specs.Prelude.{ℕ, ◌≡◌, ◌+◌, ◌≤◌, List, [], ◌∷◌}
use Rattle.script_ast.specs.Holders.{AreNested}
use Rattle.script_ast.specs.Operations.{IsInRange}
use Rattle.script_ast.specs.Ranges.{IsCount}
use Rattle.script_ast.specs.declared.call_list.Call.{Call}
use Rattle.script_ast.specs.declared.call_list.Script.{Script}

-- the call has the ordinal n, stands in the main list or in that of an earlier call, and its fields are in range
abbrev pub IsCallAt : ℕ → Call → Type 0
IsCallAt n call = (call.ordinal ≡ n) × (call.holder + 1 ≤ n) × IsInRange call.op

-- the calls have the ordinals from n + 1 on, in their order
abbrev pub AreCallsAfter : ℕ → List Call → Type 0
AreCallsAfter n [] = Unit {0}
AreCallsAfter n (call ∷ calls) = IsCallAt (n + 1) call × AreCallsAfter (n + 1) calls

-- the context's numbers are counts, every call has its place in the list, counted from 1, as its ordinal, and the calls lie in one another by their holders
pub record IsWellFormed (script : Script) : Type 0 where
  pub channels : IsCount script.context.channels
  pub frames : IsCount script.context.length
  pub rate : IsCount script.context.rate
  pub quantum : IsCount script.context.quantum
  pub calls : AreCallsAfter 0 script.calls
  pub nested : AreNested script.calls
