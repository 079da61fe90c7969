-- Which calls hold calls, and how the calls of a script lie in one another.
use Rattle.std.specs.Prelude.{ℕ, ◌≡◌, ◌≤◌, ◌⊎◌, List, ◌∷◌, ◌++◌, All, Bool, true, false, IsTrue}
use Rattle.script_ast.specs.declared.call_list.Call.{Call}
use Rattle.script_ast.specs.declared.operations.Op.{Op}
use Rattle.script_ast.specs.declared.operations.Op.TheVariants as op

-- whether a call of the operation has a `then` list
abbrev pub holds_calls : Op → Bool
holds_calls (op.Suspend time) = true
holds_calls op.StartRendering = true
holds_calls _ = false

-- one of the calls has this ordinal and a `then` list, and the holders of those after it are at or past it: they stand in its list, or in lists within it
pub record IsOpen (calls : List Call) (ordinal : ℕ) : Type 0 where
  pub before : List Call
  pub holder : Call
  pub after : List Call
  pub parts : calls ≡ before ++ holder ∷ after
  pub number : holder.ordinal ≡ ordinal
  pub holds : IsTrue (holds_calls holder.op)
  pub enclosed : All (λ (call : Call). ordinal ≤ call.holder) after

-- the call that comes after these may have this holder: 0, for the main list, or the ordinal of a call that encloses it
abbrev pub MayHold : List Call → ℕ → Type 0
MayHold before holder = (holder ≡ 0) ⊎ IsOpen before holder

-- the holder of each call is 0, or the ordinal of an earlier call that has a `then` list and encloses it
abbrev pub AreNested : List Call → Type 0
AreNested calls = (before after : List Call) (call : Call) → calls ≡ before ++ call ∷ after → MayHold before call.holder
