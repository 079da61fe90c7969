-- What holds of the texts of scripts.
use Rattle.std.specs.Prelude.{◌≡◌, ◌≤◌, ◌⊎◌, ℕ, List, All, true, false, Ok}
use Rattle.wa_base.specs.Contexts.{is_supported}
use Rattle.script_ast.specs.Holders.{holds_calls}
use Rattle.script_ast.specs.WellFormed.{IsWellFormed}
use Rattle.script_ast.specs.declared.call_list.Call.{Call}
use Rattle.script_ast.specs.declared.call_list.Script.{Script}
use Rattle.script_json.specs.Script.{script_of}
use Rattle.script_text.specs.Text.{script_text}
use Rattle.script_text.specs.Textable.{IsTextable}

-- reading the text of a script gives the script
abbrev pub ScriptTextLaw : Type 0
ScriptTextLaw = (script : Script) → IsTextable script → script_of (script_text script) ≡ Ok script

-- a script that was read, and is as every script that `read` gives, is read again from its text where its context can be rendered
abbrev pub ReadTextableLaw : Type 0
ReadTextableLaw = (bytes : List ℕ) (script : Script) → script_of bytes ≡ Ok script → IsWellFormed script → is_supported script.context ≡ true → IsTextable script

-- a call of the main list, or one that holds no calls
abbrev pub HoldsNoneWithin : Call → Type 0
HoldsNoneWithin call = (call.holder ≡ 0) ⊎ (holds_calls call.op ≡ false)

-- so is a script whose `then` lists have no call with such a list
abbrev pub TwoLevelsLaw : Type 0
TwoLevelsLaw = (script : Script) → IsWellFormed script → All HoldsNoneWithin script.calls → 8000 ≤ script.context.rate → script.context.rate ≤ 96000 → IsTextable script
