-- The reading of a script.
use Rattle.std.specs.Prelude.{ℕ, ◌==◌, List, [], ◌∷◌, ◌++◌, flat_map, filter_map, if◌then◌else◌, Option, Some, None, unwrap_or, is_some, Result, Err}
use Rattle.serde_json.specs.Data.{Data, Items, null}
use Rattle.serde_json.specs.Find.{as_object}
use Rattle.wa_base.specs.declared.contexts.ContextSpec.{ContextSpec}
use Rattle.script_ast.specs.Entries.{script_head, context_fields, script_tail}
use Rattle.script_ast.specs.declared.call_list.Script.{Script}
use Rattle.script_ast.specs.declared.clocks.Clock.{Clock}
use Rattle.script_ast.specs.declared.clocks.Clock.TheVariants.{Frames, Seconds}
use Rattle.script_ast.specs.declared.fields.Field.TheVariants as field
use Rattle.script_json.specs.Calls.{Placed, placed, call_faults, call_of}
use Rattle.script_fields.specs.Fields.{member_at, fields_faults, count_in, list_in}
use Rattle.script_fields.specs.Outcome.{outcome}
use Rattle.script_json.specs.Tree.{json_of}
use Rattle.script_fields.specs.declared.faults.ScriptErr.{ScriptErr}
use Rattle.script_fields.specs.declared.faults.ScriptErr.TheVariants.{BadJson, WrongKind}

-- the member `context` of a script
unfoldable pub context_in : Data → Data
context_in d = unwrap_or (member_at field.Context d) null

-- the context that the member asks for
abbrev pub context_of : Data → ContextSpec
context_of d = record { channels = count_in context_fields field.Channels d; length = count_in context_fields field.Length d; rate = count_in context_fields field.Rate d; quantum = count_in context_fields field.RenderQuantum d }

-- what times are counted in, by a script's version and its context's rate in frames a second: in version 2 they are texts of seconds
abbrev pub clock_at : ℕ → ℕ → Clock
clock_at version rate = if version == 2 then Seconds rate else Frames

-- what the times of a script are counted in; its rate counts as it was read, also where the context will be refused
unfoldable pub clock_of : Data → Clock
clock_of d = clock_at (count_in script_head field.Version d) (context_of (context_in d)).rate

-- the main list of calls
unfoldable pub main_list : Data → Items
main_list d = list_in field.Calls d

-- every call of a script in order of ordinals
unfoldable pub calls_of : Data → List Placed
calls_of d = placed (main_list d) 0 0

-- the faults of what stands around the calls; none of these fields is a time
unfoldable pub head_faults : Data → List ScriptErr
head_faults d = if is_some (as_object d)
    then fields_faults Frames 0 d script_head ++ fields_faults Frames 0 (context_in d) context_fields ++ fields_faults Frames 0 d script_tail
    else WrongKind 0 field.Script ∷ []

-- the faults of a script in their order: first those around the calls, then those of each call in order of ordinals
unfoldable pub script_faults : Data → List ScriptErr
script_faults d = head_faults d ++ flat_map (call_faults (clock_of d)) (calls_of d)

-- what a value without a fault means
unfoldable pub script_in : Data → Script
script_in d = record { context = context_of (context_in d); calls = filter_map (call_of (clock_of d)) (calls_of d) }

-- the script that a JSON value is, or its first fault; no value at all is BadJson
abbrev pub script_or_fault : Option Data → Result Script ScriptErr
script_or_fault None = Err BadJson
script_or_fault (Some d) = outcome (script_faults d) (script_in d)

-- the script that bytes are, or its first fault
abbrev pub script_of : List ℕ → Result Script ScriptErr
script_of bytes = script_or_fault (json_of bytes)
