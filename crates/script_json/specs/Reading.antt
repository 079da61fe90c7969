-- The reading of calls one after another.
use Rattle.std.specs.Prelude.{ℕ, List, ◌++◌, flat_map, filter_map, if◌then◌else◌, Option, Result}
use Rattle.serde_json.specs.Data.{Data, Items, no_items}
use Rattle.script_ast.specs.declared.call_list.Call.{Call}
use Rattle.script_ast.specs.declared.clocks.Clock.{Clock}
use Rattle.script_ast.specs.declared.fields.Field.TheVariants as field
use Rattle.script_json.specs.Calls.{Placed, call_faults, call_of, has_then, name_in}
use Rattle.script_fields.specs.Fields.{list_in}
use Rattle.script_fields.specs.Outcome.{outcome}
use Rattle.script_fields.specs.declared.faults.ScriptErr.{ScriptErr}

-- the list of the calls that a call holds
unfoldable pub held_list : Data → Items
held_list d = if has_then (name_in d) then list_in field.Then d else no_items

-- the call with this ordinal, holder and value
abbrev pub placed_at : ℕ → ℕ → Data → Placed
placed_at n holder d = record { ordinal = n; holder = holder; value = d }

-- one call, or its first fault
unfoldable pub call_read : Clock → Placed → Result (Option Call) ScriptErr
call_read clock call = outcome (call_faults clock call) (call_of clock call)

-- the calls read so far and then the next ones, or the first fault of these
unfoldable pub calls_read : Clock → List Call → List Placed → Result (List Call) ScriptErr
calls_read clock before calls = outcome (flat_map (call_faults clock) calls) (before ++ filter_map (call_of clock) calls)
