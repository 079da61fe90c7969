-- What the private clauses of the writer cite: the members that it is handed, and which operations a function writes.
use Rattle.std.specs.Prelude.{ℕ, ◌≡◌, List, [], ◌∷◌, ◌++◌, Option, option_map, Bool, true, false}
use Rattle.std.specs.Ordering.{nat_cmp, match_ordering}
use Rattle.std.specs.Cmp.Lexicographic.{slice_cmp}
use Rattle.serde_json.specs.Data.{Data, boolean, string, Members, no_members, member}
use Rattle.wa_base.specs.GraphNames.{mode_word, interp_word, rate_word}
use Rattle.script_ast.specs.Entries.{op_word}
use Rattle.script_ast.specs.Fields.{field_word}
use Rattle.script_ast.specs.Words.{oversample_word}
use Rattle.script_ast.specs.declared.entries.Creation.{Creation}
use Rattle.script_ast.specs.declared.entries.OpName.TheVariants as named
use Rattle.script_ast.specs.declared.fields.Field.{Field}
use Rattle.script_ast.specs.declared.fields.Field.TheVariants as field
use Rattle.script_ast.specs.declared.operations.Op.{Op}
use Rattle.script_ast.specs.declared.operations.Op.TheVariants as op
use Rattle.script_ast.specs.declared.param_ops.ParamOpName.{ParamOpName}
use Rattle.script_text.specs.Members.{or_null, fix, fixes, count, time, code}
use Rattle.script_text.specs.Text.{with_fields, op_field}
use Rattle.script_text.specs.declared.members.Given.{Given}
use Rattle.script_text.specs.declared.members.Given.TheVariants as given

-- the JSON value of what a field holds
abbrev pub given_data : ℕ → Given → Data
given_data rate (given.Op name) = string (op_word name)
given_data rate (given.Name name) = string name.now
given_data rate (given.NameOrNull name) = or_null string name.now
given_data rate (given.Path path) = string path.now
given_data rate (given.Fix z) = fix z
given_data rate (given.Fixes zs) = fixes zs.now
given_data rate (given.FixesOrNull zs) = or_null fixes zs.now
given_data rate (given.Count n) = count n
given_data rate (given.CountOrNull n) = or_null count n
given_data rate (given.Length n) = count n
given_data rate (given.Time frames) = time rate frames
given_data rate (given.TimeOrNull frames) = or_null (time rate) frames
given_data rate (given.Flag b) = boolean b
given_data rate (given.Code instrs) = code instrs.now
given_data rate (given.Mode mode) = string (mode_word mode)
given_data rate (given.Interp interp) = string (interp_word interp)
given_data rate (given.Rate r) = string (rate_word r)
given_data rate (given.Oversample oversample) = string (oversample_word oversample)

-- the members of an object, in the order in which they are handed
abbrev pub members_given : ℕ → List (Field × Given) → Members
members_given rate [] = no_members
members_given rate (m ∷ ms) = member (field_word m.0) (given_data rate m.1) (members_given rate ms)

-- the members of a call on a parameter: its node, its name, the parameter, and the others
abbrev pub param_members : ℕ → ParamOpName → List ℕ → List ℕ → List (Field × Given) → Members
param_members rate name node parameter others =
    member (field_word field.Node) (string node) (member (field_word field.Op) (string (op_word (named.Param name))) (member (field_word field.Param) (string parameter) (members_given rate others)))

-- these members, which stand in the order of their names' bytes, with one more at its place
abbrev pub with_member : Field → Given → List (Field × Given) → List (Field × Given)
with_member field given [] = (field, given) ∷ []
with_member field given (m ∷ ms) = match_ordering (slice_cmp nat_cmp (field_word field) (field_word m.0)) ((field, given) ∷ m ∷ ms) ((m.0, given) ∷ ms) (m ∷ with_member field given ms)

-- the first members of a creation, to which its numbers are added one after another: the new node's name, and the creation's, where there is one
abbrev pub IsNamed : Option Creation → List ℕ → List (Field × Given) → Type 0
IsNamed creation name members =
    (rate : ℕ) (numbers : List (Field × Data)) → with_fields (op_field (option_map named.Create creation) ++ (field.As, string name) ∷ numbers) no_members ≡ with_fields numbers (members_given rate members)

-- ---- which operations a function writes

-- a connection of nodes, or its end
abbrev pub connects_nodes : Op → Bool
connects_nodes (op.Connect from output to input) = true
connects_nodes (op.Disconnect from output to input) = true
connects_nodes _ = false

-- a connection of a node to a parameter, or its end
abbrev pub connects_param : Op → Bool
connects_param (op.ConnectParam from output to parameter) = true
connects_param (op.DisconnectParam from to parameter output) = true
connects_param _ = false

-- the start or the stop of a source
abbrev pub starts_or_stops : Op → Bool
starts_or_stops (op.Start node when offset duration) = true
starts_or_stops (op.Stop node when) = true
starts_or_stops _ = false

-- a value of a parameter that is set now or at a time, or that a ramp leads to
abbrev pub sets_value : Op → Bool
sets_value (op.SetValue node parameter value) = true
sets_value (op.SetValueAtTime node parameter value at) = true
sets_value (op.LinearRampToValueAtTime node parameter value at) = true
sets_value _ = false

-- the creation of a node that uses a buffer
abbrev pub creates_with_buffer : Op → Bool
creates_with_buffer (op.CreateConvolver name buffer disable_normalization) = true
creates_with_buffer (op.CreateBufferSource name buffer looping loop_start loop_end playback_rate) = true
creates_with_buffer _ = false
