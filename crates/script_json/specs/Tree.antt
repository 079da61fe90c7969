-- The JSON value of bytes.
use Rattle.std.specs.Prelude.{ℕ, List, Option, None, if◌then◌else◌}
use Rattle.std.specs.Str.{is_utf8}
use Rattle.serde_json.specs.Data.{Data}
use Rattle.serde_json.specs.Read as json

-- the JSON value that the bytes are, with arrays and objects nested at most 127 deep
unfoldable pub json_of : List ℕ → Option Data
json_of bytes = if is_utf8 bytes then json.read bytes else None
