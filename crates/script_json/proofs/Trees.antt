-- The JSON value of bytes, from what reading them as text says.
use Rattle.std.proofs.Common.{◌≡◌, List, ℕ, Some, None, refl, inl, inr}
use Rattle.std.specs.Prelude.{IsUtf8}
use Rattle.std.specs.Str.{is_utf8}
use Rattle.std.proofs.lemmas.Str.{IsUtf8-from_is_utf8, is_utf8-from_IsUtf8}
use Rattle.std.proofs.lemmas.Bool.{cases_Bool}
use Rattle.serde_json.specs.Data.{Data}
use Rattle.serde_json.specs.Read as json
use Rattle.script_json.specs.Tree.{json_of}

pub json_of-text : (bytes : List ℕ) (d : Data) → IsUtf8 bytes → json.read bytes ≡ Some d → json_of bytes ≡ Some d
unfolding json_of
json_of-text bytes d text value = let holds = is_utf8-from_IsUtf8 bytes text in rw holds value

pub json_of-none : (bytes : List ℕ) → (IsUtf8 bytes → json.read bytes ≡ None) → json_of bytes ≡ None
unfolding json_of
json_of-none bytes none = elim (cases_Bool (is_utf8 bytes)) [
  | inl holds ↦ rw holds (none (IsUtf8-from_is_utf8 bytes holds))
  | inr fails ↦ rw fails refl
]
