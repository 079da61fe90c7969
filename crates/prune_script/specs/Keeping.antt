-- How the kept calls are told, call by call.
use Rattle.std.specs.Prelude.{ℕ, ◌≡◌, ◌==◌, ◌&&◌, List, [], ◌∷◌, map, Bool, if◌then◌else◌, Option, Some, None, slice_index_or}
use Rattle.std.specs.List.{list_any}
use Rattle.script_ast.specs.declared.call_list.Call.{Call}
use Rattle.prune_script.specs.Live.{is_marked}
use Rattle.prune_script.specs.Pruned.{kept_calls, is_start, place_in, renumbered}

-- the calls in whose lists calls are kept, after these calls
abbrev pub holders_after : List ℕ → List ℕ → List Call → List ℕ
holders_after heard holders [] = holders
holders_after heard holders (call ∷ calls) =
    if list_any (λ n. n == call.ordinal) heard && list_any (λ n. n == call.holder) holders
    then holders_after heard (if is_start call.op then holders else call.ordinal ∷ holders) calls
    else holders_after heard holders calls

-- the place of a call in whose list calls are kept
abbrev pub list_place : List ℕ → List Call → ℕ → Option ℕ
list_place holders kept ordinal = if list_any (λ n. n == ordinal) holders then Some (place_in kept ordinal) else None

-- Of these calls those that are kept, with the places of the lists in which the next ones may stand.
pub record AreKept (heard : List ℕ) (calls kept : List Call) (places : List (Option ℕ)) : Type 0 where
  pub kept_are : kept ≡ map (renumbered (kept_calls heard (0 ∷ []) calls)) (kept_calls heard (0 ∷ []) calls)
  pub places_are : (ordinal : ℕ) → slice_index_or places ordinal None ≡ list_place (holders_after heard (0 ∷ []) calls) (kept_calls heard (0 ∷ []) calls) ordinal

-- the marks tell which ordinals are among these
abbrev pub TellsHeard : List ℕ → List Bool → Type 0
TellsHeard ordinals heard = (ordinal : ℕ) → is_marked heard ordinal ≡ list_any (λ n. n == ordinal) ordinals
