-- The first fault of lists that are put together.
use Rattle.std.proofs.Common.{◌≡◌, ◌<◌, ◌+◌, ℕ, List, [], ◌∷◌, ◌++◌, length, drop, get_or, refl, Ok, Err, add-one, drop-cons}
use Rattle.std.specs.Prelude.{⊤, flat_map}
use Rattle.std.specs.Result.{result_and}
use Rattle.serde_json.specs.Data.{Data}
use Rattle.script_ast.specs.declared.clocks.Clock.{Clock}
use Rattle.script_ast.specs.declared.entries.Row.{Row}
use Rattle.script_fields.specs.Fields.{field_faults, fields_faults}
use Rattle.script_fields.specs.Outcome.{outcome}
use Rattle.script_fields.specs.declared.faults.ScriptErr.{ScriptErr}

pub outcome-append : {A : Type 0} (xs ys : List ScriptErr) (value : A) → outcome (xs ++ ys) value ≡ result_and (outcome {A = ⊤} xs tt) (outcome ys value)
outcome-append [] ys value = refl
outcome-append (fault ∷ faults) ys value = refl

-- the next of the items, and then the rest
pub flat_map-drop : {X A : Type 0} (f : X → List A) (xs : List X) (i : ℕ) (d : X) → i < length xs
    → flat_map f (drop i xs) ≡ f (get_or xs i d) ++ flat_map f (drop (i + 1) xs)
flat_map-drop f xs i d h = rw (add-one, drop-cons xs i d) refl

pub outcome_none : {A : Type 0} (xs ys : List ScriptErr) (value : A) (done : ⊤) → outcome {A = ⊤} xs tt ≡ Ok done → outcome (xs ++ ys) value ≡ outcome ys value
outcome_none [] ys value done h = refl
outcome_none (fault ∷ faults) ys value done h = cc

pub outcome_some : {A : Type 0} (xs ys : List ScriptErr) (value : A) (e : ScriptErr) → outcome {A = ⊤} xs tt ≡ Err e → outcome (xs ++ ys) value ≡ Err e
outcome_some [] ys value e h = cc
outcome_some (fault ∷ faults) ys value e h = cc

-- a row without a fault leaves the first fault to the rows after it
pub no_fault_at : (clock : Clock) (n : ℕ) (d : Data) (rows : List Row) (i : ℕ) (row : Row) (done : ⊤) → i < length rows
    → outcome {A = ⊤} (field_faults clock n d (get_or rows i row)) tt ≡ Ok done
    → outcome {A = ⊤} (fields_faults clock n d (drop i rows)) tt ≡ outcome {A = ⊤} (fields_faults clock n d (drop (i + 1) rows)) tt
no_fault_at clock n d rows i row done h ok = rw (flat_map-drop (field_faults clock n d) rows i row h) (outcome_none _ _ tt done ok)

-- the fault of a row is the first of that row and those after it
pub fault_at : (clock : Clock) (n : ℕ) (d : Data) (rows : List Row) (i : ℕ) (row : Row) (e : ScriptErr) → i < length rows
    → outcome {A = ⊤} (field_faults clock n d (get_or rows i row)) tt ≡ Err e
    → outcome {A = ⊤} (fields_faults clock n d (drop i rows)) tt ≡ Err e
fault_at clock n d rows i row e h bad = rw (flat_map-drop (field_faults clock n d) rows i row h) (outcome_some _ _ tt e bad)
