-- The calls of a script that is read lie in one another: those of a `then` list come right after the call that holds it.
use Rattle.std.proofs.Common.{◌≡◌, ◌≤◌, ◌+◌, ◌⊎◌, ℕ, List, [], ◌∷◌, ◌++◌, length, refl, ◌∙◌, Ok, Option, Some, None, true, inl, inr, arith}
use Rattle.std.specs.Prelude.{flat_map, filter_map, is_some, option_map}
use Rattle.std.specs.List.{cons_option}
use Rattle.std.proofs.lemmas.Grind.{flat_map-append}
use Rattle.std.proofs.lemmas.List.Elements.{filter_map-append}
use Rattle.serde_json.specs.Data.{Data}
use Rattle.script_ast.specs.Holders.{holds_calls, AreNested}
use Rattle.script_ast.specs.declared.call_list.Call.{Call}
use Rattle.script_ast.specs.declared.clocks.Clock.{Clock}
use Rattle.script_ast.specs.declared.call_list.Script.{Script}
use Rattle.script_ast.specs.declared.entries.OpName.{OpName}
use Rattle.script_ast.proofs.Nesting.{IsBlock, none_block, next_block, block_nested}
use Rattle.script_json.proofs.WellFormedLaws.{holds_calls-op_in}
use Rattle.script_json.proofs.CallSteps.{both_none, outcome_ok, is_call}
use Rattle.script_json.proofs.PlacedLaws.{placed_all}
use Rattle.script_json.proofs.TextLaws.{HasTexts, main_texts}
use Rattle.script_json.specs.Calls.{Placed, placed, has_then, call_faults, call_of, name_in, op_in}
use Rattle.script_fields.specs.Outcome.{outcome}
use Rattle.script_json.specs.Reading.{placed_at}
use Rattle.script_json.specs.Script.{clock_of, main_list, calls_of, head_faults, script_faults, script_in}

-- ---- one call

-- what a placed call is read as
record IsReadAs (call : Placed) (c : Call) : Type 0 where
  ordinal : c.ordinal ≡ call.ordinal
  holder : c.holder ≡ call.holder
  holds : holds_calls c.op ≡ has_then (name_in call.value)

abbrev IsRead : Placed → Option Call → Type 0
IsRead call None = ⊥
IsRead call (Some c) = IsReadAs call c

abbrev meaning : Clock → Placed → Option OpName → Option Call
meaning clock call o = option_map (λ name. record { ordinal = call.ordinal; holder = call.holder; op = op_in clock name call.value }) o

read_named : (clock : Clock) (call : Placed) (o : Option OpName) → o ≡ name_in call.value → is_some (meaning clock call o) ≡ true → IsRead call (meaning clock call o)
read_named clock call None is h = cc
read_named clock call (Some name) is h = record { ordinal = refl; holder = refl; holds = rw (← is) (holds_calls-op_in clock name call.value) }

is_read : (clock : Clock) (call : Placed) → is_some (call_of clock call) ≡ true → IsRead call (call_of clock call)
unfolding call_of
is_read clock call h = read_named clock call (name_in call.value) refl h

-- ---- lists

next_read : (call : Placed) (o : Option Call) (held rest : List Call) → IsRead call o → call.holder ≤ call.ordinal
    → (held ≡ []) ⊎ (has_then (name_in call.value) ≡ true) → IsBlock call.ordinal held → IsBlock call.holder rest
    → IsBlock call.holder (cons_option o (held ++ rest))
next_read call None held rest is early none_or inner outer = absurd is
next_read call (Some c) held rest is early none_or inner outer =
    let later : call.holder ≤ c.ordinal = rw (is.ordinal) early in
    let of_op = elim none_or as (λ _. (held ≡ []) ⊎ (holds_calls c.op ≡ true)) [
      | inl none ↦ inl none
      | inr has ↦ inr (is.holds ∙ has)
    ] in
    next_block call.holder c held rest is.holder later of_op (rw (is.ordinal) inner) outer

-- what is said of the calls that are placed in a list: where none has a fault, they are its calls with those that they hold
abbrev IsPlacedBlock : Clock → ℕ → ℕ → List Placed → Type 0
IsPlacedBlock clock n holder calls = flat_map (call_faults clock) calls ≡ [] → IsBlock holder (filter_map (call_of clock) calls)

next_placed : (clock : Clock) (d : Data) (n holder : ℕ) (held rest : List Placed) → HasTexts d → holder ≤ n → (held ≡ []) ⊎ (has_then (name_in d) ≡ true)
    → IsPlacedBlock clock (n + 1) (n + 1) held → IsPlacedBlock clock (n + 1 + length held) holder rest → IsPlacedBlock clock n holder (placed_at (n + 1) holder d ∷ held ++ rest)
next_placed clock d n holder held rest texts early none_or inner outer none =
    let this = both_none (call_faults clock (placed_at (n + 1) holder d)) (flat_map (call_faults clock) (held ++ rest)) none in
    let others = both_none (flat_map (call_faults clock) held) (flat_map (call_faults clock) rest) (rw (flat_map-append (call_faults clock) held rest) at this.1) in
    let later : holder ≤ n + 1 = omega arith in
    let of_calls = elim none_or as (λ _. (filter_map (call_of clock) held ≡ []) ⊎ (has_then (name_in d) ≡ true)) [
      | inl no_call ↦ inl (rw no_call refl)
      | inr has ↦ inr has
    ] in
    let read = is_read clock (placed_at (n + 1) holder d) (is_call clock (placed_at (n + 1) holder d) this.0) in
    rw (filter_map-append (call_of clock) held rest)
    (next_read (placed_at (n + 1) holder d) (call_of clock (placed_at (n + 1) holder d)) (filter_map (call_of clock) held) (filter_map (call_of clock) rest) read later of_calls (inner others.0) (outer others.1))

-- the calls of a script that a value is
pub read_nested : (d : Data) (script : Script) → HasTexts d → outcome (script_faults d) (script_in d) ≡ Ok script → AreNested script.calls
unfolding script_faults script_in calls_of
read_nested d script texts read =
    let clock = clock_of d in
    let e = outcome_ok _ _ _ read in
    let none = both_none (head_faults d) (flat_map (call_faults clock) (placed (main_list d) 0 0)) e.0 in
    let early : 0 ≤ 0 = omega arith in
    let block = placed_all (IsPlacedBlock clock) (λ (n holder : ℕ) _. none_block holder) (next_placed clock) (main_list d) 0 0 early (main_texts d texts) none.1 in
    rw (← e.1) (block_nested (filter_map (call_of clock) (placed (main_list d) 0 0)) block)
