-- Reading calls one after another.
use Rattle.std.proofs.lemmas.List.{append-nil, drop_all}
use Rattle.std.proofs.Common.{◌≡◌, ◌<◌, ◌≤◌, ◌+◌, Bool, ℕ, suc, List, [], ◌∷◌, ◌++◌, length, drop, get_or, refl, sym, ap, ◌∙◌, Ok, Err, Option, Some, None, true, false, add-one, drop-cons, append_assoc, length-append}
use Rattle.std.specs.Prelude.{⊤, flat_map, filter_map, is_some, option_map, option_and_then, unwrap_or, if◌then◌else◌}
use Rattle.std.specs.List.{cons_option}
use Rattle.std.proofs.Common.{Ordering, Less, Equal, Greater}
use Rattle.std.specs.Ordering.{nat_cmp, match_ordering, is_eq}
use Rattle.std.specs.Cmp.Lexicographic.{slice_cmp}
use Rattle.std.proofs.lemmas.Map.Text.{is_eq-slice_cmp}
use Rattle.serde_json.specs.Data.{Data, null, boolean, number, string, array, object, Items, no_items, Members, no_members, member}
use Rattle.json_tree.specs.View.{view, items_view}
use Rattle.json_tree.specs.declared.values.Value.{Value}
use Rattle.script_ast.specs.declared.call_list.Call.{Call}
use Rattle.script_ast.specs.declared.clocks.Clock.{Clock}
use Rattle.script_fields.proofs.Outcomes.{outcome_none, outcome_some}
use Rattle.std.proofs.lemmas.Grind.{flat_map-append}
use Rattle.std.proofs.lemmas.List.Elements.{filter_map-append}
use Rattle.serde_json.specs.Find.{as_object, as_array, get_member}
use Rattle.script_ast.specs.Fields.{field_word}
use Rattle.script_ast.specs.Entries.{fields_of, has_calls}
use Rattle.script_ast.specs.declared.fields.Field.TheVariants as field
use Rattle.script_ast.specs.declared.entries.OpName.{OpName}
use Rattle.script_json.specs.Calls.{Placed, placed, held_by, then_calls, list_calls, has_then, call_faults, call_of, name_in, name_faults, joint_faults, op_faults, op_in}
use Rattle.script_fields.specs.Fields.{fields_faults, list_in}
use Rattle.script_fields.specs.Outcome.{outcome}
use Rattle.script_json.specs.Reading.{placed_at, call_read, calls_read, held_list}
use Rattle.script_fields.specs.declared.faults.ScriptErr.{ScriptErr}
use Rattle.script_fields.specs.declared.faults.ScriptErr.TheVariants.{WrongKind, UnknownOp}

-- the next call of a list, those that it holds, and then the rest
pub placed-drop : (n holder : ℕ) (list : List Value) (i : ℕ) (d : Value) → i < length list
    → placed (items_view (drop i list)) n holder
    ≡ placed_at (n + 1) holder (view (get_or list i d))
    ∷ held_by (view (get_or list i d)) (n + 1)
    ++ placed (items_view (drop (i + 1) list)) (n + 1 + length (held_by (view (get_or list i d)) (n + 1))) holder
unfolding placed
placed-drop n holder list i d h = rw (add-one i, drop-cons list i d) refl

pub outcome_ok : {A : Type 0} (xs : List ScriptErr) (x y : A) → outcome xs x ≡ Ok y → (xs ≡ []) × (x ≡ y)
outcome_ok [] x y h = (refl, cc)
outcome_ok (fault ∷ faults) x y h = cc

pub outcome_err : {A B : Type 0} (xs : List ScriptErr) (x : A) (y : B) (e : ScriptErr) → outcome xs x ≡ Err e → outcome xs y ≡ Err e
outcome_err [] x y e h = cc
outcome_err (fault ∷ faults) x y e h = cc

pub outcome_of_none : {A B : Type 0} (xs : List ScriptErr) (x y : A) (value : B) → outcome xs x ≡ Ok y → outcome xs value ≡ Ok value
outcome_of_none [] x y value h = refl
outcome_of_none (fault ∷ faults) x y value h = cc

read_object : (clock : Clock) (call : Placed) (b : Bool) → (if b then name_faults clock call.ordinal call.value (name_in call.value) else WrongKind call.ordinal field.Call ∷ []) ≡ [] → b ≡ true
read_object clock call true h = refl
read_object clock call false h = cc

-- ---- one call

-- the fault of a field is the call's first
pub op_fault : (clock : Clock) (n : ℕ) (d : Data) (name : OpName) (e : ScriptErr) → outcome {A = ⊤} (fields_faults clock n d (fields_of name)) tt ≡ Err e
    → outcome {A = ⊤} (op_faults clock n d name) tt ≡ Err e
op_fault clock n d name e h = outcome_some _ _ tt e h

-- where no field has a fault, the first is one of several fields together
pub op_joint : (clock : Clock) (n : ℕ) (d : Data) (name : OpName) (done : ⊤) → outcome {A = ⊤} (fields_faults clock n d (fields_of name)) tt ≡ Ok done
    → outcome {A = ⊤} (op_faults clock n d name) tt ≡ outcome {A = ⊤} (joint_faults n d name) tt
op_joint clock n d name done h = outcome_none _ _ tt done h

pub call_read-no_object : (clock : Clock) (n holder : ℕ) (d : Data) → is_some (as_object d) ≡ false → call_read clock (placed_at n holder d) ≡ Err (WrongKind n field.Call)
unfolding call_read call_faults
call_read-no_object clock n holder d is_object = rw is_object refl

pub call_read-unknown : (clock : Clock) (n holder : ℕ) (d : Data) → is_some (as_object d) ≡ true → name_in d ≡ None → call_read clock (placed_at n holder d) ≡ Err (UnknownOp n)
unfolding call_read call_faults
call_read-unknown clock n holder d is_object name = rw (is_object, name) refl

pub call_read-named : (clock : Clock) (n holder : ℕ) (d : Data) (name : OpName) → is_some (as_object d) ≡ true → name_in d ≡ Some name
    → call_read clock (placed_at n holder d) ≡ outcome (op_faults clock n d name) (Some (record { ordinal = n; holder = holder; op = op_in clock name d }))
unfolding call_read call_faults call_of
call_read-named clock n holder d name is_object named = rw (is_object, named) refl

pub held_list-named : (d : Data) (name : OpName) → name_in d ≡ Some name → has_calls name ≡ true → held_list d ≡ list_in field.Then d
unfolding held_list
held_list-named d name named has = rw (named, has) refl

pub call_read-object : (clock : Clock) (call : Placed) (o : Option Call) → call_read clock call ≡ Ok o → is_some (as_object call.value) ≡ true
unfolding call_read call_faults
call_read-object clock call o h = read_object clock call (is_some (as_object call.value)) (outcome_ok _ _ _ h).0

-- ---- the calls that a call holds, as its list tells them

list_calls-placed : (d : Data) (n : ℕ) → list_calls d n ≡ placed (unwrap_or (as_array d) no_items) n n
unfolding placed
list_calls-placed null n = refl
list_calls-placed (boolean b) n = refl
list_calls-placed (number x) n = refl
list_calls-placed (string s) n = refl
list_calls-placed (array ds) n = refl
list_calls-placed (object ms) n = refl

then_calls-member : (o : Ordering) (key : List ℕ) (d : Data) (ms : Members) (n : ℕ)
    → then_calls ms n ≡ placed (unwrap_or (option_and_then as_array (get_member (field_word field.Then) ms)) no_items) n n
    → (if is_eq o then list_calls d n else then_calls ms n)
    ≡ placed (unwrap_or (option_and_then as_array (match_ordering o (get_member (field_word field.Then) ms) (Some d) (get_member (field_word field.Then) ms))) no_items) n n
then_calls-member Less key d ms n rest = rest
then_calls-member Equal key d ms n rest = list_calls-placed d n
then_calls-member Greater key d ms n rest = rest

then_calls-placed : (ms : Members) (n : ℕ) → then_calls ms n ≡ placed (unwrap_or (option_and_then as_array (get_member (field_word field.Then) ms)) no_items) n n
unfolding placed
then_calls-placed no_members n = refl
then_calls-placed (member key d ms) n = rw (← is_eq-slice_cmp (field_word field.Then) key) (then_calls-member (slice_cmp nat_cmp (field_word field.Then) key) key d ms n (then_calls-placed ms n))

placed_if : (b : Bool) (ms : Members) (n : ℕ) → (if b then then_calls ms n else []) ≡ placed (if b then list_in field.Then (object ms) else no_items) n n
unfolding placed
placed_if true ms n = then_calls-placed ms n
placed_if false ms n = refl

-- what a call holds is what its list places after it
pub held_by-placed : (d : Data) (n : ℕ) → is_some (as_object d) ≡ true → held_by d n ≡ placed (held_list d) n n
unfolding placed held_list
held_by-placed null n h = cc
held_by-placed (boolean b) n h = cc
held_by-placed (number x) n h = cc
held_by-placed (string s) n h = cc
held_by-placed (array ds) n h = cc
held_by-placed (object ms) n h = placed_if (has_then (name_in (object ms))) ms n

-- ---- the calls of a list

pub next_call : (clock : Clock) (before : List Call) (call : Placed) (calls : List Placed) (c : Call) → call_read clock call ≡ Ok (Some c)
    → calls_read clock before (call ∷ calls) ≡ calls_read clock (before ++ c ∷ []) calls
unfolding call_read calls_read
next_call clock before call calls c h = let e = outcome_ok _ _ _ h in rw (e.0, e.1, append_assoc) refl

pub call_fault : (clock : Clock) (before : List Call) (call : Placed) (calls : List Placed) (e : ScriptErr) → call_read clock call ≡ Err e
    → calls_read clock before (call ∷ calls) ≡ Err e
unfolding call_read calls_read
call_fault clock before call calls e h = outcome_some _ _ _ e (outcome_err _ _ _ e h)

pub calls_then : (clock : Clock) (before : List Call) (first second : List Placed) (after : List Call) → calls_read clock before first ≡ Ok after
    → calls_read clock before (first ++ second) ≡ calls_read clock after second
unfolding calls_read
calls_then clock before first second after h = let e = outcome_ok _ _ _ h in
    rw (flat_map-append (call_faults clock) first second, filter_map-append (call_of clock) first second, e.0, ← e.1, append_assoc) refl

pub calls_fault : (clock : Clock) (before : List Call) (first second : List Placed) (e : ScriptErr) → calls_read clock before first ≡ Err e
    → calls_read clock before (first ++ second) ≡ Err e
unfolding calls_read
calls_fault clock before first second e h = rw (flat_map-append (call_faults clock) first second) (outcome_some _ _ _ e (outcome_err _ _ _ e h))

abbrev meaning : Clock → Placed → Option OpName → Option Call
meaning clock call o = option_map (λ name. record { ordinal = call.ordinal; holder = call.holder; op = op_in clock name call.value }) o

named_call : (clock : Clock) (call : Placed) (o : Option OpName) → name_faults clock call.ordinal call.value o ≡ [] → is_some (meaning clock call o) ≡ true
named_call clock call None h = cc
named_call clock call (Some name) h = refl

object_call : (clock : Clock) (call : Placed) (b : Bool) → (if b then name_faults clock call.ordinal call.value (name_in call.value) else WrongKind call.ordinal field.Call ∷ []) ≡ []
    → is_some (meaning clock call (name_in call.value)) ≡ true
object_call clock call true h = named_call clock call (name_in call.value) h
object_call clock call false h = cc

-- a call without a fault is a call
pub is_call : (clock : Clock) (call : Placed) → call_faults clock call ≡ [] → is_some (call_of clock call) ≡ true
unfolding call_faults call_of
is_call clock call h = object_call clock call (is_some (as_object call.value)) h

pub both_none : {A : Type 0} (xs ys : List A) → xs ++ ys ≡ [] → (xs ≡ []) × (ys ≡ [])
both_none [] ys h = (refl, h)
both_none (x ∷ xs) ys h = cc

pub length-cons_option : {A : Type 0} (o : Option A) (xs : List A) → is_some o ≡ true → length (cons_option o xs) ≡ suc (length xs)
length-cons_option None xs h = cc
length-cons_option (Some x) xs h = refl

pub length-calls : (clock : Clock) (calls : List Placed) → flat_map (call_faults clock) calls ≡ [] → length (filter_map (call_of clock) calls) ≡ length calls
length-calls clock [] h = refl
length-calls clock (call ∷ calls) h = let e = both_none (call_faults clock call) (flat_map (call_faults clock) calls) h in
    length-cons_option (call_of clock call) (filter_map (call_of clock) calls) (is_call clock call e.0) ∙ ap suc (length-calls clock calls e.1)

pub length-calls_read : (clock : Clock) (before : List Call) (calls : List Placed) (after : List Call) → calls_read clock before calls ≡ Ok after
    → length after ≡ length before + length calls
unfolding calls_read
length-calls_read clock before calls after h = let e = outcome_ok _ _ _ h in
    rw (← e.1, length-append, length-calls clock calls e.0) refl

-- ---- the steps of reading a list

pub list_done : (clock : Clock) (before : List Call) (n holder i : ℕ) (list : List Value) → length list ≤ i
    → calls_read clock before (placed (items_view (drop i list)) n holder) ≡ Ok before
unfolding calls_read placed
list_done clock before n holder i list h = rw (drop_all i list h, append-nil) refl

pub item_fault : (clock : Clock) (before : List Call) (n holder i : ℕ) (list : List Value) (v : Value) (e : ScriptErr)
    → i < length list → v ≡ get_or list i v → n ≡ length before + 1 → call_read clock (placed_at n holder (view v)) ≡ Err e
    → calls_read clock before (placed (items_view (drop i list)) (length before) holder) ≡ Err e
item_fault clock before n holder i list v e h is n_is bad =
    rw (placed-drop (length before) holder list i v h, ← is, ← n_is) (call_fault clock _ _ _ e bad)

module _ (clock : Clock) (before with_call : List Call) (n holder i : ℕ) (list : List Value) (v : Value) (c : Call) (ds : Items)
    (h : i < length list) (is : v ≡ get_or list i v) (n_is : n ≡ length before + 1) (read : call_read clock (placed_at n holder (view v)) ≡ Ok (Some c))
    (with_is : with_call ≡ before ++ c ∷ []) (ds_is : ds ≡ held_list (view v)) where
  length_with : length with_call ≡ n
  length_with = rw (with_is, length-append, n_is) refl

  held_is : held_by (view v) n ≡ placed ds n n
  held_is = held_by-placed (view v) n (call_read-object clock _ _ read) ∙ ap (λ (ds : Items). placed ds n n) (sym ds_is)

  pub item_step : calls_read clock before (placed (items_view (drop i list)) (length before) holder)
      ≡ calls_read clock with_call (placed ds n n ++ placed (items_view (drop (i + 1) list)) (n + length (placed ds n n)) holder)
  item_step = rw (placed-drop (length before) holder list i v h, ← is, ← n_is, held_is, with_is) (next_call clock _ _ _ c read)

  pub item_held_fault : (e : ScriptErr) → calls_read clock with_call (placed ds (length with_call) n) ≡ Err e
      → calls_read clock before (placed (items_view (drop i list)) (length before) holder) ≡ Err e
  item_held_fault e bad = item_step ∙ calls_fault clock _ _ _ e (rw length_with at bad)

  pub item_done : (after : List Call) → calls_read clock with_call (placed ds (length with_call) n) ≡ Ok after
      → calls_read clock before (placed (items_view (drop i list)) (length before) holder)
      ≡ calls_read clock after (placed (items_view (drop (i + 1) list)) (length after) holder)
  item_done after good =
      let held = rw length_with at good in
      let count : length after ≡ n + length (placed ds n n) = length-calls_read clock _ _ after held ∙ ap (λ k. k + length (placed ds n n)) length_with in
      rw count (item_step ∙ calls_then clock _ _ _ after held)
