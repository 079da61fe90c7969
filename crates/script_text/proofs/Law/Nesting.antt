-- The text of a script that was read nests no deeper than what was read.
use Rattle.std.proofs.Common.{◌≡◌, ◌<◌, ◌≤◌, ◌+◌, ◌*◌, ◌==◌, ◌⊎◌, ℕ, suc, max, List, [], ◌∷◌, ◌++◌, length, Bool, true, false, inl, inr, Option, Some, None, Ok, Ordering, Less, Equal, Greater, refl, sym, ap, ◌∙◌, arith, append_assoc, append-nil, length-append, ne_eqb, eq-eqb}
use Rattle.std.specs.Prelude.{⊤, ◌&&◌, nat_le, flat_map, filter_map, is_some, option_map, option_and_then, unwrap_or, bytes_eq, if◌then◌else◌}
use Rattle.std.specs.List.{cons_option}
use Rattle.std.specs.Ordering.{nat_cmp, match_ordering}
use Rattle.std.specs.Str.{is_utf8}
use Rattle.std.specs.Cmp.Lexicographic.{slice_cmp}
use Rattle.std.proofs.lemmas.Bool.{leb-true}
use Rattle.std.proofs.lemmas.Grind.{flat_map-append}
use Rattle.std.proofs.lemmas.List.Elements.{filter_map-append}
use Rattle.serde_json.proofs.Nesting.{depth-read}
use Rattle.serde_json.specs.Data.{Data, null, boolean, number, string, array, object, Items, no_items, item, Members, no_members, member, depth, items_depth, members_depth}
use Rattle.serde_json.specs.Find.{get_member, as_array, as_object}
use Rattle.serde_json.specs.Read.{read}
use Rattle.wa_base.specs.Contexts.{has_channels, has_length, has_quantum, is_supported}
use Rattle.wa_base.specs.declared.contexts.ContextSpec.{ContextSpec}
use Rattle.script_ast.specs.Fields.{field_word}
use Rattle.script_ast.specs.Holders.{holds_calls}
use Rattle.script_ast.specs.declared.call_list.Call.{Call}
use Rattle.script_ast.specs.declared.call_list.Script.{Script}
use Rattle.script_ast.specs.declared.clocks.Clock.{Clock}
use Rattle.script_ast.specs.declared.entries.OpName.{OpName}
use Rattle.script_ast.specs.declared.fields.Field.TheVariants as field
use Rattle.script_fields.specs.Outcome.{outcome}
use Rattle.script_fields.specs.declared.faults.ScriptErr.{ScriptErr}
use Rattle.script_fields.specs.declared.faults.ScriptErr.TheVariants as fault
use Rattle.script_json.specs.Calls.{Placed, placed, held_by, then_calls, list_calls, has_then, name_in, call_faults, call_of, name_faults, op_in}
use Rattle.script_json.specs.Reading.{placed_at}
use Rattle.script_json.specs.Script.{clock_of, main_list, calls_of, head_faults, script_faults, script_in, script_or_fault, script_of}
use Rattle.script_json.specs.Tree.{json_of}
use Rattle.script_text.specs.Laws.{ReadTextableLaw}
use Rattle.script_text.specs.Members.{count}
use Rattle.script_text.specs.Text.{call_data, held_calls, context_data, data_of}
use Rattle.script_text.proofs.Law.Shallow.{none, held_depth, object_depth, has_list, call_depth, both_none, listed}
use Rattle.script_text.proofs.Law.Tree.{skipped, taken, nothing}

-- ---- calls that are read

both_none_at : (clock : Clock) (held rest : List Placed) → flat_map (call_faults clock) (held ++ rest) ≡ [] → (flat_map (call_faults clock) held ≡ []) × (flat_map (call_faults clock) rest ≡ [])
both_none_at clock held rest h = both_none (flat_map (call_faults clock) held) (flat_map (call_faults clock) rest) (rw (flat_map-append (call_faults clock) held rest) at h)

base_most : (b l : Bool) (held d : ℕ) → (l ≡ true → 2 ≤ d) → 1 ≤ d → suc (if b then held else (if l then 1 else 0)) ≤ max d (suc held)
base_most true l held d two one = omega arith
base_most false true held d two one = let most = two refl in omega arith
base_most false false held d two one = omega arith

object_one : (d : Data) → is_some (as_object d) ≡ true → 1 ≤ depth d
object_one null h = cc
object_one (boolean b) h = cc
object_one (number x) h = cc
object_one (string s) h = cc
object_one (array ds) h = cc
object_one (object ms) h = omega arith

-- how deep the calls nest at most that a value holds
abbrev held_bound : Data → ℕ
held_bound null = 0
held_bound (boolean b) = 0
held_bound (number x) = 0
held_bound (string s) = 0
held_bound (array ds) = 0
held_bound (object ms) = members_depth ms

held_bound_most : (d : Data) → suc (held_bound d) ≤ max 1 (depth d)
held_bound_most null = omega arith
held_bound_most (boolean b) = omega arith
held_bound_most (number x) = omega arith
held_bound_most (string s) = omega arith
held_bound_most (array ds) = omega arith
held_bound_most (object ms) = omega arith

module _ (clock : Clock) (rate : ℕ) where
  -- what a placed call is read as
  record IsReadAs (p : Placed) (c : Call) : Type 0 where
    ordinal : c.ordinal ≡ p.ordinal
    holder : c.holder ≡ p.holder
    some : 1 ≤ depth p.value
    most : (held : Items) → depth (call_data rate held c.op) ≤ max (depth p.value) (suc (held_depth held))

  abbrev IsRead : Placed → Option Call → Type 0
  IsRead p None = ⊥
  IsRead p (Some c) = IsReadAs p c

  abbrev meaning : Placed → Option OpName → Option Call
  meaning p o = option_map (λ (name : OpName). record { ordinal = p.ordinal; holder = p.holder; op = op_in clock name p.value }) o

  read_named : (p : Placed) (o : Option OpName) → is_some (as_object p.value) ≡ true → name_faults clock p.ordinal p.value o ≡ [] → IsRead p (meaning p o)
  read_named p None is h = cc
  read_named p (Some name) is h =
      let one = object_one p.value is in
      record {
        ordinal = refl;
        holder = refl;
        some = one;
        most = λ (held : Items).
            let two = listed clock p.ordinal p.value name (both_none _ _ h).0 in
            let deep = call_depth rate held (op_in clock name p.value) in
            let bound = base_most (holds_calls (op_in clock name p.value)) (has_list (op_in clock name p.value)) (held_depth held) (depth p.value) two one in
            omega (arith, deep, bound);
      }

  read_object : (p : Placed) (b : Bool) → is_some (as_object p.value) ≡ b
      → (if b then name_faults clock p.ordinal p.value (name_in p.value) else fault.WrongKind p.ordinal field.Call ∷ []) ≡ [] → IsRead p (meaning p (name_in p.value))
  read_object p true is h = read_named p (name_in p.value) is h
  read_object p false is h = cc

  is_read : (p : Placed) → call_faults clock p ≡ [] → IsRead p (call_of clock p)
  unfolding call_faults call_of
  is_read p h = read_object p (is_some (as_object p.value)) refl h

  abbrev calls_in : List Placed → List Call
  calls_in list = filter_map (call_of clock) list

  abbrev HasNoFault : List Placed → Type 0
  HasNoFault list = flat_map (call_faults clock) list ≡ []

  -- no call has one of these holders
  abbrev HoldNone : ℕ → ℕ → List Call → Type 0
  HoldNone least most calls = (g : ℕ) → least ≤ g → g ≤ most → held_calls rate g calls ≡ no_items

  -- each call has this holder, or one past the number
  abbrev AreHeldIn : ℕ → ℕ → List Placed → Type 0
  AreHeldIn h m [] = ⊤
  AreHeldIn h m (p ∷ list) = ((p.holder ≡ h) ⊎ (m < p.holder)) × AreHeldIn h m list

  held_append : (h m : ℕ) (xs ys : List Placed) → AreHeldIn h m xs → AreHeldIn h m ys → AreHeldIn h m (xs ++ ys)
  held_append h m [] ys first second = second
  held_append h m (p ∷ xs) ys first second = (first.0, held_append h m xs ys first.1 second)

  held_wider : (h m n : ℕ) (xs : List Placed) → m ≤ n → AreHeldIn h n xs → AreHeldIn h m xs
  held_wider h m n [] le is = tt
  held_wider h m n (p ∷ xs) le is = (elim (is.0) [ inl same ↦ inl same | inr past ↦ inr (omega arith) ], held_wider h m n xs le is.1)

  held_inner : (h m : ℕ) (xs : List Placed) → AreHeldIn (m + 1) (m + 1) xs → AreHeldIn h m xs
  held_inner h m [] is = tt
  held_inner h m (p ∷ xs) is = (elim (is.0) [ inl same ↦ inr (omega arith) | inr past ↦ inr (omega arith) ], held_inner h m xs is.1)

  is_other : (g h m x : ℕ) → ((x ≡ h) ⊎ (m < x)) → (g ≡ h → ⊥) → g ≤ m → (x == g) ≡ false
  is_other g h m x (inl same) apart le = ne_eqb x g (λ e. apart (sym e ∙ same))
  is_other g h m x (inr past) apart le = ne_eqb x g (λ e. omega arith)

  skip_next : (g : ℕ) (p : Placed) (o : Option Call) (calls : List Call) → IsRead p o → (p.holder == g) ≡ false → held_calls rate g (cons_option o calls) ≡ held_calls rate g calls
  skip_next g p None calls is other = absurd is
  skip_next g p (Some c) calls is other = skipped rate g c calls (rw (is.holder) other)

  cons_append : (o : Option Call) (xs ys : List Call) → cons_option o xs ++ ys ≡ cons_option o (xs ++ ys)
  cons_append None xs ys = refl
  cons_append (Some c) xs ys = refl

  -- calls with other holders are left out
  skip_read : (g h m : ℕ) (list : List Placed) (more : List Call) → HasNoFault list → AreHeldIn h m list → (g ≡ h → ⊥) → g ≤ m → held_calls rate g (calls_in list ++ more) ≡ held_calls rate g more
  skip_read g h m [] more fine is apart le = refl
  skip_read g h m (p ∷ list) more fine is apart le =
      let parts = both_none (call_faults clock p) (flat_map (call_faults clock) list) fine in
      ap (held_calls rate g) (cons_append (call_of clock p) (calls_in list) more)
      ∙ skip_next g p (call_of clock p) (calls_in list ++ more) (is_read p parts.0) (is_other g h m p.holder is.0 apart le)
      ∙ skip_read g h m list more parts.1 is.1 apart le

  -- ---- lists and values

  record IsListRead (ds : Items) (h m : ℕ) (list : List Placed) : Type 0 where
    held_in : AreHeldIn h m list
    shallow : HasNoFault list → (more : List Call) → HoldNone h (m + length list) more → items_depth (held_calls rate h (calls_in list ++ more)) ≤ items_depth ds

  record IsValueRead (bound n : ℕ) (list : List Placed) : Type 0 where
    held_in : AreHeldIn n n list
    shallow : HasNoFault list → (more : List Call) → HoldNone n (n + length list) more → held_depth (held_calls rate n (calls_in list ++ more)) ≤ bound

  next_shallow : (d : Data) (n h m : ℕ) (o : Option Call) (first second more : List Call) → IsRead (placed_at (n + 1) h d) o
      → suc (held_depth (held_calls rate (n + 1) (first ++ (second ++ more)))) ≤ max 1 (depth d)
      → held_calls rate h (first ++ (second ++ more)) ≡ held_calls rate h (second ++ more)
      → items_depth (held_calls rate h (second ++ more)) ≤ m
      → items_depth (held_calls rate h (cons_option o (first ++ second) ++ more)) ≤ max (depth d) m
  next_shallow d n h m None first second more is inner same outer = absurd is
  next_shallow d n h m (Some c) first second more is inner same outer =
      let assoc = append_assoc first second more in
      let whole : held_calls rate h (c ∷ ((first ++ second) ++ more)) ≡ item (call_data rate (held_calls rate (n + 1) (first ++ (second ++ more))) c.op) (held_calls rate h (second ++ more)) =
      ap (λ (l : List Call). held_calls rate h (c ∷ l)) assoc ∙ taken rate h c (first ++ (second ++ more)) (eq-eqb c.holder h is.holder)
      ∙ (λ t. item (call_data rate (held_calls rate (is.ordinal t) (first ++ (second ++ more))) c.op) (same t)) in
      let deep = is.most (held_calls rate (n + 1) (first ++ (second ++ more))) in
      let one = is.some in
      rw whole (omega (arith, deep, inner, outer, one))

  none_read : (bound n : ℕ) → IsValueRead bound n []
  none_read bound n = record {
    held_in = tt;
    shallow = λ (fine : HasNoFault []) (more : List Call) (none : HoldNone n (n + 0) more).
        let empty : held_calls rate n more ≡ no_items = none n (omega arith) (omega arith) in
        rw empty (omega arith);
  }

  value_if : (b : Bool) (bound n : ℕ) (list : List Placed) → IsValueRead bound n list → IsValueRead bound n (if b then list else [])
  value_if true bound n list is = is
  value_if false bound n list is = none_read bound n

  value_more : (low high n : ℕ) (list : List Placed) → low ≤ high → IsValueRead low n list → IsValueRead high n list
  value_more low high n list le is = record {
    held_in = is.held_in;
    shallow = λ (fine : HasNoFault list) (more : List Call) (none : HoldNone n (n + length list) more). let h = is.shallow fine more none in omega arith;
  }

  either_read : (b : Bool) (one other n : ℕ) (xs ys : List Placed) → IsValueRead one n xs → IsValueRead other n ys → IsValueRead (max one other) n (if b then xs else ys)
  either_read true one other n xs ys first second = value_more one (max one other) n xs (omega arith) first
  either_read false one other n xs ys first second = value_more other (max one other) n ys (omega arith) second

  held_most : (ds : Items) → held_depth ds ≤ suc (items_depth ds)
  held_most no_items = omega arith
  held_most (item d ds) = omega arith

  list_as_value : (ds : Items) (n : ℕ) (list : List Placed) → IsListRead ds n n list → IsValueRead (suc (items_depth ds)) n list
  list_as_value ds n list is = record {
    held_in = is.held_in;
    shallow = λ (fine : HasNoFault list) (more : List Call) (none : HoldNone n (n + length list) more).
        let h = is.shallow fine more none in
        let most = held_most (held_calls rate n (calls_in list ++ more)) in
        omega arith;
  }

  empty_at : (n h : ℕ) (more : List Call) → h ≤ n → HoldNone h (n + 0) more → items_depth (held_calls rate h more) ≤ 0
  empty_at n h more early none = let empty : held_calls rate h more ≡ no_items = none h (omega arith) (omega arith) in rw empty (omega arith)

  empty_list : (n h : ℕ) → h ≤ n → IsListRead no_items h n []
  empty_list n h early = record {
    held_in = tt;
    shallow = λ (fine : HasNoFault []) (more : List Call) (none : HoldNone h (n + 0) more).
        empty_at n h more early none;
  }

  next_list : (d : Data) (ds : Items) (n h : ℕ) (held rest : List Placed) → h ≤ n → IsValueRead (held_bound d) (n + 1) held → IsListRead ds h (n + 1 + length held) rest
      → IsListRead (item d ds) h n (placed_at (n + 1) h d ∷ held ++ rest)
  next_list d ds n h held rest early inner outer = record {
    held_in = (inl refl, held_append h n held rest (held_inner h n held inner.held_in) (held_wider h n (n + 1 + length held) rest (omega arith) outer.held_in));
    shallow = λ (fine : HasNoFault (placed_at (n + 1) h d ∷ held ++ rest)) (more : List Call) (none : HoldNone h (n + suc (length (held ++ rest))) more).
        let this = both_none (call_faults clock (placed_at (n + 1) h d)) (flat_map (call_faults clock) (held ++ rest)) fine in
        let others = both_none_at clock held rest this.1 in
        let size = length-append held rest in
        let none_inner : HoldNone (n + 1) (n + 1 + length held) (calls_in rest ++ more) = λ (g : ℕ) (least : n + 1 ≤ g) (most : g ≤ n + 1 + length held).
        skip_read g h (n + 1 + length held) rest more others.1 outer.held_in (λ e. omega arith) most ∙ none g (omega arith) (omega arith) in
        let none_outer : HoldNone h (n + 1 + length held + length rest) more = λ (g : ℕ) (least : h ≤ g) (most : g ≤ n + 1 + length held + length rest). none g least (omega arith) in
        let deep = inner.shallow others.0 (calls_in rest ++ more) none_inner in
        let bound = held_bound_most d in
        let first : suc (held_depth (held_calls rate (n + 1) (calls_in held ++ (calls_in rest ++ more)))) ≤ max 1 (depth d) = omega (arith, deep, bound) in
        let same = skip_read h (n + 1) (n + 1) held (calls_in rest ++ more) others.0 inner.held_in (λ e. omega arith) (omega arith) in
        let tail = outer.shallow others.1 more none_outer in
        rw (filter_map-append (call_of clock) held rest)
        (next_shallow d n h (items_depth ds) (call_of clock (placed_at (n + 1) h d)) (calls_in held) (calls_in rest) more (is_read (placed_at (n + 1) h d) this.0) first same tail);
  }

  mutual
    unfolding placed

    list_read : (ds : Items) (n h : ℕ) → h ≤ n → IsListRead ds h n (placed ds n h)
    list_read no_items n h early = empty_list n h early
    list_read (item d ds) n h early =
        let later : h ≤ n + 1 + length (held_by d (n + 1)) = omega arith in
        next_list d ds n h (held_by d (n + 1)) (placed ds (n + 1 + length (held_by d (n + 1))) h) early (held_read d (n + 1)) (list_read ds (n + 1 + length (held_by d (n + 1))) h later)

    held_read : (d : Data) (n : ℕ) → IsValueRead (held_bound d) n (held_by d n)
    held_read null n = none_read 0 n
    held_read (boolean b) n = none_read 0 n
    held_read (number x) n = none_read 0 n
    held_read (string s) n = none_read 0 n
    held_read (array ds) n = none_read 0 n
    held_read (object ms) n = value_if (has_then (name_in (object ms))) (members_depth ms) n (then_calls ms n) (then_read ms n)

    then_read : (ms : Members) (n : ℕ) → IsValueRead (members_depth ms) n (then_calls ms n)
    then_read no_members n = none_read 0 n
    then_read (member key d ms) n = either_read (bytes_eq (field_word field.Then) key) (depth d) (members_depth ms) n (list_calls d n) (then_calls ms n) (array_read d n) (then_read ms n)

    array_read : (d : Data) (n : ℕ) → IsValueRead (depth d) n (list_calls d n)
    array_read null n = none_read 0 n
    array_read (boolean b) n = none_read 0 n
    array_read (number x) n = none_read 0 n
    array_read (string s) n = none_read 0 n
    array_read (array ds) n = let here : n ≤ n = omega arith in list_as_value ds n (placed ds n n) (list_read ds n n here)
    array_read (object ms) n = none_read (suc (members_depth ms)) n

  -- the calls of a document
  main_shallow : (ds : Items) → HasNoFault (placed ds 0 0) → items_depth (held_calls rate 0 (calls_in (placed ds 0 0))) ≤ items_depth ds
  main_shallow ds fine =
      let here : 0 ≤ 0 = omega arith in
      let is = list_read ds 0 0 here in
      let h = is.shallow fine [] (λ (g : ℕ) (least : 0 ≤ g) (most : g ≤ 0 + length (placed ds 0 0)). nothing rate g) in
      rw (append-nil (calls_in (placed ds 0 0))) at h

-- ---- the whole script

list_least : (d : Data) → suc (items_depth (unwrap_or (as_array d) no_items)) ≤ max 1 (depth d)
list_least null = omega arith
list_least (boolean b) = omega arith
list_least (number x) = omega arith
list_least (string s) = omega arith
list_least (array ds) = omega arith
list_least (object ms) = omega arith

found_list : (o : Ordering) (d : Data) (rest : Option Data) (m : ℕ) → suc (items_depth (unwrap_or (option_and_then as_array rest) no_items)) ≤ max 1 m
    → suc (items_depth (unwrap_or (option_and_then as_array (match_ordering o rest (Some d) rest)) no_items)) ≤ max 1 (max (depth d) m)
found_list Less d rest m h = omega arith
found_list Equal d rest m h = omega (arith, list_least d)
found_list Greater d rest m h = omega arith

list_member : (key : List ℕ) (ms : Members) → suc (items_depth (unwrap_or (option_and_then as_array (get_member key ms)) no_items)) ≤ max 1 (members_depth ms)
list_member key no_members = omega arith
list_member key (member k d ms) = found_list (slice_cmp nat_cmp key k) d (get_member key ms) (members_depth ms) (list_member key ms)

main_two : (d : Data) → suc (suc (items_depth (main_list d))) ≤ max 2 (depth d)
unfolding main_list
main_two null = omega arith
main_two (boolean b) = omega arith
main_two (number x) = omega arith
main_two (string s) = omega arith
main_two (array ds) = omega arith
main_two (object ms) = omega (arith, list_member (field_word field.Calls) ms)

pub text_depth : (script : Script) → depth (data_of script) ≤ suc (max 1 (suc (items_depth (held_calls script.context.rate 0 script.calls))))
unfolding data_of
text_depth script =
    let context = object_depth 0 ((field.Channels, count script.context.channels) ∷ (field.Length, count script.context.length) ∷ (field.Rate, count script.context.rate)
    ∷ (field.RenderQuantum, count script.context.quantum) ∷ []) (none, (none, (none, (none, tt)))) in
    object_depth (max 1 (suc (items_depth (held_calls script.context.rate 0 script.calls))))
    ((field.Version, count 2) ∷ (field.Context, context_data script.context) ∷ (field.Calls, array (held_calls script.context.rate 0 script.calls)) ∷ [])
    (none, (omega (arith, context), (omega arith, tt)))

outcome_ok : (faults : List ScriptErr) (value script : Script) → outcome faults value ≡ Ok script → (faults ≡ []) × (value ≡ script)
outcome_ok [] value script h = (refl, cc)
outcome_ok (x ∷ faults) value script h = cc

value_depth : (d : Data) (script : Script) → depth d ≤ 127 → outcome (script_faults d) (script_in d) ≡ Ok script → depth (data_of script) ≤ 127
unfolding script_faults script_in calls_of
value_depth d script most read =
    let e = outcome_ok _ _ _ read in
    let fine = both_none (head_faults d) (flat_map (call_faults (clock_of d)) (placed (main_list d) 0 0)) e.0 in
    let same : filter_map (call_of (clock_of d)) (placed (main_list d) 0 0) ≡ script.calls = ap (λ (s : Script). s.calls) e.1 in
    let inner = main_shallow (clock_of d) script.context.rate (main_list d) fine.1 in
    let shallow : items_depth (held_calls script.context.rate 0 script.calls) ≤ items_depth (main_list d) = rw (← same) inner in
    omega (arith, shallow, main_two d, text_depth script)

option_depth : (o : Option Data) (script : Script) → ((d : Data) → o ≡ Some d → depth d ≤ 127) → script_or_fault o ≡ Ok script → depth (data_of script) ≤ 127
option_depth None script most h = cc
option_depth (Some d) script most h = value_depth d script (most d refl) h

read_at : (bytes : List ℕ) (b : Bool) (d : Data) → (if b then read bytes else None) ≡ Some d → depth d ≤ 127
read_at bytes true d h = depth-read bytes d h
read_at bytes false d h = cc

json_depth : (bytes : List ℕ) (d : Data) → json_of bytes ≡ Some d → depth d ≤ 127
unfolding json_of
json_depth bytes d h = read_at bytes (is_utf8 bytes) d h

pub read_depth : (bytes : List ℕ) (script : Script) → script_of bytes ≡ Ok script → depth (data_of script) ≤ 127
read_depth bytes script h = option_depth (json_of bytes) script (λ (d : Data) (e : json_of bytes ≡ Some d). json_depth bytes d e) h

-- ---- the law

supported_rate : (a b low high d e : Bool) → (((a && b) && (low && high)) && d) && e ≡ true → (low ≡ true) × (high ≡ true)
supported_rate true true true true d e h = (refl, refl)
supported_rate true true true false d e h = cc
supported_rate true true false high d e h = cc
supported_rate true false low high d e h = cc
supported_rate false b low high d e h = cc

rate_of : (context : ContextSpec) → is_supported context ≡ true → (8000 ≤ context.rate) × (context.rate ≤ 96000)
unfolding is_supported
rate_of context h =
    let both = supported_rate (has_channels context) (has_length context) (nat_le 8000 context.rate) (nat_le context.rate 96000) (nat_le (context.channels * context.length) 67108864) (has_quantum context) h in
    (leb-true 8000 context.rate both.0, leb-true context.rate 96000 both.1)

-- a script that was read has a text
pub read_textable : ReadTextableLaw
read_textable bytes script h is supported =
    let rate = rate_of script.context supported in
    record { well_formed = is; rate_low = rate.0; rate_high = rate.1; nesting = read_depth bytes script h }
