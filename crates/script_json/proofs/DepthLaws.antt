-- Lists of calls nest less deeply than the arrays and objects of their text.
use Rattle.std.proofs.Common.{◌≡◌, ◌<◌, ◌≤◌, ◌-◌, ℕ, zero, suc, List, [], ◌∷◌, length, get_or, Bool, true, false, Option, Some, arith}
use Rattle.std.specs.Prelude.{is_some, option_and_then, unwrap_or, if◌then◌else◌}
use Rattle.std.proofs.Common.{Ordering, Less, Equal, Greater}
use Rattle.std.specs.Ordering.{nat_cmp, match_ordering}
use Rattle.std.specs.Cmp.Lexicographic.{slice_cmp}
use Rattle.serde_json.specs.Data.{Data, null, boolean, number, string, array, object, Items, no_items, Members, no_members, member, depth, items_depth, members_depth}
use Rattle.serde_json.specs.Find.{get, get_member, as_array, as_object}
use Rattle.json_tree.specs.View.{view, items_view}
use Rattle.json_tree.specs.declared.values.Value.{Value}
use Rattle.script_ast.specs.Fields.{field_word}
use Rattle.script_ast.specs.declared.fields.Field.TheVariants as field
use Rattle.script_json.specs.Calls.{has_then, name_in}
use Rattle.script_json.specs.Reading.{held_list}
use Rattle.script_fields.specs.Fields.{list_in}
use Rattle.script_json.specs.Script.{main_list}

list_depth : (d : Data) → items_depth (unwrap_or (as_array d) no_items) ≤ depth d
list_depth null = omega arith
list_depth (boolean b) = omega arith
list_depth (number x) = omega arith
list_depth (string s) = omega arith
list_depth (array ds) = omega arith
list_depth (object ms) = omega arith

found_depth : (o : Ordering) (d : Data) (rest : Option Data) (n : ℕ) → depth d ≤ n → items_depth (unwrap_or (option_and_then as_array rest) no_items) ≤ n
    → items_depth (unwrap_or (option_and_then as_array (match_ordering o rest (Some d) rest)) no_items) ≤ n
found_depth Less d rest n this others = others
found_depth Equal d rest n this others = omega (arith, list_depth d)
found_depth Greater d rest n this others = others

member_depth : (key : List ℕ) (ms : Members) → items_depth (unwrap_or (option_and_then as_array (get_member key ms)) no_items) ≤ members_depth ms
member_depth key no_members = omega arith
member_depth key (member k d ms) = found_depth (slice_cmp nat_cmp key k) d (get_member key ms) _ (omega arith) (omega (arith, member_depth key ms))

-- an array that is a member nests less deeply than the object
pub get_depth : (key : List ℕ) (d : Data) → is_some (as_object d) ≡ true → items_depth (unwrap_or (option_and_then as_array (get key d)) no_items) < depth d
get_depth key null h = cc
get_depth key (boolean b) h = cc
get_depth key (number x) h = cc
get_depth key (string s) h = cc
get_depth key (array ds) h = cc
get_depth key (object ms) h = omega (arith, member_depth key ms)

held_test : (b : Bool) (d : Data) → is_some (as_object d) ≡ true → items_depth (if b then list_in field.Then d else no_items) < depth d
held_test true d h = get_depth (field_word field.Then) d h
held_test false d h = omega (arith, get_depth (field_word field.Then) d h)

pub held_depth : (d : Data) → is_some (as_object d) ≡ true → items_depth (held_list d) < depth d
unfolding held_list
held_depth d h = held_test (has_then (name_in d)) d h

pub main_depth : (d : Data) → is_some (as_object d) ≡ true → items_depth (main_list d) < depth d
unfolding main_list
main_depth d h = get_depth (field_word field.Calls) d h

-- an item nests no deeper than its list
pub item_depth : (list : List Value) (i : ℕ) (d : Value) → i < length list → depth (view (get_or list i d)) ≤ items_depth (items_view list)
item_depth [] i d h = absurd (omega arith)
item_depth (v ∷ list) zero d h = omega arith
item_depth (v ∷ list) (suc i) d h = let rest : i < length list = omega arith in omega (arith, item_depth list i d rest)

pub held_less : (list : List Value) (i : ℕ) (v : Value) (ds : Items) (deep : ℕ) → i < length list → v ≡ get_or list i v → ds ≡ held_list (view v)
    → is_some (as_object (view v)) ≡ true → items_depth (items_view list) < deep → items_depth ds < deep - 1
held_less list i v ds deep h is ds_is is_object less =
    let inner = held_depth (view v) is_object in
    let outer : depth (view v) ≤ items_depth (items_view list) = rw is (item_depth list i v h) in
    rw ds_is (omega arith)

pub main_less : (d : Data) (ds : Items) → ds ≡ main_list d → is_some (as_object d) ≡ true → depth d ≤ 127 → items_depth ds < 127
main_less d ds is is_object least = let inner = main_depth d is_object in rw is (omega arith)
