-- Every string of a JSON value that is read is a text.
use Rattle.std.proofs.Common.{◌≡◌, ℕ, List, [], ◌∷◌, map, Bor, Option, Some, None, Ordering, Less, Equal, Greater, subst, sym}
use Rattle.std.specs.Prelude.{option_and_then, unwrap_or}
use Rattle.std.specs.Ordering.{nat_cmp, match_ordering}
use Rattle.std.specs.Cmp.Lexicographic.{slice_cmp}
use Rattle.std.proofs.lemmas.Str.{IsUtf8-nil, is_utf8-from_IsUtf8}
use Rattle.serde_json.specs.Data.{Data, null, boolean, number, string, array, object, Items, no_items, item, Members, no_members, member, put}
use Rattle.serde_json.specs.Find.{get, get_member, as_array, as_str}
use Rattle.serde_json.specs.View.{items_of}
use Rattle.json_tree.specs.View.{view, view_step, puts}
use Rattle.json_tree.specs.declared.values.Value.{Value, map-Value}
use Rattle.json_tree.specs.declared.values.Value.TheOpen.{Value-F}
use Rattle.json_tree.specs.declared.values.Value.TheFolds.{ind-Value, fold-roll-Value}
use Rattle.script_ast.specs.Fields.{field_word}
use Rattle.script_ast.specs.Ranges.{IsText, IsTextIfSome}
use Rattle.script_ast.specs.declared.fields.Field.{Field}
use Rattle.script_ast.specs.declared.fields.Field.TheVariants as field
use Rattle.script_fields.specs.Fields.{member_at, text_in, text_or_null_in}
use Rattle.script_json.specs.Script.{main_list}

-- every string in it, at any depth, is a text
abbrev mutual
  pub HasTexts : Data → Type 0
  HasTexts null = Unit {0}
  HasTexts (boolean b) = Unit {0}
  HasTexts (number x) = Unit {0}
  HasTexts (string s) = IsText s
  HasTexts (array ds) = HaveTexts ds
  HasTexts (object ms) = HaveMemberTexts ms

  pub HaveTexts : Items → Type 0
  HaveTexts no_items = Unit {0}
  HaveTexts (item d ds) = HasTexts d × HaveTexts ds

  pub HaveMemberTexts : Members → Type 0
  HaveMemberTexts no_members = Unit {0}
  HaveMemberTexts (member key d ms) = HasTexts d × HaveMemberTexts ms

abbrev HasTextsIfSome : Option Data → Type 0
HasTextsIfSome None = Unit {0}
HasTextsIfSome (Some d) = HasTexts d

-- ---- its members

found_texts : (o : Ordering) (d : Data) (rest : Option Data) → HasTexts d → HasTextsIfSome rest → HasTextsIfSome (match_ordering o rest (Some d) rest)
found_texts Less d rest this others = others
found_texts Equal d rest this others = this
found_texts Greater d rest this others = others

member_texts : (key : List ℕ) (ms : Members) → HaveMemberTexts ms → HasTextsIfSome (get_member key ms)
member_texts key no_members texts = tt
member_texts key (member k d ms) texts = found_texts (slice_cmp nat_cmp key k) d (get_member key ms) texts.0 (member_texts key ms texts.1)

get_texts : (key : List ℕ) (d : Data) → HasTexts d → HasTextsIfSome (get key d)
get_texts key null texts = tt
get_texts key (boolean b) texts = tt
get_texts key (number x) texts = tt
get_texts key (string s) texts = tt
get_texts key (array ds) texts = tt
get_texts key (object ms) texts = member_texts key ms texts

no_text : IsText []
no_text = is_utf8-from_IsUtf8 [] IsUtf8-nil

text_of : (o : Option Data) → HasTextsIfSome o → IsText (unwrap_or (option_and_then as_str o) [])
text_of None texts = no_text
text_of (Some null) texts = no_text
text_of (Some (boolean b)) texts = no_text
text_of (Some (number x)) texts = no_text
text_of (Some (string s)) texts = texts
text_of (Some (array ds)) texts = no_text
text_of (Some (object ms)) texts = no_text

text_if : (o : Option Data) → HasTextsIfSome o → IsTextIfSome (option_and_then as_str o)
text_if None texts = tt
text_if (Some null) texts = tt
text_if (Some (boolean b)) texts = tt
text_if (Some (number x)) texts = tt
text_if (Some (string s)) texts = texts
text_if (Some (array ds)) texts = tt
text_if (Some (object ms)) texts = tt

pub text_in-text : (field : Field) (d : Data) → HasTexts d → IsText (text_in field d)
unfolding text_in
text_in-text field d texts = text_of (member_at field d) (get_texts (field_word field) d texts)

pub text_or_null_in-text : (field : Field) (d : Data) → HasTexts d → IsTextIfSome (text_or_null_in field d)
unfolding text_or_null_in
text_or_null_in-text field d texts = text_if (member_at field d) (get_texts (field_word field) d texts)

-- ---- its lists

list_texts : (o : Option Data) → HasTextsIfSome o → HaveTexts (unwrap_or (option_and_then as_array o) no_items)
list_texts None texts = tt
list_texts (Some null) texts = tt
list_texts (Some (boolean b)) texts = tt
list_texts (Some (number x)) texts = tt
list_texts (Some (string s)) texts = tt
list_texts (Some (array ds)) texts = texts
list_texts (Some (object ms)) texts = tt

pub main_texts : (d : Data) → HasTexts d → HaveTexts (main_list d)
unfolding main_list
main_texts d texts = list_texts (member_at field.Calls d) (get_texts (field_word field.Calls) d texts)

pub main_texts_of : (d : Data) (ds : Items) → ds ≡ main_list d → HasTexts d → HaveTexts ds
main_texts_of d ds is texts = subst HaveTexts (sym is) (main_texts d texts)

-- ---- a value

abbrev ViewTexts : Value → Type 0
ViewTexts v = HasTexts (view v)

put_texts_at : (o : Ordering) (key k : List ℕ) (d e : Data) (ms more : Members) → HasTexts d → HasTexts e × HaveMemberTexts ms → HaveMemberTexts more
    → HaveMemberTexts (match_ordering o (member key d (member k e ms)) (member k d ms) (member k e more))
put_texts_at Less key k d e ms more this others rest = (this, others)
put_texts_at Equal key k d e ms more this others rest = (this, others.1)
put_texts_at Greater key k d e ms more this others rest = (others.0, rest)

put_texts : (key : List ℕ) (d : Data) (ms : Members) → HasTexts d → HaveMemberTexts ms → HaveMemberTexts (put key d ms)
put_texts key d no_members this others = (this, tt)
put_texts key d (member k e ms) this others = put_texts_at (slice_cmp nat_cmp key k) key k d e ms (put key d ms) this others (put_texts key d ms this others.1)

-- a value with its texts
abbrev Told : Type 0
Told = (v : Value) × ViewTexts v

items_texts : (es : List Told) → HaveTexts (items_of (map view (map (λ (e : Told). e.0) es)))
items_texts [] = tt
items_texts (e ∷ es) = (e.1, items_texts es)

puts_texts : (es : List (Bor (List ℕ) × Told)) (found : Members) → HaveMemberTexts found
    → HaveMemberTexts (puts (map (λ (m : Bor (List ℕ) × Value). (m.0, view m.1)) (map (λ (m : Bor (List ℕ) × Told). (m.0, m.1.0)) es)) found)
puts_texts [] found texts = texts
puts_texts (e ∷ es) found texts = puts_texts es (put e.0.now (view e.1.0) found) (put_texts e.0.now (view e.1.0) found e.1.1 texts)

layer_texts : (y : Value-F Told) → HasTexts (view_step (map-Value Value Data view (map-Value Told Value (λ (e : Told). e.0) y)))
layer_texts Value-F.Null = tt
layer_texts (Value-F.Bool b) = tt
layer_texts (Value-F.Number x) = tt
layer_texts (Value-F.String s) = s.utf8
layer_texts (Value-F.Array v) = items_texts v.items
layer_texts (Value-F.Object v) = puts_texts v.items no_members tt

pub view_texts : (v : Value) → HasTexts (view v)
view_texts = ind-Value ViewTexts (λ x y is.
    subst HasTexts (sym (fold-roll-Value Data view_step x)) (subst (λ z. HasTexts (view_step (map-Value Value Data view z))) is (layer_texts y)))
