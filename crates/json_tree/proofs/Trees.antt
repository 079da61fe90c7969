-- A value, level by level, and items and members that come after others.
use Rattle.std.proofs.Common.{◌≡◌, ℕ, List, [], ◌∷◌, ◌++◌, map, Bool, true, false, cond, Option, Some, None, Vec, Global, Bor, bytes_eq, true≢false, refl, sym, ap, ◌∙◌, rules}
use Rattle.std.proofs.lemmas.Slice.Eq.{bytes_eq-Decides}
use Rattle.json.specs.Token.{Token}
use Rattle.json.specs.Json.{parse_map}
use Rattle.serde_json.specs.Data.{Data, null, boolean, number, string, array, object, Items, no_items, item, Members, put}
use Rattle.serde_json.specs.Find.{get_member}
use Rattle.serde_json.proofs.Views.{get_member-put, get_member-put_other}
use Rattle.json_tree.specs.View.{view, number_view, puts, items_view, members_view}
use Rattle.json_tree.specs.declared.numbers.Number.{Number}
use Rattle.json_tree.specs.declared.texts.Text.{Text}
use Rattle.json_tree.specs.declared.values.Value.{Value, the_lemmas}
use Rattle.json_tree.specs.declared.values.Value as tree

-- a name with its value
abbrev pub Entry : Type 0
Entry = Bor (List ℕ) × Value

pub view-Null : view tree.Null ≡ null
view-Null = search (rules, the_lemmas)

pub view-Bool : (b : Bool) → view (tree.Bool b) ≡ boolean b
view-Bool b = search (rules, the_lemmas)

pub view-Number : (x : Number) → view (tree.Number x) ≡ number (number_view x)
view-Number x = search (rules, the_lemmas)

pub view-String : (s : Text) → view (tree.String s) ≡ string s.text.now
view-String s = search (rules, the_lemmas)

pub view-Array : (v : Vec Value Global) → view (tree.Array v) ≡ array (items_view v.items)
view-Array v = search (rules, the_lemmas)

pub view-Object : (v : Vec Entry Global) → view (tree.Object v) ≡ object (members_view v.items)
view-Object v = search (rules, the_lemmas)

-- ---- items

-- items, and then others
abbrev pub and_items : List Value → Items → Items
and_items [] rest = rest
and_items (v ∷ vs) rest = item (view v) (and_items vs rest)

pub and_no_items : (vs : List Value) → and_items vs no_items ≡ items_view vs
and_no_items [] = refl
and_no_items (v ∷ vs) = ap (item (view v)) (and_no_items vs)

one_of_rest : (vs : List Value) (v : Value) (rest : Items) → and_items vs (item (view v) rest) ≡ and_items (vs ++ v ∷ []) rest
one_of_rest [] v rest = refl
one_of_rest (x ∷ vs) v rest = ap (item (view x)) (one_of_rest vs v rest)

-- the first of the rest goes to those before it
pub next_item : (vs : List Value) (v : Value) (r : Option (Items × List Token)) → parse_map (and_items vs) (parse_map (item (view v)) r) ≡ parse_map (and_items (vs ++ v ∷ [])) r
next_item vs v None = refl
next_item vs v (Some p) = ap (λ ds. Some (ds, p.1)) (one_of_rest vs v p.0)

pub after_no_items : (r : Option (Items × List Token)) → r ≡ parse_map (and_items []) r
after_no_items None = refl
after_no_items (Some p) = refl

-- ---- members

put_after : (es : List Entry) (e : Entry) (found : Members) → puts (map (λ (m : Entry). (m.0, view m.1)) (es ++ e ∷ [])) found ≡ put e.0.now (view e.1) (puts (map (λ (m : Entry). (m.0, view m.1)) es) found)
put_after [] e found = refl
put_after (x ∷ es) e found = put_after es e (put x.0.now (view x.1) found)

-- the last member is put into those before it
pub next_member : (es : List Entry) (e : Entry) → members_view (es ++ e ∷ []) ≡ put e.0.now (view e.1) (members_view es)
next_member es e = put_after es e _

found_if : (b : Bool) (name key : List ℕ) (d : Data) (ms : Members) → bytes_eq key name ≡ b → get_member name (put key d ms) ≡ cond b (Some d) (get_member name ms)
found_if true name key d ms is = ap (λ k. get_member k (put key d ms)) (sym ((bytes_eq-Decides key name).0 is)) ∙ get_member-put key d ms
found_if false name key d ms is = get_member-put_other name key d ms (λ same. true≢false (sym ((bytes_eq-Decides key name).1 (sym same)) ∙ is))

-- what is found is the last member, where it has the name
pub find_last : (name : List ℕ) (es : List Entry) (e : Entry) → get_member name (members_view (es ++ e ∷ [])) ≡ cond (bytes_eq e.0.now name) (Some (view e.1)) (get_member name (members_view es))
find_last name es e = ap (get_member name) (next_member es e) ∙ found_if (bytes_eq e.0.now name) name e.0.now (view e.1) (members_view es) refl
