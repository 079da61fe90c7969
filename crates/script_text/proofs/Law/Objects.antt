-- Members that are put at their places one after another.
use Rattle.std.proofs.Common.{◌≡◌, List, [], ◌∷◌, map, ℕ, Bool, true, false, Option, Some, None, Ordering, Less, Equal, Greater, refl, sym, ap, ◌∙◌}
use Rattle.std.specs.Prelude.{⊤, not}
use Rattle.std.specs.Ordering.{nat_cmp, match_ordering, is_eq, ordering_reverse}
use Rattle.std.specs.Cmp.Lexicographic.{slice_cmp}
use Rattle.std.proofs.lemmas.Bool.{and_parts}
use Rattle.std.proofs.lemmas.Cmp.{nat_list_cmp_total, tied_itself, alike_right}
use Rattle.std.proofs.lemmas.Map.Text.{is_eq-slice_cmp}
use Rattle.serde_json.specs.Data.{Data, Members, no_members, member, put}
use Rattle.serde_json.specs.Find.{get_member}
use Rattle.script_ast.specs.Fields.{field_word}
use Rattle.script_ast.specs.declared.fields.Field.{Field}
use Rattle.script_json.proofs.NumberRows.{is_apart, are_apart}
use Rattle.script_text.specs.Text.{with_fields}
use Rattle.script_text.proofs.Law.Json.{rebuilt}

-- ---- order

-- the key of each of the members is past this one
abbrev IsBefore : List ℕ → Members → Type 0
IsBefore k no_members = ⊤
IsBefore k (member l d ms) = (slice_cmp nat_cmp k l ≡ Less) × IsBefore k ms

-- the members stand in the order of their keys, and no two have the same
abbrev AreSorted : Members → Type 0
AreSorted no_members = ⊤
AreSorted (member k d ms) = IsBefore k ms × AreSorted ms

before_more : (k l : List ℕ) (ms : Members) → slice_cmp nat_cmp k l ≡ Less → IsBefore l ms → IsBefore k ms
before_more k l no_members h b = tt
before_more k l (member m d ms) h b = (nat_list_cmp_total.trans k l m h b.0, before_more k l ms h b.1)

before_either : (o : Ordering) (k : List ℕ) (a b c : Members) → IsBefore k a → IsBefore k b → IsBefore k c → IsBefore k (match_ordering o a b c)
before_either Less k a b c p q r = p
before_either Equal k a b c p q r = q
before_either Greater k a b c p q r = r

before_put : (k l : List ℕ) (d : Data) (ms : Members) → slice_cmp nat_cmp k l ≡ Less → IsBefore k ms → IsBefore k (put l d ms)
before_put k l d no_members h b = (h, tt)
before_put k l d (member m e ms) h b =
    before_either (slice_cmp nat_cmp l m) k (member l d (member m e ms)) (member m d ms) (member m e (put l d ms)) (h, b) b (b.0, before_put k l d ms h b.1)

turned : (k l : List ℕ) → slice_cmp nat_cmp k l ≡ Greater → slice_cmp nat_cmp l k ≡ Less
turned k l h = nat_list_cmp_total.antisymm l k ∙ ap ordering_reverse h

turned_back : (k l : List ℕ) → slice_cmp nat_cmp k l ≡ Less → slice_cmp nat_cmp l k ≡ Greater
turned_back k l h = nat_list_cmp_total.antisymm l k ∙ ap ordering_reverse h

sorted_by : (o : Ordering) (k : List ℕ) (d : Data) (l : List ℕ) (e : Data) (ms : Members) → slice_cmp nat_cmp k l ≡ o → AreSorted (member l e ms) → AreSorted (put k d ms)
    → AreSorted (match_ordering o (member k d (member l e ms)) (member l d ms) (member l e (put k d ms)))
sorted_by Less k d l e ms h s rest = ((h, before_more k l ms h s.0), s)
sorted_by Equal k d l e ms h s rest = s
sorted_by Greater k d l e ms h s rest = (before_put l k d ms (turned k l h) s.0, rest)

sorted_put : (k : List ℕ) (d : Data) (ms : Members) → AreSorted ms → AreSorted (put k d ms)
sorted_put k d no_members s = (tt, tt)
sorted_put k d (member l e ms) s = sorted_by (slice_cmp nat_cmp k l) k d l e ms refl s (sorted_put k d ms s.1)

sorted_fields : (given : List (Field × Data)) (ms : Members) → AreSorted ms → AreSorted (with_fields given ms)
sorted_fields [] ms s = s
sorted_fields (given ∷ rest) ms s = sorted_fields rest (put (field_word given.0) given.1 ms) (sorted_put (field_word given.0) given.1 ms s)

-- ---- members in order are put at their places as they stand

abbrev then_members : Members → Members → Members
then_members no_members ms = ms
then_members (member k d first) ms = member k d (then_members first ms)

then_none : (ms : Members) → then_members ms no_members ≡ ms
then_none no_members = refl
then_none (member k d ms) = ap (member k d) (then_none ms)

then_then : (a b c : Members) → then_members (then_members a b) c ≡ then_members a (then_members b c)
then_then no_members b c = refl
then_then (member k d a) b c = ap (member k d) (then_then a b c)

-- the key is past those of the members
abbrev IsPast : List ℕ → Members → Type 0
IsPast k no_members = ⊤
IsPast k (member l d ms) = (slice_cmp nat_cmp k l ≡ Greater) × IsPast k ms

-- and so is each key of some more members
abbrev ArePast : Members → Members → Type 0
ArePast no_members found = ⊤
ArePast (member k d ms) found = IsPast k found × ArePast ms found

put_end : (k : List ℕ) (d : Data) (found : Members) → IsPast k found → put k d found ≡ then_members found (member k d no_members)
put_end k d no_members p = refl
put_end k d (member l e found) p = rw p.0 (ap (member l e) (put_end k d found p.1))

past_one : (k l : List ℕ) (d : Data) (found : Members) → IsPast l found → slice_cmp nat_cmp k l ≡ Less → IsPast l (then_members found (member k d no_members))
past_one k l d no_members p h = (turned_back k l h, tt)
past_one k l d (member m e found) p h = (p.0, past_one k l d found p.1 h)

past_more : (k : List ℕ) (d : Data) (ms found : Members) → IsBefore k ms → ArePast ms found → ArePast ms (then_members found (member k d no_members))
past_more k d no_members found b p = tt
past_more k d (member l e ms) found b p = (past_one k l d found p.0 b.0, past_more k d ms found b.1 p.1)

rebuilt_past : (ms found : Members) → AreSorted ms → ArePast ms found → rebuilt ms found ≡ then_members found ms
rebuilt_past no_members found s p = sym (then_none found)
rebuilt_past (member k d ms) found s p =
    ap (rebuilt ms) (put_end k d found p.0) ∙ rebuilt_past ms (then_members found (member k d no_members)) s.1 (past_more k d ms found s.0 p.1)
    ∙ then_then found (member k d no_members) ms

past_none : (ms : Members) → ArePast ms no_members
past_none no_members = tt
past_none (member k d ms) = (tt, past_none ms)

-- members that were put at their places are those again
pub fields_rebuilt : (given : List (Field × Data)) → rebuilt (with_fields given no_members) no_members ≡ with_fields given no_members
fields_rebuilt given = rebuilt_past (with_fields given no_members) no_members (sorted_fields given no_members tt) (past_none (with_fields given no_members))

-- ---- a member is found

get_by : (o : Ordering) (k : List ℕ) (d : Data) (l : List ℕ) (e : Data) (ms : Members) → slice_cmp nat_cmp k l ≡ o → get_member k (put k d ms) ≡ Some d
    → get_member k (match_ordering o (member k d (member l e ms)) (member l d ms) (member l e (put k d ms))) ≡ Some d
get_by Less k d l e ms h rest = rw (tied_itself nat_list_cmp_total k) refl
get_by Equal k d l e ms h rest = rw h refl
get_by Greater k d l e ms h rest = rw h rest

get_put : (k : List ℕ) (d : Data) (ms : Members) → get_member k (put k d ms) ≡ Some d
get_put k d no_members = rw (tied_itself nat_list_cmp_total k) refl
get_put k d (member l e ms) = get_by (slice_cmp nat_cmp k l) k d l e ms refl (get_put k d ms)

passed : (o : Ordering) (found other : Option Data) → is_eq o ≡ false → match_ordering o found other found ≡ found
passed Less found other h = refl
passed Equal found other h = cc
passed Greater found other h = refl

other_by : (o : Ordering) (k l : List ℕ) (d : Data) (m : List ℕ) (e : Data) (ms : Members) → slice_cmp nat_cmp l m ≡ o → is_eq (slice_cmp nat_cmp k l) ≡ false
    → get_member k (put l d ms) ≡ get_member k ms
    → get_member k (match_ordering o (member l d (member m e ms)) (member m d ms) (member m e (put l d ms))) ≡ get_member k (member m e ms)
other_by Less k l d m e ms is apart rest = passed (slice_cmp nat_cmp k l) (get_member k (member m e ms)) (Some d) apart
other_by Equal k l d m e ms is apart rest =
    let far : is_eq (slice_cmp nat_cmp k m) ≡ false = ap is_eq (sym (alike_right nat_list_cmp_total l m k is)) ∙ apart in
    passed (slice_cmp nat_cmp k m) (get_member k ms) (Some d) far ∙ sym (passed (slice_cmp nat_cmp k m) (get_member k ms) (Some e) far)
other_by Greater k l d m e ms is apart rest = ap (λ found. match_ordering (slice_cmp nat_cmp k m) found (Some e) found) rest

get_other : (k l : List ℕ) (d : Data) (ms : Members) → is_eq (slice_cmp nat_cmp k l) ≡ false → get_member k (put l d ms) ≡ get_member k ms
get_other k l d no_members apart = passed (slice_cmp nat_cmp k l) None (Some d) apart
get_other k l d (member m e ms) apart = other_by (slice_cmp nat_cmp l m) k l d m e ms refl apart (get_other k l d ms apart)

not_true : (b : Bool) → not b ≡ true → b ≡ false
not_true true h = cc
not_true false h = refl

-- the fields of these members
abbrev pub fields_in : List (Field × Data) → List Field
fields_in given = map (λ one. one.0) given

get_apart : (field : Field) (given : List (Field × Data)) (ms : Members) → is_apart field (fields_in given) ≡ true → get_member (field_word field) (with_fields given ms) ≡ get_member (field_word field) ms
get_apart field [] ms apart = refl
get_apart field (given ∷ rest) ms apart =
    let both = and_parts _ _ apart in
    get_apart field rest (put (field_word given.0) given.1 ms) both.1
    ∙ get_other (field_word field) (field_word given.0) given.1 ms (is_eq-slice_cmp (field_word field) (field_word given.0) ∙ not_true _ both.0)

-- each of these is found among the members
abbrev pub AreFound : Members → List (Field × Data) → Type 0
AreFound ms [] = ⊤
AreFound ms (given ∷ rest) = (get_member (field_word given.0) ms ≡ Some given.1) × AreFound ms rest

-- where no two have the same name, each is found
pub fields_found : (given : List (Field × Data)) (ms : Members) → are_apart (fields_in given) ≡ true → AreFound (with_fields given ms) given
fields_found [] ms apart = tt
fields_found (given ∷ rest) ms apart =
    let both = and_parts _ _ apart in
    (get_apart given.0 rest (put (field_word given.0) given.1 ms) both.0 ∙ get_put (field_word given.0) given.1 ms, fields_found rest (put (field_word given.0) given.1 ms) both.1)
