-- Members that are placed one after another.
use Rattle.std.proofs.Common.{◌≡◌, ◌<◌, ◌+◌, ℕ, List, [], ◌∷◌, ◌++◌, length, map, drop, get_or, Ordering, Less, Equal, Greater, refl, sym, ap, ◌∙◌, add-one, drop-cons}
use Rattle.std.specs.Ordering.{nat_cmp, match_ordering}
use Rattle.std.specs.Cmp.Lexicographic.{slice_cmp}
use Rattle.serde_json.specs.Data.{Members, member, put}
use Rattle.script_ast.specs.Fields.{field_word}
use Rattle.script_ast.specs.declared.fields.Field.{Field}
use Rattle.script_json.specs.Given.{number_is, number_given}
use Rattle.script_json.specs.declared.creations.Number.{Number as GivenNumber}
use Rattle.script_text.specs.Members.{number_data, number_field}
use Rattle.script_text.specs.Text.{with_fields}
use Rattle.script_text.specs.Writing.{given_data, members_given, with_member}
use Rattle.script_text.specs.declared.members.Given.{Given}

members_by : (rate : ℕ) (o : Ordering) (a b c : List (Field × Given)) → members_given rate (match_ordering o a b c) ≡ match_ordering o (members_given rate a) (members_given rate b) (members_given rate c)
members_by rate Less a b c = refl
members_by rate Equal a b c = refl
members_by rate Greater a b c = refl

-- a member that is placed among others is put among them
pub with_member_put : (rate : ℕ) (field : Field) (given : Given) (ms : List (Field × Given)) → members_given rate (with_member field given ms) ≡ put (field_word field) (given_data rate given) (members_given rate ms)
with_member_put rate field given [] = refl
with_member_put rate field given (m ∷ ms) =
    members_by rate (slice_cmp nat_cmp (field_word field) (field_word m.0)) ((field, given) ∷ m ∷ ms) ((m.0, given) ∷ ms) (m ∷ with_member field given ms)
    ∙ ap (λ rest. match_ordering (slice_cmp nat_cmp (field_word field) (field_word m.0)) (members_given rate ((field, given) ∷ m ∷ ms)) (members_given rate ((m.0, given) ∷ ms)) (member (field_word m.0) (given_data rate m.1) rest)) (with_member_put rate field given ms)

-- the next number of a kind is placed
pub number_step : (rate : ℕ) (first : Members) (list : List (Field × GivenNumber)) (i : ℕ) (v : Field × GivenNumber) (given : Given) (members none placed : List (Field × Given))
    → i < length list → v ≡ get_or list i v → none ≡ [] → placed ≡ none ++ with_member v.0 given members → given_data rate given ≡ number_data (number_is v.1)
    → first ≡ with_fields (map number_field (map number_given (drop i list))) (members_given rate members)
    → first ≡ with_fields (map number_field (map number_given (drop (i + 1) list))) (members_given rate placed)
number_step rate first list i v given members none placed h is empty placed_is value before =
    let items : drop i list ≡ v ∷ drop (i + 1) list = rw (add-one i, is) (drop-cons list i v h) in
    let more : members_given rate placed ≡ put (field_word v.0) (number_data (number_is v.1)) (members_given rate members) =
    ap (members_given rate) (placed_is ∙ ap (λ xs. xs ++ with_member v.0 given members) empty) ∙ with_member_put rate v.0 given members
    ∙ ap (λ d. put (field_word v.0) d (members_given rate members)) value in
    before
    ∙ ap (λ xs. with_fields (map number_field (map number_given xs)) (members_given rate members)) items
    ∙ ap (with_fields (map number_field (map number_given (drop (i + 1) list)))) (sym more)
