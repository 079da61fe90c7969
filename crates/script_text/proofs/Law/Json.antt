-- The JSON text of a value is UTF-8, and reads as the value.
use Rattle.std.proofs.Common.{◌≡◌, ◌<◌, ◌≤◌, ◌^◌, ℕ, suc, pos, negsuc, List, [], ◌∷◌, Bool, true, false, Some, IsUtf8, refl, sym, ap, ◌∙◌, append-nil}
use Rattle.std.proofs.Common.{Ordering, Less, Equal, Greater}
use Rattle.std.specs.Prelude.{⊤, option_and_then}
use Rattle.std.specs.Ordering.{nat_cmp, match_ordering}
use Rattle.std.specs.Cmp.Lexicographic.{slice_cmp}
use Rattle.std.proofs.lemmas.Fmt.{IsAscii-decimal, IsAscii-signed}
use Rattle.std.proofs.lemmas.Str.{IsUtf8-append, IsUtf8-nil, IsUtf8-from_ascii}
use Rattle.json.specs.Lex.{tokens}
use Rattle.json.specs.Print.{quoted}
use Rattle.json.specs.Json as json
use Rattle.json.specs.Tree as tree
use Rattle.json.proofs.Printed.Decimals.{IsNumber-decimal, IsNumber-signed_decimal}
use Rattle.json.proofs.Printed.Tokens.{tokens-print}
use Rattle.json.proofs.Printed.Trees.{value-json_tokens, ArePrintable-json_tokens}
use Rattle.json.proofs.Printed.Utf8.{IsUtf8-are_ascii, IsUtf8-quoted, IsUtf8-boolean}
use Rattle.serde_json.specs.Data.{Num, unsigned, negative, float, Data, null, boolean, number, string, array, object, Items, no_items, item, Members, no_members, member, put, depth, items_depth, members_depth}
use Rattle.serde_json.specs.Read.{read, of_json, of_items, of_members, max_depth}
use Rattle.serde_json.specs.Written.{outline, items_outline, members_outline, number_text, comma_if, compact_text, items_text, members_text}
use Rattle.serde_json.proofs.Numbers.{number_of-decimal, number_of-negative}
use Rattle.serde_json.proofs.Texts.{print-outline}

-- ---- what is read back

-- a whole number of 64 bits that has one form
abbrev pub IsWhole : Num → Type 0
IsWhole (unsigned n) = n < 2 ^ 64
IsWhole (negative (pos n)) = ⊥
IsWhole (negative (negsuc n)) = n < 2 ^ 63
IsWhole (float x) = ⊥

-- these members put one after another at their places
abbrev pub rebuilt : Members → Members → Members
rebuilt no_members found = found
rebuilt (member k d ms) found = rebuilt ms (put k d found)

-- the numbers are whole, the texts are UTF-8, and the members stand at their places
abbrev mutual
  pub IsKept : Data → Type 0
  IsKept null = ⊤
  IsKept (boolean b) = ⊤
  IsKept (number n) = IsWhole n
  IsKept (string s) = IsUtf8 s
  IsKept (array ds) = AreKeptItems ds
  IsKept (object ms) = (rebuilt ms no_members ≡ ms) × AreKeptMembers ms

  pub AreKeptItems : Items → Type 0
  AreKeptItems no_items = ⊤
  AreKeptItems (item d ds) = IsKept d × AreKeptItems ds

  pub AreKeptMembers : Members → Type 0
  AreKeptMembers no_members = ⊤
  AreKeptMembers (member k d ms) = IsUtf8 k × IsKept d × AreKeptMembers ms

-- ---- depth

mutual
  depth-outline : (d : Data) → tree.depth (outline d) ≡ depth d
  depth-outline null = refl
  depth-outline (boolean b) = refl
  depth-outline (number n) = refl
  depth-outline (string s) = refl
  depth-outline (array ds) = ap suc (items_depth-outline ds)
  depth-outline (object ms) = ap suc (members_depth-outline ms)

  items_depth-outline : (ds : Items) → tree.items_depth (items_outline ds) ≡ items_depth ds
  items_depth-outline no_items = refl
  items_depth-outline (item d ds) = rw (depth-outline d, items_depth-outline ds)

  members_depth-outline : (ms : Members) → tree.members_depth (members_outline ms) ≡ members_depth ms
  members_depth-outline no_members = refl
  members_depth-outline (member k d ms) = rw (depth-outline d, members_depth-outline ms)

-- ---- numbers

number_kept : (n : Num) → IsWhole n → of_json (outline (number n)) ≡ Some (number n)
number_kept (unsigned n) h = rw (number_of-decimal n h) refl
number_kept (negative (pos n)) h = absurd h
number_kept (negative (negsuc n)) h = rw (number_of-negative n h) refl
number_kept (float x) h = absurd h

number_is : (n : Num) → IsWhole n → tree.HasNumbers (outline (number n))
number_is (unsigned n) h = IsNumber-decimal n h
number_is (negative (pos n)) h = absurd h
number_is (negative (negsuc n)) h = IsNumber-signed_decimal (negsuc n) h
number_is (float x) h = absurd h

-- ---- values

mutual
  kept : (d : Data) → IsKept d → of_json (outline d) ≡ Some d
  kept null h = refl
  kept (boolean b) h = refl
  kept (number n) h = number_kept n h
  kept (string s) h = refl
  kept (array ds) h = rw (kept_items ds h) refl
  kept (object ms) h = rw (kept_members ms no_members h.1, h.0) refl

  kept_items : (ds : Items) → AreKeptItems ds → of_items (items_outline ds) ≡ Some ds
  kept_items no_items h = refl
  kept_items (item d ds) h = rw (kept d h.0, kept_items ds h.1) refl

  kept_members : (ms found : Members) → AreKeptMembers ms → of_members (members_outline ms) found ≡ Some (rebuilt ms found)
  kept_members no_members found h = refl
  kept_members (member k d ms) found h = rw (kept d h.1) (kept_members ms (put k d found) h.2)

mutual
  numbers : (d : Data) → IsKept d → tree.HasNumbers (outline d)
  numbers null h = tt
  numbers (boolean b) h = tt
  numbers (number n) h = number_is n h
  numbers (string s) h = tt
  numbers (array ds) h = numbers_of_items ds h
  numbers (object ms) h = numbers_of_members ms h.1

  numbers_of_items : (ds : Items) → AreKeptItems ds → tree.ItemsHaveNumbers (items_outline ds)
  numbers_of_items no_items h = tt
  numbers_of_items (item d ds) h = (numbers d h.0, numbers_of_items ds h.1)

  numbers_of_members : (ms : Members) → AreKeptMembers ms → tree.MembersHaveNumbers (members_outline ms)
  numbers_of_members no_members h = tt
  numbers_of_members (member k d ms) h = (numbers d h.1, numbers_of_members ms h.2)

-- the text of a value is read as the value
pub read_compact : (d : Data) → IsKept d → depth d ≤ 127 → read (compact_text d) ≡ Some d
read_compact d is shallow =
    let same : tokens (compact_text d) ≡ tree.json_tokens (outline d) =
    ap tokens (sym (print-outline d)) ∙ tokens-print (tree.json_tokens (outline d)) (ArePrintable-json_tokens (outline d) (numbers d is)) in
    let deep : tree.depth (outline d) ≤ 127 = rw (depth-outline d) shallow in
    ap (λ ts. option_and_then of_json (option_and_then (λ p. json.if_last p.0 p.1) (json.value max_depth ts))) (same ∙ sym (append-nil _))
    ∙ ap (λ o. option_and_then of_json (option_and_then (λ p. json.if_last p.0 p.1) o)) (value-json_tokens (outline d) max_depth [] deep)
    ∙ kept d is

-- ---- UTF-8

number_utf8 : (n : Num) → IsWhole n → IsUtf8 (number_text n)
number_utf8 (unsigned n) h = IsUtf8-from_ascii _ (IsAscii-decimal n h)
number_utf8 (negative (pos n)) h = absurd h
number_utf8 (negative (negsuc n)) h = IsUtf8-from_ascii _ (IsAscii-signed (negsuc n) h)
number_utf8 (float x) h = absurd h

comma : (b : Bool) → IsUtf8 (comma_if b)
comma true = IsUtf8-are_ascii _ refl
comma false = IsUtf8-nil

mutual
  pub utf8 : (d : Data) → IsKept d → IsUtf8 (compact_text d)
  utf8 null h = IsUtf8-are_ascii _ refl
  utf8 (boolean b) h = IsUtf8-boolean b
  utf8 (number n) h = number_utf8 n h
  utf8 (string s) h = IsUtf8-quoted s h
  utf8 (array ds) h = IsUtf8-append (91 ∷ []) _ (IsUtf8-are_ascii _ refl) (utf8_items false ds h)
  utf8 (object ms) h = IsUtf8-append (123 ∷ []) _ (IsUtf8-are_ascii _ refl) (utf8_members false ms h.1)

  utf8_items : (later : Bool) (ds : Items) → AreKeptItems ds → IsUtf8 (items_text later ds)
  utf8_items later no_items h = IsUtf8-are_ascii _ refl
  utf8_items later (item d ds) h = IsUtf8-append (comma_if later) _ (comma later) (IsUtf8-append _ _ (utf8 d h.0) (utf8_items true ds h.1))

  utf8_members : (later : Bool) (ms : Members) → AreKeptMembers ms → IsUtf8 (members_text later ms)
  utf8_members later no_members h = IsUtf8-are_ascii _ refl
  utf8_members later (member k d ms) h =
      IsUtf8-append (comma_if later) _ (comma later)
      (IsUtf8-append (quoted k) _ (IsUtf8-quoted k h.0)
      (IsUtf8-append (58 ∷ []) _ (IsUtf8-are_ascii _ refl) (IsUtf8-append _ _ (utf8 d h.1) (utf8_members true ms h.2))))

-- members that are put at their places are kept as they are
either_kept : (o : Ordering) (a b c : Members) → AreKeptMembers a → AreKeptMembers b → AreKeptMembers c → AreKeptMembers (match_ordering o a b c)
either_kept Less a b c p q r = p
either_kept Equal a b c p q r = q
either_kept Greater a b c p q r = r

pub kept_put : (k : List ℕ) (d : Data) (ms : Members) → IsUtf8 k → IsKept d → AreKeptMembers ms → AreKeptMembers (put k d ms)
kept_put k d no_members key value rest = (key, value, tt)
kept_put k d (member l e ms) key value rest =
    either_kept (slice_cmp nat_cmp k l) (member k d (member l e ms)) (member l d ms) (member l e (put k d ms))
    (key, value, rest) (rest.0, value, rest.2) (rest.0, rest.1, kept_put k d ms key value rest.2)
