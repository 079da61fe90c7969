-- The grammar's loops, a turn at a time, where each value is converted as it is read.
use Rattle.std.proofs.Common.{◌≡◌, ℕ, zero, suc, ◌-◌, ◌<◌, ◌≤◌, List, [], ◌∷◌, length, Option, Some, None, option_map, option_and_then, Bool, refl, ap, ◌∙◌, arith}
use Rattle.json.specs.Token.{Token}
use Rattle.json.specs.Json as json
use Rattle.json.specs.Json.{Parse, parse_map, after_end_array, read_key, items, members, value, if_last}
use Rattle.json.proofs.Grammar.{value_is, value-begin_array, value-begin_object, items_end, items_fail, items_more, members_end, members_no_key, members_fail, members_more}
use Rattle.serde_json.specs.Data.{Num, Data, null, boolean, number, string, array, object, Items, no_items, item, Members, no_members, put}
use Rattle.serde_json.specs.Read.{number_of, of_json, of_items, of_members, converted}

-- ---- a conversion, under what is made of its result

with_rest : {A B : Type 0} (over : A → B) (x : Option A) (r : List Token) → option_map (λ b. (b, r)) (option_map over x) ≡ parse_map over (option_map (λ a. (a, r)) x)
with_rest over None r = refl
with_rest over (Some a) r = refl

lifted : {A B C D : Type 0} (f : A → Option B) (g : C → Option D) (up : A → C) (over : B → D) → ((a : A) → g (up a) ≡ option_map over (f a)) → (o : Option (A × List Token))
    → converted g (parse_map up o) ≡ parse_map over (converted f o)
lifted f g up over same None = refl
lifted f g up over same (Some q) = rw (same q.0) (with_rest over (f q.0) q.1)

moved : {A B C : Type 0} (f : A → Option B) (g : C → Option B) (up : A → C) → ((a : A) → g (up a) ≡ f a) → (o : Option (A × List Token)) → converted g (parse_map up o) ≡ converted f o
moved f g up same None = refl
moved f g up same (Some q) = rw (same q.0) refl

lost : {A B C : Type 0} (g : C → Option B) (up : A → C) → ((a : A) → g (up a) ≡ None) → (o : Option (A × List Token)) → converted g (parse_map up o) ≡ None
lost g up none None = refl
lost g up none (Some q) = rw (none q.0) refl

array_read : (o : Option (json.Items × List Token)) → converted of_json (parse_map json.array o) ≡ parse_map array (converted of_items o)
array_read o = lifted of_items of_json json.array array (λ js. refl) o

object_read : (o : Option (json.Members × List Token)) → converted of_json (parse_map json.object o) ≡ parse_map object (converted (λ ms. of_members ms no_members) o)
object_read o = lifted (λ ms. of_members ms no_members) of_json json.object object (λ ms. refl) o

-- ---- what was converted, and what was not

parts : {B : Type 0} (x : Option B) (s r : List Token) (b : B) → option_map {U = B × List Token} (λ y. (y, s)) x ≡ Some (b, r) → (s ≡ r) × (x ≡ Some b)
parts None s r b e = absurd (cc)
parts {B = B} (Some y) s r b e = let same : ◌≡◌ {A = B × List Token} (y, s) (b, r) = cc in (ap (λ p. p.1) same, ap (λ p. Some p.0) same)

taken : (o : Option (json.Json × List Token)) (d : Data) (r : List Token) → converted of_json o ≡ Some (d, r) → (j : json.Json) × (o ≡ Some (j, r)) × (of_json j ≡ Some d)
taken None d r e = absurd (cc)
taken (Some (j, s)) d r e = let is = parts (of_json j) s r d e in (j, ap (λ t. Some (j, t)) is.0, is.1)

refused : {B : Type 0} (x : Option B) (r : List Token) → option_map {U = B × List Token} (λ y. (y, r)) x ≡ None → x ≡ None
refused None r e = refl
refused (Some y) r e = absurd (cc)

-- ---- the loops

module _ (p : Parse json.Json) where
  pub item_turn : (n : ℕ) (ts r : List Token) (d : Data) → 0 < n → after_end_array ts ≡ None → converted of_json (p ts) ≡ Some (d, r)
      → converted of_items (items p n ts) ≡ parse_map (item d) (converted of_items (items p (n - 1) r))
  item_turn n ts r d some going e =
      let j = taken (p ts) d r e in
      ap (converted of_items) (items_more p n ts r j.0 some going j.1) ∙ lifted of_items of_items (json.item j.0) (item d) (λ js. rw j.2 refl) _

  item_lost : (n : ℕ) (ts : List Token) (o : Option (json.Json × List Token)) → p ts ≡ o → after_end_array ts ≡ None → converted of_json o ≡ None → converted of_items (items p n ts) ≡ None
  unfolding items
  item_lost zero ts o is going e = refl
  item_lost (suc n) ts None is going e = ap (converted of_items) (items_fail p (suc n) ts going is)
  item_lost (suc n) ts (Some (j, r)) is going e =
      ap (converted of_items) (items_more p (suc n) ts r j (omega arith) going is) ∙ lost of_items (json.item j) (λ js. rw (refused (of_json j) r e) refl) _

  pub item_refused : (n : ℕ) (ts : List Token) → after_end_array ts ≡ None → converted of_json (p ts) ≡ None → converted of_items (items p n ts) ≡ None
  item_refused n ts going e = item_lost n ts (p ts) refl going e

  pub items_over : (n : ℕ) (ts r : List Token) → length ts ≤ n → after_end_array ts ≡ Some r → converted of_items (items p n ts) ≡ Some (no_items, r)
  items_over n ts r enough e = ap (converted of_items) (items_end p n ts r enough e)

  -- `old` is what the members so far make
  module _ (old : Members) where
    pub member_turn : (n : ℕ) (k : List ℕ) (ts s r : List Token) (d : Data) → 0 < n → read_key ts ≡ Some (Some k, s) → converted of_json (p s) ≡ Some (d, r)
        → converted (λ ms. of_members ms old) (members p n ts) ≡ converted (λ ms. of_members ms (put k d old)) (members p (n - 1) r)
    member_turn n k ts s r d some key e =
        let j = taken (p s) d r e in
        ap (converted (λ ms. of_members ms old)) (members_more p n k ts s r j.0 some key j.1)
        ∙ moved (λ ms. of_members ms (put k d old)) (λ ms. of_members ms old) (json.member k j.0) (λ ms. rw j.2 refl) _

    member_lost : (n : ℕ) (k : List ℕ) (ts s : List Token) (o : Option (json.Json × List Token)) → p s ≡ o → read_key ts ≡ Some (Some k, s) → converted of_json o ≡ None
        → converted (λ ms. of_members ms old) (members p n ts) ≡ None
    unfolding members
    member_lost zero k ts s o is key e = refl
    member_lost (suc n) k ts s None is key e = ap (converted (λ ms. of_members ms old)) (members_fail p (suc n) k ts s key is)
    member_lost (suc n) k ts s (Some (j, r)) is key e =
        ap (converted (λ ms. of_members ms old)) (members_more p (suc n) k ts s r j (omega arith) key is)
        ∙ lost (λ ms. of_members ms old) (json.member k j) (λ ms. rw (refused (of_json j) r e) refl) _

    pub member_refused : (n : ℕ) (k : List ℕ) (ts s : List Token) → read_key ts ≡ Some (Some k, s) → converted of_json (p s) ≡ None → converted (λ ms. of_members ms old) (members p n ts) ≡ None
    member_refused n k ts s key e = member_lost n k ts s (p s) refl key e

    pub key_refused : (n : ℕ) (ts : List Token) → read_key ts ≡ None → converted (λ ms. of_members ms old) (members p n ts) ≡ None
    key_refused n ts e = ap (converted (λ ms. of_members ms old)) (members_no_key p n ts e)

    pub members_over : (n : ℕ) (ts r : List Token) → length ts ≤ n → read_key ts ≡ Some (None, r) → converted (λ ms. of_members ms old) (members p n ts) ≡ Some (old, r)
    members_over n ts r enough e = ap (converted (λ ms. of_members ms old)) (members_end p n ts r enough e)

-- ---- the whole text

abbrev pub whole : Option (json.Json × List Token) → Option Data
whole o = option_and_then of_json (option_and_then (λ p. if_last p.0 p.1) o)

pub whole_read : (o : Option (json.Json × List Token)) (d : Data) → converted of_json o ≡ Some (d, []) → whole o ≡ Some d
whole_read o d e = let j = taken o d [] e in ap whole j.1 ∙ j.2

pub whole_and_more : (o : Option (json.Json × List Token)) (d : Data) (t : Token) (r : List Token) → converted of_json o ≡ Some (d, t ∷ r) → whole o ≡ None
whole_and_more o d t r e = ap whole (taken o d (t ∷ r) e).1

pub whole_refused : (o : Option (json.Json × List Token)) → converted of_json o ≡ None → whole o ≡ None
whole_refused None e = refl
whole_refused (Some (j, [])) e = refused (of_json j) [] e
whole_refused (Some (j, t ∷ r)) e = refl

-- ---- a value, by its first token

module _ (depth : ℕ) (ts : List Token) where
  pub nothing_read : converted of_json (value depth []) ≡ None
  nothing_read = ap (converted of_json) (value_is depth [])

  pub null_read : converted of_json (value depth (Token.null ∷ ts)) ≡ Some (null, ts)
  null_read = ap (converted of_json) (value_is depth _)

  pub boolean_read : (b : Bool) → converted of_json (value depth (Token.boolean b ∷ ts)) ≡ Some (boolean b, ts)
  boolean_read b = ap (converted of_json) (value_is depth _)

  pub string_read : (s : List ℕ) → converted of_json (value depth (Token.string s ∷ ts)) ≡ Some (string s, ts)
  string_read s = ap (converted of_json) (value_is depth _)

  pub number_read : (s : List ℕ) (n : Num) → number_of s ≡ Some n → converted of_json (value depth (Token.number s ∷ ts)) ≡ Some (number n, ts)
  number_read s n is = ap (converted of_json) (value_is depth _) ∙ rw is refl

  pub number_refused : (s : List ℕ) → number_of s ≡ None → converted of_json (value depth (Token.number s ∷ ts)) ≡ None
  number_refused s is = ap (converted of_json) (value_is depth _) ∙ rw is refl

  pub array_opened : 0 < depth → converted of_json (value depth (Token.begin_array ∷ ts)) ≡ parse_map array (converted of_items (items (value (depth - 1)) (length ts) ts))
  array_opened deep = ap (converted of_json) (value-begin_array depth ts deep) ∙ array_read (items (value (depth - 1)) (length ts) ts)

  pub object_opened : 0 < depth → converted of_json (value depth (Token.begin_object ∷ ts)) ≡ parse_map object (converted (λ ms. of_members ms no_members) (members (value (depth - 1)) (length ts) ts))
  object_opened deep = ap (converted of_json) (value-begin_object depth ts deep) ∙ object_read (members (value (depth - 1)) (length ts) ts)

  pub array_too_deep : depth ≡ 0 → converted of_json (value depth (Token.begin_array ∷ ts)) ≡ None
  unfolding value
  array_too_deep none = rw none refl

  pub object_too_deep : depth ≡ 0 → converted of_json (value depth (Token.begin_object ∷ ts)) ≡ None
  unfolding value
  object_too_deep none = rw none refl
