-- Where facts stand when one more is known.
use Rattle.std.proofs.Common.{ℕ, zero, suc, ◌≡◌, ◌<◌, Bool, true, false, cond, List, [], ◌∷◌, ◌++◌, length, Option, None, Some, ◌⊎◌, inl, inr, refl, sym, ◌∙◌, ap, subst, arith}
use Rattle.std.specs.Prelude.{slice_get, slice_index_or, ◌==◌, ◌&&◌, IsSome}
use Rattle.std.specs.Bool.{beq}
use Rattle.std.specs.HashMap.{HashMap, get}
use Rattle.std.proofs.lemmas.Bool.Decides.{nat_tests}
use Rattle.law_base.specs.Members.{IsIn}
use Rattle.explain.specs.declared.facts.Fact.{Fact}
use Rattle.explain.specs.declared.facts.Key.{Key}
use Rattle.explain.specs.Checked.{Stands}
use Rattle.derivations.specs.declared.known.Name.{Name}
use Rattle.derivations.specs.Names.{name_of}
use Rattle.derivations.specs.Places.{same_name, IsAt, ArePlaces}
use Rattle.derivations.proofs.Filing.{got_at, got_low}
use Rattle.derivations.proofs.NameLaws.{name_once}

-- ---- one name or two

and_parts : (a b : Bool) → (a && b) ≡ true → (a ≡ true) × (b ≡ true)
and_parts true b h = (refl, h)
and_parts false b h = absurd cc

bool_same : (a b : Bool) → beq a b ≡ true → a ≡ b
bool_same true true h = refl
bool_same false false h = refl
bool_same true false h = absurd cc
bool_same false true h = absurd cc

nat_same : (a b : ℕ) → (a == b) ≡ true → a ≡ b
nat_same a b t = grind (arith, nat_tests)

same_nat : (a : ℕ) → (a == a) ≡ true
same_nat a = grind (arith, nat_tests)

same_bool : (a : Bool) → beq a a ≡ true
same_bool true = refl
same_bool false = refl

abbrev name_with : ℕ → ℕ → ℕ → Bool → ℕ → ℕ → Name
name_with form moment node writer port channel = record { form = form; moment = moment; node = node; writer = writer; port = port; channel = channel }

pub same_is : (a b : Name) → same_name a b ≡ true → a ≡ b
same_is a b h =
    let p = and_parts (a.form == b.form) _ h in
    let q = and_parts (a.moment == b.moment) _ p.1 in
    let r = and_parts (a.node == b.node) _ q.1 in
    let s = and_parts (beq a.writer b.writer) _ r.1 in
    let t = and_parts (a.port == b.port) _ s.1 in
    joined (nat_same _ _ p.0) (nat_same _ _ q.0) (nat_same _ _ r.0) (bool_same _ _ s.0) (nat_same _ _ t.0) (nat_same _ _ t.1)
  where
    joined : a.form ≡ b.form → a.moment ≡ b.moment → a.node ≡ b.node → a.writer ≡ b.writer → a.port ≡ b.port → a.channel ≡ b.channel → a ≡ b
    joined form moment node writer port channel =
        let e : name_with a.form a.moment a.node a.writer a.port a.channel ≡ name_with b.form b.moment b.node b.writer b.port b.channel =
        ap (λ x. name_with x a.moment a.node a.writer a.port a.channel) form
        ∙ ap (λ x. name_with b.form x a.node a.writer a.port a.channel) moment
        ∙ ap (λ x. name_with b.form b.moment x a.writer a.port a.channel) node
        ∙ ap (λ x. name_with b.form b.moment b.node x a.port a.channel) writer
        ∙ ap (λ x. name_with b.form b.moment b.node b.writer x a.channel) port
        ∙ ap (λ x. name_with b.form b.moment b.node b.writer b.port x) channel in
        e

both : (a b : Bool) → a ≡ true → b ≡ true → (a && b) ≡ true
both true b first second = second
both false b first second = absurd cc

pub is_same : (a : Name) → same_name a a ≡ true
is_same a =
    both _ _ (same_nat a.form) (both _ _ (same_nat a.moment) (both _ _ (same_nat a.node) (both _ _ (same_bool a.writer) (both _ _ (same_nat a.port) (same_nat a.channel)))))

-- ---- the facts in a list

pub get_in : {X : Type 0} (xs : List X) (i : ℕ) (x : X) → slice_get xs i ≡ Some x → IsIn x xs
get_in [] i x h = absurd cc
get_in (y ∷ ys) zero x h = inl (let e : y ≡ x = cc in sym e)
get_in (y ∷ ys) (suc i) x h = inr (get_in ys i x h)

pub in_get : {X : Type 0} (xs : List X) (x : X) → IsIn x xs → (i : ℕ) × (slice_get xs i ≡ Some x)
in_get [] x h = absurd h
in_get (y ∷ ys) x (inl e) = (0, ap Some (sym e))
in_get (y ∷ ys) x (inr h) = let k = in_get ys x h in (suc k.0, k.1)

get_still : {X : Type 0} (xs ys : List X) (i : ℕ) (x : X) → slice_get xs i ≡ Some x → slice_get (xs ++ ys) i ≡ Some x
get_still [] ys i x h = absurd cc
get_still (y ∷ xs) ys zero x h = h
get_still (y ∷ xs) ys (suc i) x h = get_still xs ys i x h

get_last : {X : Type 0} (xs : List X) (x : X) → slice_get (xs ++ x ∷ []) (length xs) ≡ Some x
get_last [] x = refl
get_last (y ∷ xs) x = get_last xs x

-- what stands in a list with one item more
get_more : {X : Type 0} (xs : List X) (x y : X) (i : ℕ) → slice_get (xs ++ x ∷ []) i ≡ Some y → (slice_get xs i ≡ Some y) ⊎ (x ≡ y)
get_more [] x y zero h = inr cc
get_more [] x y (suc i) h = absurd cc
get_more (z ∷ xs) x y zero h = inl h
get_more (z ∷ xs) x y (suc i) h = get_more xs x y i h

some_by : (t : Bool) (x old : Option ℕ) → IsSome x → (t ≡ false → IsSome old) → IsSome (cond t x old)
some_by true x old now before = now
some_by false x old now before = before refl

-- ---- places

pub ArePlaces-more : {S : Type 0} (facts : List Fact) (old new : HashMap Name ℕ S) (x : Fact) → ArePlaces facts old
    → ((name : Name) → get same_name new name ≡ cond (same_name (name_of x.key) name) (Some (length facts)) (get same_name old name))
    → ArePlaces (facts ++ x ∷ []) new
ArePlaces-more facts old new x are put = record {
  right = λ name place h. by_test name place (same_name (name_of x.key) name) refl (sym (put name) ∙ h);
  all = λ i y h. elim (get_more facts x y i h) [ inl before ↦ older y i before | inr same ↦ newest y same ];
}
  where
    still : (name : Name) (place : ℕ) → IsAt facts name place → IsAt (facts ++ x ∷ []) name place
    still name place at = record { fact = at.fact; there = get_still facts (x ∷ []) place at.fact at.there; named = at.named }

    by_test : (name : Name) (place : ℕ) (t : Bool) → same_name (name_of x.key) name ≡ t → cond t (Some (length facts)) (get same_name old name) ≡ Some place → IsAt (facts ++ x ∷ []) name place
    by_test name place true same h =
        let e : length facts ≡ place = cc in
        record { fact = x; there = subst (λ i. slice_get (facts ++ x ∷ []) i ≡ Some x) e (get_last facts x); named = same_is (name_of x.key) name same }
    by_test name place false same h = still name place (are.right name place h)

    older : (y : Fact) (i : ℕ) → slice_get facts i ≡ Some y → IsSome (get same_name new (name_of y.key))
    older y i h = subst IsSome (sym (put (name_of y.key))) (some_by (same_name (name_of x.key) (name_of y.key)) (Some (length facts)) _ refl (λ n. are.all i y h))

    newest : (y : Fact) → x ≡ y → IsSome (get same_name new (name_of y.key))
    newest y same =
        let t : same_name (name_of x.key) (name_of y.key) ≡ true = ap (λ (z : Fact). same_name (name_of x.key) (name_of z.key)) (sym same) ∙ is_same (name_of x.key) in
        subst IsSome (sym (put (name_of y.key) ∙ ap (λ b. cond b (Some (length facts)) (get same_name old (name_of y.key))) t)) refl

-- a fact that is found by a name has its key
pub found_key : {S : Type 0} (facts : List Fact) (places : HashMap Name ℕ S) → ArePlaces facts places → (key : Key) (place : ℕ) → get same_name places (name_of key) ≡ Some place
    → (x : Fact) × (slice_get facts place ≡ Some x) × IsIn x facts × (x.key ≡ key)
found_key facts places are key place h =
    let at = are.right (name_of key) place h in
    (at.fact, at.there, get_in facts place at.fact at.there, name_once at.fact.key key at.named)

pub found_item : {S : Type 0} (facts : List Fact) (places : HashMap Name ℕ S) → ArePlaces facts places → (key : Key) (place : ℕ) → get same_name places (name_of key) ≡ Some place
    → (r : Fact) → r ≡ slice_index_or facts place r → IsIn r facts × (r.key ≡ key)
found_item facts places are key place h r is =
    let found = found_key facts places are key place h in
    let same : r ≡ found.0 = is ∙ got_at facts place found.0 r found.1 in
    (subst (λ (x : Fact). IsIn x facts) (sym same) found.2, ap (λ (x : Fact). x.key) same ∙ found.3)

pub found_low : {S : Type 0} (facts : List Fact) (places : HashMap Name ℕ S) → ArePlaces facts places → (name : Name) (place : ℕ) → get same_name places name ≡ Some place → place < length facts
found_low facts places are name place h = let at = are.right name place h in got_low facts place at.fact at.there

none_is : (o : Option ℕ) → o ≡ None → IsSome o → ⊥
none_is None e h = absurd cc
none_is (Some x) e h = absurd cc

-- and a name without a place is that of no fact's key
pub none_stands : {S : Type 0} (facts : List Fact) (places : HashMap Name ℕ S) → ArePlaces facts places → (key : Key) → get same_name places (name_of key) ≡ None → Stands key facts → ⊥
none_stands facts places are key none (x, is, same) =
    let k = in_get facts x is in
    none_is _ (ap (λ y. get same_name places (name_of y)) same ∙ none) (are.all k.0 x k.1)
