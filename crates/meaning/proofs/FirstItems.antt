-- Where items have keys of their own, one that has a key is the first that has it.
use Rattle.std.proofs.Common.{ℕ, zero, suc, ◌≡◌, ◌+◌, ◌<◌, length, List, [], ◌∷◌, map, slice_index_or, Bool, true, false, cond, not, None, Some, inl, inr, refl, sym, ◌∙◌, ap, ap₂, arith, subst}
use Rattle.std.specs.Prelude.{◌==◌, nat_lt, slice_get, unwrap_or}
use Rattle.std.specs.List.{AllPairs, position, position_or_len}
use Rattle.std.specs.List.Sorted.{IsStrictlyIncreasing}
use Rattle.std.proofs.lemmas.Bool.Decides.{nat_tests}
use Rattle.std.proofs.lemmas.List.Kept.{AllPairs-from_increasing}
use Rattle.wa_base.specs.declared.graph_names.ParamId.{ParamId}
use Rattle.wa_base.specs.declared.graph_names.ParamName.{ParamName}
use Rattle.law_base.specs.Members.{IsIn, AreDistinct}
use Rattle.law_base.proofs.Tests.{and_parts}
use Rattle.conn_graph.specs.Edges.{same_name, same_param}
use Rattle.meaning.specs.declared.params.Param.{Param}
use Rattle.meaning.specs.declared.scheds.Play.{Play}
use Rattle.meaning.specs.declared.world.World.{World}
use Rattle.meaning.specs.World.{param_id}
use Rattle.meaning.specs.Validity.{IsValid, param_ids, play_nodes}

module _ {X K : Type 0} (key : X → K) (test : X → Bool) (k : K) (means : (x : X) → test x ≡ true → key x ≡ k) where
  key_in : (xs : List X) (i : ℕ) (d : X) → i < length xs → IsIn (key (slice_index_or xs i d)) (map key xs)
  key_in [] i d l = absurd (omega arith)
  key_in (x ∷ xs) zero d l = inl refl
  key_in (x ∷ xs) (suc i) d l = inr (key_in xs i d (omega arith))

  first_is : (xs : List X) (i : ℕ) (d : X) → AreDistinct (map key xs) → i < length xs → test (slice_index_or xs i d) ≡ true → position_or_len test xs ≡ i
  first_is [] i d distinct l t = absurd (omega arith)
  first_is (x ∷ xs) zero d distinct l t = ap (λ b. cond (not b) (1 + position_or_len test xs) 0) t
  first_is (x ∷ xs) (suc i) d distinct l t = by_test (test x) refl (first_is xs i d distinct.1 (omega arith) t)
    where
      by_test : (b : Bool) → test x ≡ b → position_or_len test xs ≡ i → cond (not b) (1 + position_or_len test xs) 0 ≡ suc i
      by_test true s below = absurd (distinct.0 (subst (λ y. IsIn y (map key xs)) (means (slice_index_or xs i d) t ∙ sym (means x s)) (key_in xs i d (omega arith))))
      by_test false s below = omega (arith, below)

  position_is : (xs : List X) (i : ℕ) (d : X) → AreDistinct (map key xs) → i < length xs → test (slice_index_or xs i d) ≡ true → position test xs ≡ Some i
  position_is xs i d distinct l t =
      let first = first_is xs i d distinct l t in
      ap (λ n. cond (nat_lt n (length xs)) (Some n) None) first ∙ ap (λ b. cond b (Some i) None) (let inside : nat_lt i (length xs) ≡ true = grind (arith, nat_tests) in inside)

pub same_name_is : (a b : ParamName) → same_name a b ≡ true → a ≡ b
same_name_is a b h = grind arith

pub same_param_is : (a b : ParamId) → same_param a b ≡ true → a ≡ b
same_param_is a b h =
    let parts = and_parts (a.node.0 == b.node.0) (same_name a.name b.name) h in
    let number : a.node.0 ≡ b.node.0 = let t : (a.node.0 == b.node.0) ≡ true = parts.0 in grind (arith, nat_tests) in
    let name : a.name ≡ b.name = same_name_is a.name b.name parts.1 in
    ap₂ param_id number name

-- ---- parameters in order of their nodes

-- the node of a parameter
abbrev pub node : Param → ℕ
node p = p.id.node.0

abbrev pub AreInOrder : List Param → Type 0
AreInOrder params = IsStrictlyIncreasing (map node params)

above_all : (xs : List ℕ) (n : ℕ) → ((j d : ℕ) → j < length xs → n < slice_index_or xs j d) → (x : ℕ) → IsIn x xs → n < x
above_all [] n above x is = absurd is
above_all (y ∷ ys) n above x (inl same) = let l = above 0 0 (omega arith) in omega (arith, l, same)
above_all (y ∷ ys) n above x (inr is) = above_all ys n (λ j d l. above (suc j) d (omega arith)) x is

apart : (xs : List ℕ) → AllPairs (λ a b. a < b) xs → AreDistinct xs
apart [] up = tt
apart (x ∷ xs) up = (
  (λ h. let l : x < x = above_all xs x (λ j d m. up 0 (suc j) d (omega arith) (omega arith)) x h in absurd (omega arith)),
  apart xs (λ i j d l m. up (suc i) (suc j) d (omega arith) (omega arith)),
)

-- numbers that rise are distinct
distinct_numbers : (xs : List ℕ) → IsStrictlyIncreasing xs → AreDistinct xs
distinct_numbers xs order = apart xs (AllPairs-from_increasing xs order)

node_in : (params : List Param) (id : ParamId) → IsIn id (map (λ (p : Param). p.id) params) → IsIn id.node.0 (map node params)
node_in [] id is = absurd is
node_in (p ∷ ps) id (inl same) = inl (ap (λ (x : ParamId). x.node.0) same)
node_in (p ∷ ps) id (inr is) = inr (node_in ps id is)

distinct_ids : (params : List Param) → AreDistinct (map node params) → AreDistinct (map (λ (p : Param). p.id) params)
distinct_ids [] once = tt
distinct_ids (p ∷ ps) once = ((λ h. once.0 (node_in ps p.id h)), distinct_ids ps once.1)

pub distinct_from_order : (params : List Param) → AreInOrder params → AreDistinct (map (λ (p : Param). p.id) params)
distinct_from_order params order = distinct_ids params (distinct_numbers (map node params) order)

-- no parameter of a world stands twice
pub params_once : (w : World) → IsValid w → AreDistinct (param_ids w)
params_once w valid = distinct_from_order w.params.items valid.params.order

-- and no schedule
pub plays_once : (w : World) → IsValid w → AreDistinct (play_nodes w)
plays_once w valid = distinct_numbers (play_nodes w) valid.scheds.order

-- a parameter that is there is found
pub found_there : (params : List Param) (id : ParamId) (i : ℕ) (d : Param) → AreInOrder params → i < length params → same_param (slice_index_or params i d).id id ≡ true
    → position (λ (p : Param). same_param p.id id) params ≡ Some i
found_there params id i d order l t = position_is (λ (p : Param). p.id) (λ p. same_param p.id id) id (λ p h. same_param_is p.id id h) params i d (distinct_from_order params order) l t

pub param_position : (w : World) → IsValid w → (id : ParamId) (i : ℕ) (d : Param) → i < length w.params.items → same_param (slice_index_or w.params.items i d).id id ≡ true
    → position (λ (p : Param). same_param p.id id) w.params.items ≡ Some i
param_position w valid id i d l t = found_there w.params.items id i d valid.params.order l t

pub play_position : (w : World) → IsValid w → (node i : ℕ) (d : Play) → i < length w.scheds.items → ((slice_index_or w.scheds.items i d).id.0 == node) ≡ true
    → position (λ (p : Play). p.id.0 == node) w.scheds.items ≡ Some i
play_position w valid node i d l t = position_is (λ (p : Play). p.id.0) (λ p. p.id.0 == node) node (λ p h. let same : p.id.0 ≡ node = grind (arith, nat_tests) in same) w.scheds.items i d (plays_once w valid) l t

-- an item of the list is at a place
pub at_place : {X : Type 0} (xs : List X) (x : X) → IsIn x xs → (i : ℕ) × (i < length xs) × (slice_get xs i ≡ Some x)
at_place [] x is = absurd is
at_place (y ∷ ys) x (inl same) = (0, omega arith, ap Some (sym same))
at_place (y ∷ ys) x (inr is) = let k = at_place ys x is in (suc k.0, let l = k.1 in omega arith, k.2)

-- and an item at a place is in the list
pub found_is_in : {X : Type 0} (xs : List X) (i : ℕ) (x : X) → slice_get xs i ≡ Some x → IsIn x xs
found_is_in [] i x is = absurd cc
found_is_in (y ∷ xs) zero x is = inl (let found : Some y ≡ Some x = is in sym (ap (λ o. unwrap_or o x) found))
found_is_in (y ∷ xs) (suc i) x is = inr (found_is_in xs i x is)
