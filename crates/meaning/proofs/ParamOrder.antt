-- Parameters that stand in order of their nodes: each is there once, and a search that halves the list finds it.
use Rattle.std.proofs.Common.{ℕ, zero, suc, ◌≡◌, ◌<◌, ◌≤◌, ◌+◌, ◌++◌, length, List, [], ◌∷◌, map, slice_index_or, Bool, true, false, cond, not, None, Some, inl, inr, refl, sym, ◌∙◌, ap, arith}
use Rattle.std.specs.Prelude.{nat_lt}
use Rattle.std.specs.List.{position, position_or_len}
use Rattle.std.specs.List.Sorted.{IsStrictlyIncreasing, IsNonDecreasingBy}
use Rattle.std.proofs.lemmas.Bool.Decides.{nat_tests}
use Rattle.std.proofs.lemmas.List.{get_or-map, length-map}
use Rattle.std.proofs.lemmas.List.Kept.{AllPairs-from_increasing}
use Rattle.std.proofs.lemmas.List.Quantifiers.{all_pairs_push}
use Rattle.wa_base.specs.declared.graph_names.ParamId.{ParamId}
use Rattle.law_base.specs.Members.{IsIn}
use Rattle.conn_graph.specs.Edges.{same_param}
use Rattle.meaning.specs.declared.params.Param.{Param}
use Rattle.meaning.proofs.FirstItems.{node, AreInOrder, same_param_is}

-- ---- a parameter more

number_in : (xs : List ℕ) (j d : ℕ) → j < length xs → IsIn (slice_index_or xs j d) xs
number_in [] j d l = absurd (omega arith)
number_in (x ∷ xs) zero d l = inl refl
number_in (x ∷ xs) (suc j) d l = inr (number_in xs j d (omega arith))

-- numbers that rise do so with a greater one behind them
pub rising_more : (xs : List ℕ) (y : ℕ) → IsStrictlyIncreasing xs → ((x : ℕ) → IsIn x xs → x < y) → IsStrictlyIncreasing (xs ++ y ∷ [])
rising_more xs y up above k l = all_pairs_push (λ a b. a < b) xs y (AllPairs-from_increasing xs up) (λ j d m. above (slice_index_or xs j d) (number_in xs j d m)) k (k + 1) 0 (omega arith) l

pub node_low : (params : List Param) (count i : ℕ) → ((id : ParamId) → IsIn id (map (λ (p : Param). p.id) params) → id.node.0 < count) → IsIn i (map node params) → i < count
node_low [] count i low is = absurd is
node_low (p ∷ ps) count i low (inl same) = let l = low p.id (inl refl) in omega (arith, l, same)
node_low (p ∷ ps) count i low (inr is) = node_low ps count i (λ id h. low id (inr h)) is

-- ---- the search

pub nodes_rise : (params : List Param) → AreInOrder params → (i j : ℕ) (d : Param) → i < j → j < length params → node (slice_index_or params i d) < node (slice_index_or params j d)
nodes_rise params order i j d l m =
    let long = length-map params node in
    let up = AllPairs-from_increasing (map node params) order i j (node d) l (omega (arith, long)) in
    omega (arith, up, get_or-map node params i d, get_or-map node params j d)

pub nodes_do_not_fall : (params : List Param) → AreInOrder params → IsNonDecreasingBy node params
nodes_do_not_fall params order i j d l m = by_test (nat_lt i j) refl
  where
    by_test : (b : Bool) → nat_lt i j ≡ b → node (slice_index_or params i d) ≤ node (slice_index_or params j d)
    by_test true is = let below : i < j = grind (arith, nat_tests) in let up = nodes_rise params order i j d below m in omega (arith, up)
    by_test false is = let same : i ≡ j = grind (arith, nat_tests) in let e = ap (λ k. node (slice_index_or params k d)) same in omega (arith, e)

all_fail : {X : Type 0} (test : X → Bool) (xs : List X) → ((i : ℕ) (d : X) → i < length xs → test (slice_index_or xs i d) ≡ false) → position_or_len test xs ≡ length xs
all_fail test [] none = refl
all_fail test (x ∷ xs) none =
    let rest = all_fail test xs (λ i d l. none (suc i) d (omega arith)) in
    ap (λ b. cond (not b) (1 + position_or_len test xs) 0) (none 0 x (omega arith)) ∙ omega (arith, rest)

none_there : {X : Type 0} (test : X → Bool) (xs : List X) → ((i : ℕ) (d : X) → i < length xs → test (slice_index_or xs i d) ≡ false) → position test xs ≡ None
none_there test xs none =
    let len = all_fail test xs none in
    let not_less : nat_lt (position_or_len test xs) (length xs) ≡ false = grind (arith, nat_tests, len) in
    ap (λ b. cond b (Some (position_or_len test xs)) None) not_less

-- one that is not where its node would be is not there
pub not_there : (params : List Param) (id : ParamId) (place : ℕ) → AreInOrder params → ((i : ℕ) (d : Param) → i < place → node (slice_index_or params i d) < id.node.0)
    → ((i : ℕ) (d : Param) → place ≤ i → i < length params → id.node.0 ≤ node (slice_index_or params i d)) → ((d : Param) → place < length params → same_param (slice_index_or params place d).id id ≡ false)
    → position (λ (p : Param). same_param p.id id) params ≡ None
not_there params id place order before behind here = none_there (λ (p : Param). same_param p.id id) params (λ i d l. by_test i d l (same_param (slice_index_or params i d).id id) refl)
  where
    by_test : (i : ℕ) (d : Param) → i < length params → (b : Bool) → same_param (slice_index_or params i d).id id ≡ b → b ≡ false
    by_test i d l false is = refl
    by_test i d l true is =
        let same : node (slice_index_or params i d) ≡ id.node.0 = ap (λ (x : ParamId). x.node.0) (same_param_is _ id is) in
        let not_before : place ≤ i = grind (arith, before i d) in
        let not_behind : i ≤ place = grind (arith, nodes_rise params order place i d, behind place d) in
        let e : i ≡ place = omega arith in
        sym is ∙ ap (λ k. same_param (slice_index_or params k d).id id) e ∙ here d (omega arith)
