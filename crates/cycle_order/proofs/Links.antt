-- Chains of links.
use Rattle.std.proofs.Common.{ℕ, zero, suc, ◌≡◌, ◌<◌, ◌≤◌, length, List, [], ◌∷◌, ◌++◌, map, get_or, set, slice_get, Option, None, Some, refl, sym, ◌∙◌, ap, arith, subst}
use Rattle.std.proofs.lemmas.List.{length_push}
use Rattle.cycle_order.specs.declared.turned.Link.{Link}
use Rattle.cycle_order.specs.Links.{link_then, chain, sources, IsBelow, AreLinked}

pub chain_none : (links : List Link) (n : ℕ) → chain links n None ≡ []
chain_none links zero = refl
chain_none links (suc n) = refl

abbrev pub AreFalling : List Link → Type 0
AreFalling links = (key : ℕ) (link : Link) → slice_get links key ≡ Some link → IsBelow key link.behind

-- a chain has no more links than the number of its first
chain_enough : (links : List Link) → AreFalling links → (n m key : ℕ) → key < n → key < m → chain links n (Some key) ≡ chain links m (Some key)
chain_enough links falls zero m key l k = absurd (omega arith)
chain_enough links falls (suc n) zero key l k = absurd (omega arith)
chain_enough links falls (suc n) (suc m) key l k = by_link (chain_enough links falls n m) (slice_get links key) refl
  where
    behind : ((j : ℕ) → j < n → j < m → chain links n (Some j) ≡ chain links m (Some j)) → (at : Option ℕ) → IsBelow key at → chain links n at ≡ chain links m at
    behind below None b = chain_none links n ∙ sym (chain_none links m)
    behind below (Some j) b = let low : j < key = b in below j (omega arith) (omega arith)

    by_link : ((j : ℕ) → j < n → j < m → chain links n (Some j) ≡ chain links m (Some j)) → (x : Option Link) → slice_get links key ≡ x → link_then (chain links n) x ≡ link_then (chain links m) x
    by_link below None e = refl
    by_link below (Some link) e = ap (λ vs. link.from ∷ vs) (behind below link.behind (falls key link e))

pub one_link : (links : List Link) → AreFalling links → (key : ℕ) (link : Link) → key < length links → slice_get links key ≡ Some link
    → chain links (length links) (Some key) ≡ link.from ∷ chain links (length links) link.behind
one_link links falls key link l is =
    chain_enough links falls (length links) (suc (length links)) key l (omega arith) ∙ ap (link_then (chain links (length links))) is

get_front : (links : List Link) (link : Link) (key : ℕ) → key < length links → slice_get (links ++ link ∷ []) key ≡ slice_get links key
get_front [] link key l = absurd (omega arith)
get_front (x ∷ links) link zero l = refl
get_front (x ∷ links) link (suc key) l = get_front links link key (omega arith)

get_end : (links : List Link) (link : Link) → slice_get (links ++ link ∷ []) (length links) ≡ Some link
get_end [] link = refl
get_end (x ∷ links) link = get_end links link

-- a link more changes no chain that was there
chain_front : (links : List Link) (more : Link) → AreFalling links → (n : ℕ) (at : Option ℕ) → IsBelow (length links) at → chain (links ++ more ∷ []) n at ≡ chain links n at
chain_front links more falls zero at b = refl
chain_front links more falls (suc n) None b = refl
chain_front links more falls (suc n) (Some key) b = ap (link_then (chain (links ++ more ∷ []) n)) (get_front links more key b) ∙ by_link (chain_front links more falls n) (slice_get links key) refl
  where
    lower : (at : Option ℕ) → IsBelow key at → IsBelow (length links) at
    lower None h = tt
    lower (Some j) h = let low : j < key = h in let l : key < length links = b in let r : j < length links = omega arith in r

    by_link : ((at : Option ℕ) → IsBelow (length links) at → chain (links ++ more ∷ []) n at ≡ chain links n at) → (x : Option Link) → slice_get links key ≡ x
        → link_then (chain (links ++ more ∷ []) n) x ≡ link_then (chain links n) x
    by_link below None e = refl
    by_link below (Some link) e = ap (λ vs. link.from ∷ vs) (below link.behind (lower link.behind (falls key link e)))

same_chain : (links : List Link) (more : Link) → AreFalling links → (at : Option ℕ) → IsBelow (length links) at → chain (links ++ more ∷ []) (suc (length links)) at ≡ chain links (length links) at
same_chain links more falls at b = chain_front links more falls (suc (length links)) at b ∙ enough at b
  where
    enough : (at : Option ℕ) → IsBelow (length links) at → chain links (suc (length links)) at ≡ chain links (length links) at
    enough None b = sym (chain_none links (length links))
    enough (Some key) b = let l : key < length links = b in chain_enough links falls (suc (length links)) (length links) key (omega arith) l

maps_agree : (n : ℕ) (firsts : List (Option ℕ)) (f g : Option ℕ → List ℕ) → ((at : Option ℕ) → IsBelow n at → f at ≡ g at) → ((v : ℕ) → IsBelow n (get_or firsts v None))
    → map f firsts ≡ map g firsts
maps_agree n [] f g same there = refl
maps_agree n (at ∷ firsts) f g same there = ap (λ x. x ∷ map f firsts) (same at (there 0)) ∙ ap (λ xs. g at ∷ xs) (maps_agree n firsts f g same (λ v. there (suc v)))

map_set : (f : Option ℕ → List ℕ) (firsts : List (Option ℕ)) (v : ℕ) (at : Option ℕ) → map f (set firsts v at) ≡ set (map f firsts) v (f at)
map_set f [] v at = refl
map_set f (x ∷ firsts) zero at = refl
map_set f (x ∷ firsts) (suc v) at = ap (λ xs. f x ∷ xs) (map_set f firsts v at)

pub source_at : (links : List Link) (firsts : List (Option ℕ)) (v : ℕ) → get_or (sources links firsts) v [] ≡ chain links (length links) (get_or firsts v None)
source_at links [] v = sym (chain_none links (length links))
source_at links (at ∷ firsts) zero = refl
source_at links (at ∷ firsts) (suc v) = source_at links firsts v

pub none_linked : (firsts : List (Option ℕ)) (v : ℕ) → get_or (sources [] firsts) v [] ≡ []
none_linked [] v = refl
none_linked (at ∷ firsts) zero = refl
none_linked (at ∷ firsts) (suc v) = none_linked firsts v

-- a link more before those of a vertex
pub one_more : (links : List Link) (firsts : List (Option ℕ)) → AreLinked links firsts → (from v : ℕ)
    → sources (links ++ (record { from = from; behind = get_or firsts v None }) ∷ []) (set firsts v (Some (length links))) ≡ set (sources links firsts) v (from ∷ get_or (sources links firsts) v [])
one_more links firsts linked from v =
    let more : Link = record { from = from; behind = get_or firsts v None } in
    let n : length (links ++ more ∷ []) ≡ suc (length links) = let k = length_push links more in omega arith in
    let there = linked.there in
    ap (λ k. map (chain (links ++ more ∷ []) k) (set firsts v (Some (length links)))) n
    ∙ map_set (chain (links ++ more ∷ []) (suc (length links))) firsts v (Some (length links))
    ∙ ap (λ xs. set xs v (chain (links ++ more ∷ []) (suc (length links)) (Some (length links))))
    (maps_agree (length links) firsts _ _ (same_chain links more linked.falls) there)
    ∙ ap (set (sources links firsts) v) (
    ap (link_then (chain (links ++ more ∷ []) (length links))) (get_end links more)
    ∙ ap (λ vs. from ∷ vs) (chain_front links more linked.falls (length links) (get_or firsts v None) (there v) ∙ sym (source_at links firsts v)))

-- ---- along a chain

-- how many links there can be from a link on
abbrev pub left : Option ℕ → ℕ
left None = 0
left (Some key) = suc key

pub left_below : (key : ℕ) (at : Option ℕ) → IsBelow key at → left at ≤ key
left_below key None b = omega arith
left_below key (Some j) b = let low : j < key = b in omega arith

pub below_more : (key n : ℕ) (at : Option ℕ) → key < n → IsBelow key at → IsBelow n at
below_more key n None l b = tt
below_more key n (Some j) l b = let low : j < key = b in let r : j < n = omega arith in r

pub link_read : (links : List Link) (key : ℕ) (link : Link) → key < length links → link ≡ get_or links key link → slice_get links key ≡ Some link
link_read [] key link l is = absurd (omega arith)
link_read (x ∷ links) zero link l is = ap (λ y. Some y) (sym is)
link_read (x ∷ links) (suc key) link l is = link_read links key link (omega arith) is

-- the link that a key names stands before the rest of the chain, and leads to an earlier one
module _ (links : List Link) (firsts : List (Option ℕ)) (linked : AreLinked links firsts) (at : Option ℕ) (key : ℕ) (link : Link) (is : at ≡ Some key) (there : IsBelow (length links) at) (read : link ≡ get_or links key link) where
  inside : key < length links
  inside = subst (IsBelow (length links)) is there

  behind_below : IsBelow key link.behind
  behind_below = linked.falls key link (link_read links key link inside read)

  pub next_links : chain links (length links) at ≡ link.from ∷ chain links (length links) link.behind
  next_links = ap (chain links (length links)) is ∙ one_link links linked.falls key link inside (link_read links key link inside read)

  pub next_there : IsBelow (length links) link.behind
  next_there = below_more key (length links) link.behind inside behind_below

  pub next_less : left link.behind < left at
  next_less = let low = left_below key link.behind behind_below in let here : left at ≡ suc key = ap left is in omega arith
