-- The sources of the connections that calls make, call by call.
use Rattle.std.proofs.Common.{ℕ, ◌≡◌, ◌<◌, List, [], ◌∷◌, ◌++◌, ◌+◌, ◌≤◌, set, take, get_or, replicate, length, Bool, true, false, Some, None, inl, inr, refl, sym, ◌∙◌, ap, subst, arith}
use Rattle.std.specs.Prelude.{if◌then◌else◌, All}
use Rattle.std.specs.List.{cons_option}
use Rattle.std.proofs.lemmas.Bool.{cases_eq, cases_lt, eq-eqb, ne_eqb}
use Rattle.std.proofs.lemmas.Grind.{flat_map-append}
use Rattle.std.proofs.lemmas.List.{append-nil, take_more, take_all, get_or-set_same, get_or-set_other, get_or-replicate, get_or_past, length-replicate}
use Rattle.std.proofs.lemmas.List.Elements.{filter_map-append, All-head, All-tail}
use Rattle.law_base.specs.Members.{IsIn}
use Rattle.law_base.proofs.Members.{IsIn-append}
use Rattle.prune_script.specs.Pruned.{first_two}
use Rattle.prune_script.specs.Deeds.{DeedView, link, links, IsBelow, AreBelow}
use Rattle.prune_script.specs.Live.{source_to, sources_to, sources_at}
use Rattle.prune_script.proofs.Liveness.{in_sources}

-- each list has the sources of the connections that the calls make to its node
abbrev pub AreSources : List (List ℕ) → List DeedView → Type 0
AreSources sources ds = (node : ℕ) → sources_at sources node ≡ sources_to node (links ds)

pub sources_none : (count : ℕ) → AreSources (replicate count []) []
sources_none count node = elim (cases_lt node count) [
  | inl low ↦ get_or-replicate count node [] [] low
  | inr past ↦ get_or_past (replicate count []) node [] (let l = length-replicate {A = List ℕ} count [] in omega arith)
]

links_push : (ds : List DeedView) (d : DeedView) → links (ds ++ d ∷ []) ≡ links ds ++ link d
links_push ds d = flat_map-append link ds (d ∷ []) ∙ ap (λ xs. links ds ++ xs) (append-nil (link d))

to_push : (node : ℕ) (ds : List DeedView) (d : DeedView) → sources_to node (links (ds ++ d ∷ [])) ≡ sources_to node (links ds) ++ sources_to node (link d)
to_push node ds d = ap (sources_to node) (links_push ds d) ∙ filter_map-append (source_to node) (links ds) (link d)

pub push_none : (sources : List (List ℕ)) (ds : List DeedView) (d : DeedView) → link d ≡ [] → AreSources sources ds → AreSources sources (ds ++ d ∷ [])
push_none sources ds d none are node = are node ∙ sym (to_push node ds d ∙ ap (λ xs. sources_to node (links ds) ++ sources_to node xs) none ∙ append-nil (sources_to node (links ds)))

pub push_link : (sources : List (List ℕ)) (ds : List DeedView) (d : DeedView) (from to : ℕ) → link d ≡ (from, to) ∷ [] → to < length sources
    → AreSources sources ds → AreSources (set sources to (sources_at sources to ++ from ∷ [])) (ds ++ d ∷ [])
push_link sources ds d from to is low are node = elim (cases_eq node to) [
  | inl e ↦
      ap (sources_at (set sources to (sources_at sources to ++ from ∷ []))) e
      ∙ get_or-set_same sources to (sources_at sources to ++ from ∷ []) [] low
      ∙ ap (λ xs. xs ++ from ∷ []) (are to)
      ∙ sym (ap (λ n. sources_to n (links (ds ++ d ∷ []))) e ∙ to_push to ds d
      ∙ ap (λ xs. sources_to to (links ds) ++ sources_to to xs) is
      ∙ ap (λ b. sources_to to (links ds) ++ cons_option (if b then Some from else None) []) (eq-eqb to to refl))
  | inr ne ↦
      get_or-set_other sources to node (sources_at sources to ++ from ∷ []) [] ne
      ∙ are node
      ∙ sym (to_push node ds d
      ∙ ap (λ xs. sources_to node (links ds) ++ sources_to node xs) is
      ∙ ap (λ b. sources_to node (links ds) ++ cons_option (if b then Some from else None) []) (ne_eqb to node (λ e. ne (sym e)))
      ∙ append-nil (sources_to node (links ds)))
]

module _ (ds : List DeedView) (i : ℕ) (d : DeedView) (low : i < length ds) (is : d ≡ get_or ds i d) (sources : List (List ℕ)) (are : AreSources sources (take i ds)) where
  at_next : (sources' : List (List ℕ)) → AreSources sources' (take i ds ++ d ∷ []) → AreSources sources' (take (i + 1) ds)
  at_next sources' next = subst (λ xs. AreSources sources' xs) (ap (λ x. take i ds ++ x ∷ []) is ∙ sym (take_more ds i d low)) next

  pub none_at : (sources' : List (List ℕ)) → [] ≡ link d → sources' ≡ sources → AreSources sources' (take (i + 1) ds)
  none_at sources' none same = at_next sources' (subst (λ ss. AreSources ss (take i ds ++ d ∷ [])) (sym same) (push_none sources (take i ds) d (sym none) are))

  pub link_at : (sources' : List (List ℕ)) (from to : ℕ) → (from, to) ∷ [] ≡ link d → to < length sources → sources' ≡ set sources to (sources_at sources to ++ from ∷ []) → AreSources sources' (take (i + 1) ds)
  link_at sources' from to links_to within same = at_next sources' (subst (λ ss. AreSources ss (take i ds ++ d ∷ [])) (sym same) (push_link sources (take i ds) d from to (sym links_to) within are))

pub all_sources : (ds : List DeedView) (i : ℕ) (sources : List (List ℕ)) → length ds ≤ i → AreSources sources (take i ds) → AreSources sources ds
all_sources ds i sources past are = subst (λ xs. AreSources sources xs) (take_all i ds past) are

-- ---- numbers

link_below : (count : ℕ) (d : DeedView) → IsBelow count d → (from to : ℕ) → IsIn (from, to) (link d) → from < count
link_below count d below from to h = by_test d.connects d.nodes below.nodes h
  where
    by_test : (b : Bool) (nodes : List ℕ) → All (λ node. node < count) nodes → IsIn (from, to) (if b then first_two nodes else []) → from < count
    by_test false nodes low h = absurd h
    by_test true [] low h = absurd h
    by_test true (a ∷ []) low h = absurd h
    by_test true (a ∷ b ∷ more) low (inl e) =
        let same : from ≡ a = ap (λ (p : ℕ × ℕ). p.0) e in
        let first : a < count = All-head (λ (node : ℕ). node < count) a (b ∷ more) low in subst (λ n. n < count) (sym same) first
    by_test true (a ∷ b ∷ more) low (inr h) = absurd h

links_below : (count : ℕ) (ds : List DeedView) → AreBelow count ds → (from to : ℕ) → IsIn (from, to) (links ds) → from < count
links_below count [] below from to h = absurd h
links_below count (d ∷ ds) below from to h = elim (IsIn-append (link d) (links ds) (from, to) h) [
  | inl k ↦ link_below count d (All-head (IsBelow count) d ds below) from to k
  | inr k ↦ links_below count ds (All-tail (IsBelow count) d ds below) from to k
]

-- and each target
pub targets_below : (count : ℕ) (d : DeedView) → IsBelow count d → (from to : ℕ) → (from, to) ∷ [] ≡ link d → to < count
targets_below count d below from to is = by_test d.connects d.nodes below.nodes is
  where
    by_test : (b : Bool) (nodes : List ℕ) → All (λ node. node < count) nodes → (from, to) ∷ [] ≡ (if b then first_two nodes else []) → to < count
    by_test false nodes low h = absurd cc
    by_test true [] low h = absurd cc
    by_test true (a ∷ []) low h = absurd cc
    by_test true (a ∷ b ∷ more) low h =
        let pair : (from, to) ≡ (a, b) = cc in
        let same : to ≡ b = ap (λ (p : ℕ × ℕ). p.1) pair in
        let second : b < count = All-head (λ (node : ℕ). node < count) b more (All-tail (λ (node : ℕ). node < count) a (b ∷ more) low) in subst (λ n. n < count) (sym same) second

-- each source is a node
pub sources_below : (count : ℕ) (ds : List DeedView) → AreBelow count ds → (from to : ℕ) → IsIn from (sources_to to (links ds)) → from < count
sources_below count ds below from to h = links_below count ds below from to (in_sources (links ds) (links ds) from to h)
