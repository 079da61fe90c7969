-- Marking nodes one after the other, and spreading the marks against the connections.
use Rattle.std.proofs.Common.{ℕ, zero, suc, ◌≡◌, ◌+◌, ◌<◌, ◌≤◌, length, List, [], ◌∷◌, ◌++◌, set, get_or, take, replicate, Bool, true, false, not, ◌⊎◌, inl, inr, refl, sym, ◌∙◌, ap, arith, subst, filter}
use Rattle.std.proofs.lemmas.Bool.{cases_eq, cases_lt}
use Rattle.std.proofs.lemmas.List.{take_more, take_all, get_or-set_same, get_or-set_other, length_push, length-set, length-replicate, get_or-replicate, get_or_past}
use Rattle.law_base.specs.Members.{IsIn}
use Rattle.law_base.proofs.Members.{IsIn-append, IsIn-append_first, IsIn-append_second}
use Rattle.prune_script.specs.Live.{sources_at, IsLed, there, further, is_marked, IsMarking, AreLed}

marked-set : (marks : List Bool) (v u : ℕ) → (u ≡ v) ⊎ (is_marked (set marks v true) u ≡ is_marked marks u)
marked-set marks v u = elim (cases_eq u v) [ inl e ↦ inl e | inr ne ↦ inr (get_or-set_other marks v u true false ne) ]

-- one unmarked node fewer
unmarked-set : (marks : List Bool) (v : ℕ) → v < length marks → is_marked marks v ≡ false → length (filter not (set marks v true)) + 1 ≡ length (filter not marks)
unmarked-set [] v l e = absurd (omega arith)
unmarked-set (true ∷ ms) zero l e = absurd cc
unmarked-set (false ∷ ms) zero l e = omega arith
unmarked-set (true ∷ ms) (suc v) l e = unmarked-set ms v (omega arith) e
unmarked-set (false ∷ ms) (suc v) l e = let k = unmarked-set ms v (omega arith) e in omega arith

pub marking_none : (marks : List Bool) (waiting : List ℕ) → IsMarking [] marks waiting marks waiting
marking_none marks waiting = record {
  these = λ u h. absurd h;
  kept = λ u m. m;
  fresh = λ u m. inl m;
  still = λ u h. h;
  from = λ u h. inl h;
  same = refl;
  number = refl;
}

module _ (nodes : List ℕ) (v : ℕ) (marks : List Bool) (waiting : List ℕ) (marks' : List Bool) (waiting' : List ℕ) (r : IsMarking nodes marks waiting marks' waiting') where
  more_nodes : (u : ℕ) → IsIn u nodes → IsIn u (nodes ++ v ∷ [])
  more_nodes u h = IsIn-append_first nodes (v ∷ []) u h

  -- a node that is marked already
  pub marking_seen : is_marked marks' v ≡ true → IsMarking (nodes ++ v ∷ []) marks waiting marks' waiting'
  marking_seen seen = record {
    these = λ u h. elim (IsIn-append nodes (v ∷ []) u h) [ inl k ↦ r.these u k | inr k ↦ elim k [ inl e ↦ subst (λ x. is_marked marks' x ≡ true) (sym e) seen | inr n ↦ absurd n ] ];
    kept = r.kept;
    fresh = λ u m. elim (r.fresh u m) [ inl k ↦ inl k | inr k ↦ inr (more_nodes u k.0, k.1) ];
    still = r.still;
    from = λ u h. elim (r.from u h) [ inl k ↦ inl k | inr k ↦ inr (more_nodes u k) ];
    same = r.same;
    number = r.number;
  }

  module _ (l : v < length marks') (new : is_marked marks' v ≡ false) where
    here : is_marked (set marks' v true) v ≡ true
    here = get_or-set_same marks' v true false l

    before : (u : ℕ) → is_marked marks' u ≡ true → (u ≡ v) ⊎ (is_marked (set marks' v true) u ≡ is_marked marks' u) → is_marked (set marks' v true) u ≡ true
    before u m (inl e) = subst (λ x. is_marked (set marks' v true) x ≡ true) (sym e) here
    before u m (inr e) = e ∙ m

    last_node : (u : ℕ) → u ≡ v → IsIn u (nodes ++ v ∷ [])
    last_node u e = IsIn-append_second nodes (v ∷ []) u (inl e)

    last_waits : (u : ℕ) → u ≡ v → IsIn u (waiting' ++ v ∷ [])
    last_waits u e = IsIn-append_second waiting' (v ∷ []) u (inl e)

    these_after : (u : ℕ) → IsIn u (nodes ++ v ∷ []) → is_marked (set marks' v true) u ≡ true
    these_after u h = elim (IsIn-append nodes (v ∷ []) u h) [
      | inl k ↦ before u (r.these u k) (marked-set marks' v u)
      | inr k ↦ elim k [ inl e ↦ subst (λ x. is_marked (set marks' v true) x ≡ true) (sym e) here | inr n ↦ absurd n ]
    ]

    fresh_after : (u : ℕ) → is_marked (set marks' v true) u ≡ true → (u ≡ v) ⊎ (is_marked (set marks' v true) u ≡ is_marked marks' u)
        → (is_marked marks u ≡ true) ⊎ (IsIn u (nodes ++ v ∷ []) × IsIn u (waiting' ++ v ∷ []))
    fresh_after u m (inl e) = inr (last_node u e, last_waits u e)
    fresh_after u m (inr e) = elim (r.fresh u (sym e ∙ m)) [ inl k ↦ inl k | inr k ↦ inr (more_nodes u k.0, IsIn-append_first waiting' (v ∷ []) u k.1) ]

    from_after : (u : ℕ) → IsIn u (waiting' ++ v ∷ []) → IsIn u waiting ⊎ IsIn u (nodes ++ v ∷ [])
    from_after u h = elim (IsIn-append waiting' (v ∷ []) u h) [
      | inl k ↦ elim (r.from u k) [ inl w ↦ inl w | inr n ↦ inr (more_nodes u n) ]
      | inr k ↦ elim k [ inl e ↦ inr (last_node u e) | inr n ↦ absurd n ]
    ]

    -- one that is not
    pub marking_fresh : IsMarking (nodes ++ v ∷ []) marks waiting (set marks' v true) (waiting' ++ v ∷ [])
    marking_fresh = record {
      these = these_after;
      kept = λ u m. before u (r.kept u m) (marked-set marks' v u);
      fresh = λ u m. fresh_after u m (marked-set marks' v u);
      still = λ u h. IsIn-append_first waiting' (v ∷ []) u (r.still u h);
      from = from_after;
      same = length-set marks' v true ∙ r.same;
      number = let n = r.number in let k = unmarked-set marks' v l new in let p = length_push waiting' v in omega arith;
    }

-- ---- marking the nodes of a list in their order

pub IsIn-get_or : {X : Type 0} (xs : List X) (i : ℕ) (d : X) → i < length xs → IsIn (get_or xs i d) xs
IsIn-get_or [] i d l = absurd (omega arith)
IsIn-get_or (x ∷ xs) zero d l = inl refl
IsIn-get_or (x ∷ xs) (suc i) d l = inr (IsIn-get_or xs i d (omega arith))

module _ (nodes : List ℕ) (i : ℕ) (marks : List Bool) (waiting : List ℕ) (marks' : List Bool) (waiting' : List ℕ) (marks'' : List Bool) (waiting'' : List ℕ)
    (low : i < length nodes) (r : IsMarking (take i nodes) marks waiting marks' waiting') where
  pub seen_at : is_marked marks' (get_or nodes i 0) ≡ true → marks'' ≡ marks' → waiting'' ≡ waiting' → IsMarking (take (i + 1) nodes) marks waiting marks'' waiting''
  seen_at seen same still =
      subst (λ ns. IsMarking ns marks waiting marks'' waiting'') (sym (take_more nodes i 0 low))
      (subst (λ ms. IsMarking (take i nodes ++ get_or nodes i 0 ∷ []) marks waiting ms waiting'') (sym same)
      (subst (λ ws. IsMarking (take i nodes ++ get_or nodes i 0 ∷ []) marks waiting marks' ws) (sym still)
      (marking_seen (take i nodes) (get_or nodes i 0) marks waiting marks' waiting' r seen)))

  pub fresh_at : get_or nodes i 0 < length marks' → is_marked marks' (get_or nodes i 0) ≡ false → marks'' ≡ set marks' (get_or nodes i 0) true → waiting'' ≡ waiting' ++ get_or nodes i 0 ∷ []
      → IsMarking (take (i + 1) nodes) marks waiting marks'' waiting''
  fresh_at within new marked waits =
      subst (λ ns. IsMarking ns marks waiting marks'' waiting'') (sym (take_more nodes i 0 low))
      (subst (λ ms. IsMarking (take i nodes ++ get_or nodes i 0 ∷ []) marks waiting ms waiting'') (sym marked)
      (subst (λ ws. IsMarking (take i nodes ++ get_or nodes i 0 ∷ []) marks waiting (set marks' (get_or nodes i 0) true) ws) (sym waits)
      (marking_fresh (take i nodes) (get_or nodes i 0) marks waiting marks' waiting' r within new)))

pub all_marked : (nodes : List ℕ) (i : ℕ) (marks : List Bool) (waiting : List ℕ) (marks' : List Bool) (waiting' : List ℕ) → length nodes ≤ i
    → IsMarking (take i nodes) marks waiting marks' waiting' → IsMarking nodes marks waiting marks' waiting'
all_marked nodes i marks waiting marks' waiting' past r = subst (λ ns. IsMarking ns marks waiting marks' waiting') (take_all i nodes past) r

-- ---- spreading

-- Marked nodes lead to the destination, and what leads to one is marked, or the node still waits.
pub record IsSpreading (sources : List (List ℕ)) (marks : List Bool) (waiting : List ℕ) : Type 0 where
  pub same : length marks ≡ length sources
  pub there : is_marked marks 0 ≡ true
  pub each : (node : ℕ) → is_marked marks node ≡ true → IsIn node waiting ⊎ ((source : ℕ) → IsIn source (sources_at sources node) → is_marked marks source ≡ true)
  pub led : (node : ℕ) → is_marked marks node ≡ true → IsLed sources node
  pub marked : (node : ℕ) → IsIn node waiting → is_marked marks node ≡ true

pub marked_within : (marks : List Bool) (node : ℕ) → is_marked marks node ≡ true → node < length marks
marked_within marks node m = elim (cases_lt node (length marks)) [
  | inl low ↦ low
  | inr past ↦ let none = get_or_past marks node false past in let f : true ≡ false = sym m ∙ none in absurd cc
]

pub none_marked : (n node : ℕ) → is_marked (replicate n false) node ≡ false
none_marked n node = elim (cases_lt node n) [
  | inl low ↦ get_or-replicate n node false false low
  | inr past ↦ get_or_past (replicate n false) node false (let l = length-replicate n false in omega arith)
]

-- at first the destination alone is marked, and waits
pub spread_start : (sources : List (List ℕ)) → 0 < length sources → IsSpreading sources (set (replicate (length sources) false) 0 true) (0 ∷ [])
spread_start sources some = record {
  same = length-set (replicate (length sources) false) 0 true ∙ length-replicate (length sources) false;
  there = first;
  each = λ node m. inl (inl (only node m (marked-set (replicate (length sources) false) 0 node)));
  led = λ node m. subst (λ n. IsLed sources n) (sym (only node m (marked-set (replicate (length sources) false) 0 node))) there;
  marked = λ node h. elim h [ inl e ↦ subst (λ n. is_marked (set (replicate (length sources) false) 0 true) n ≡ true) (sym e) first | inr n ↦ absurd n ];
}
  where
    first : is_marked (set (replicate (length sources) false) 0 true) 0 ≡ true
    first = get_or-set_same (replicate (length sources) false) 0 true false (let l = length-replicate (length sources) false in omega arith)

    only : (node : ℕ) → is_marked (set (replicate (length sources) false) 0 true) node ≡ true
        → (node ≡ 0) ⊎ (is_marked (set (replicate (length sources) false) 0 true) node ≡ is_marked (replicate (length sources) false) node) → node ≡ 0
    only node m (inl e) = e
    only node m (inr e) = let f : true ≡ false = sym m ∙ e ∙ none_marked (length sources) node in absurd cc

pub start_at : (sources : List (List ℕ)) (n : ℕ) (live : List Bool) (waiting : List ℕ) → 0 < length sources → n ≡ length sources → live ≡ replicate n false → waiting ≡ 0 ∷ [] → IsSpreading sources (set live 0 true) waiting
start_at sources n live waiting some same none first =
    subst (λ ws. IsSpreading sources (set live 0 true) ws) (sym first)
    (subst (λ ms. IsSpreading sources (set ms 0 true) (0 ∷ [])) (sym (none ∙ ap (λ k. replicate k false) same)) (spread_start sources some))

-- a node that waits is one of those for which there are sources
pub waiting_within : (sources : List (List ℕ)) (marks : List Bool) (waiting rest : List ℕ) (node : ℕ) → IsSpreading sources marks waiting → waiting ≡ rest ++ node ∷ [] → node < length sources
waiting_within sources marks waiting rest node s is =
    subst (λ n. node < n) s.same (marked_within marks node (s.marked node (subst (λ ws. IsIn node ws) (sym is) (IsIn-append_second rest (node ∷ []) node (inl refl)))))

-- a waiting node is taken, and what leads to it is marked
pub spread_step : (sources : List (List ℕ)) (node : ℕ) (marks : List Bool) (waiting : List ℕ) (marks' : List Bool) (waiting' : List ℕ)
    → IsSpreading sources marks (waiting ++ node ∷ []) → IsMarking (sources_at sources node) marks waiting marks' waiting' → IsSpreading sources marks' waiting'
spread_step sources node marks waiting marks' waiting' s r = record {
  same = r.same ∙ s.same;
  there = r.kept 0 s.there;
  each = each;
  led = λ n m. elim (r.fresh n m) [
    | inl k ↦ s.led n k
    | inr k ↦ further node n (s.led node (s.marked node (IsIn-append_second waiting (node ∷ []) node (inl refl)))) k.0
  ];
  marked = λ n h. elim (r.from n h) [ inl k ↦ r.kept n (s.marked n (IsIn-append_first waiting (node ∷ []) n k)) | inr k ↦ r.these n k ];
}
  where
    old : (n : ℕ) → IsIn n (waiting ++ node ∷ []) → IsIn n waiting' ⊎ ((source : ℕ) → IsIn source (sources_at sources n) → is_marked marks' source ≡ true)
    old n h = elim (IsIn-append waiting (node ∷ []) n h) [
      | inl k ↦ inl (r.still n k)
      | inr k ↦ elim k [ inl e ↦ inr (λ source i. r.these source (subst (λ x. IsIn source (sources_at sources x)) e i)) | inr never ↦ absurd never ]
    ]

    each : (n : ℕ) → is_marked marks' n ≡ true → IsIn n waiting' ⊎ ((source : ℕ) → IsIn source (sources_at sources n) → is_marked marks' source ≡ true)
    each n m = elim (r.fresh n m) [
      | inl k ↦ elim (s.each n k) [ inl w ↦ old n w | inr closed ↦ inr (λ source i. r.kept source (closed source i)) ]
      | inr k ↦ inl k.1
    ]

-- where no node waits, the marks are spread
pub spread_done : (sources : List (List ℕ)) (marks : List Bool) → IsSpreading sources marks [] → AreLed sources marks
spread_done sources marks s = record {
  same = s.same;
  there = s.there;
  closed = λ node source m i. elim (s.each node m) [ inl w ↦ absurd w | inr closed ↦ closed source i ];
  led = s.led;
}
