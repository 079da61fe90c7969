-- Going along a walk, and taking the named connections of it away on the way.
use Rattle.std.proofs.Common.{ℕ, zero, suc, ◌≡◌, ◌+◌, ◌<◌, ◌≤◌, length, [], ◌∷◌, ◌++◌, take, drop, slice_get, slice_set, filter, Bool, true, false, not, cond, ◌||◌, Option, None, Some, inl, inr, refl, sym, ◌∙◌, ap, ap₂, subst, arith}
use Rattle.std.specs.Prelude.{◌==◌}
use Rattle.std.specs.List.{list_any}
use Rattle.std.proofs.lemmas.List.{append-nil, append_assoc, get_or-set_same, set-set, set-get_or, length-set, length-append, drop_all, take_all}
use Rattle.std.proofs.lemmas.List.Elements.{filter-append}
use Rattle.law_base.specs.Members.{IsIn, AreDistinct}
use Rattle.std.proofs.lemmas.Bool.{eqb-true}
use Rattle.law_base.proofs.Members.{IsIn-append_second, list_any-IsIn}
use Rattle.law_base.proofs.Tests.{and_parts}
use Rattle.conn_graph.proofs.Joined.{filter_all, edge_in}
use Rattle.conn_graph.proofs.Leaving.{entered}
use Rattle.conn_graph.specs.declared.edges.Edge.{Edge}
use Rattle.conn_graph.specs.declared.edges.Form.{Form}
use Rattle.conn_graph.specs.declared.cells.Side.{Side}
use Rattle.conn_graph.specs.declared.cells.Side.TheVariants.{Out, In}
use Rattle.conn_graph.specs.Edges.{target_node, form_node, is_meant, is_named}
use Rattle.conn_graph.specs.Walks.{Walk, next_step, IsOnWalk}
use Rattle.conn_graph.specs.Lists.{keys, edges_of, walk_at, thread, Threads, AreThreads}
use Rattle.conn_graph.proofs.Segments.{key_in}
use Rattle.conn_graph.proofs.Walking.{behind_at}

-- the step at a place, and the walk in two parts
step_at : (walk : Walk) (i : ℕ) (s : ℕ × Edge) → Some s ≡ slice_get (drop i walk) 0
    → (drop i walk ≡ s ∷ drop (suc i) walk) × (walk ≡ take i walk ++ s ∷ drop (suc i) walk) × (take (suc i) walk ≡ take i walk ++ s ∷ [])
step_at [] zero s h = absurd cc
step_at [] (suc i) s h = absurd cc
step_at (x ∷ walk) zero s h = let same : s ≡ x = cc in (ap (λ y. y ∷ walk) (sym same), ap (λ y. y ∷ walk) (sym same), ap (λ y. y ∷ []) (sym same))
step_at (x ∷ walk) (suc i) s h = let r = step_at walk i s h in (r.0, ap (λ w. x ∷ w) r.1, ap (λ w. x ∷ w) r.2)

pub step_here : (walk : Walk) (i : ℕ) (s : ℕ × Edge) → Some s ≡ slice_get (drop i walk) 0
    → (drop i walk ≡ s ∷ drop (i + 1) walk) × (walk ≡ take i walk ++ s ∷ drop (i + 1) walk) × (take (i + 1) walk ≡ take i walk ++ s ∷ [])
step_here walk i s h =
    subst (λ n. (drop i walk ≡ s ∷ drop n walk) × (walk ≡ take i walk ++ s ∷ drop n walk) × (take n walk ≡ take i walk ++ s ∷ [])) (let e : suc i ≡ i + 1 = omega arith in e) (step_at walk i s h)

pub cells_of : (t : Threads) (side : Side) (node : ℕ) → AreThreads t → AreDistinct (keys (thread side t node))
cells_of t Out node h = h.out_cells node
cells_of t In node h = h.in_cells node

pub on_walk : (walk : Walk) (i : ℕ) (s : ℕ × Edge) → Some s ≡ slice_get (drop i walk) 0 → IsOnWalk walk (Some s.0)
on_walk walk i s h = subst (λ w. IsIn s.0 (keys w)) (sym (step_here walk i s h).1) (key_in _ s (IsIn-append_second (take i walk) (s ∷ drop (i + 1) walk) s (inl refl)))

pub in_walk : (walk : Walk) (i : ℕ) (s : ℕ × Edge) → Some s ≡ slice_get (drop i walk) 0 → IsIn s walk
in_walk walk i s h = subst (λ w. IsIn s w) (sym (step_here walk i s h).1) (IsIn-append_second (take i walk) (s ∷ drop (i + 1) walk) s (inl refl))

-- the step behind it stands at the next place
pub next_here : (walk : Walk) (i : ℕ) (s : ℕ × Edge) → AreDistinct (keys walk) → Some s ≡ slice_get (drop i walk) 0 → next_step walk (Some s.0) ≡ slice_get (drop (i + 1) walk) 0
next_here walk i s once h = behind_at walk s (take i walk) (drop (i + 1) walk) once (step_here walk i s h).1

-- ---- looking for a connection

-- What is left of the walk decides, and the next step is the first of it.
pub record IsLooking (test : Edge → Bool) (walk : Walk) (i : ℕ) (next : Option (ℕ × Edge)) : Type 0 where
  pub first : next ≡ slice_get (drop i walk) 0
  pub left : list_any test (edges_of (drop i walk)) ≡ list_any test (edges_of walk)

pub begins : (test : Edge → Bool) (walk : Walk) (next : Option (ℕ × Edge)) → next ≡ next_step walk None → IsLooking test walk 0 next
begins test walk next is = record { first = is; left = refl }

pub goes_on : (test : Edge → Bool) (walk : Walk) (i : ℕ) (s : ℕ × Edge) (next : Option (ℕ × Edge)) → AreDistinct (keys walk) → IsLooking test walk i (Some s) → test s.1 ≡ false → next ≡ next_step walk (Some s.0) → IsLooking test walk (i + 1) next
goes_on test walk i s next once h fails is = record {
  first = is ∙ next_here walk i s once h.first;
  left = sym (ap (λ b. b || list_any test (edges_of (drop (i + 1) walk))) fails) ∙ ap (λ w. list_any test (edges_of w)) (sym (step_here walk i s h.first).0) ∙ h.left;
}

pub found : (test : Edge → Bool) (walk : Walk) (i : ℕ) (s : ℕ × Edge) → IsLooking test walk i (Some s) → test s.1 ≡ true → true ≡ list_any test (edges_of walk)
found test walk i s h passes = sym (ap (λ b. b || list_any test (edges_of (drop (i + 1) walk))) passes) ∙ ap (λ w. list_any test (edges_of w)) (sym (step_here walk i s h.first).0) ∙ h.left

pub ended : (test : Edge → Bool) (walk : Walk) (i : ℕ) (next : Option (ℕ × Edge)) → length walk ≤ i → IsLooking test walk i next → false ≡ list_any test (edges_of walk)
ended test walk i next past h = ap (λ w. list_any test (edges_of w)) (sym (drop_all i walk past)) ∙ h.left

pub stopped : (test : Edge → Bool) (walk : Walk) (i : ℕ) → IsLooking test walk i None → false ≡ list_any test (edges_of walk)
stopped test walk i h = ap (λ w. list_any test (edges_of w)) (sym (none_left (drop i walk) h.first)) ∙ h.left
  where
    none_left : (w : Walk) → None ≡ slice_get w 0 → w ≡ []
    none_left [] e = refl
    none_left (x ∷ w) e = absurd cc

-- ---- taking connections away

abbrev pub unnamed : ℕ → Form → ℕ × Edge → Bool
unnamed from form step = not (is_named from form step.1)

-- So many steps of the walk from a node were looked at, and those that are named are gone.
pub record IsTaking (old now : Threads) (from : ℕ) (form : Form) (i : ℕ) (next : Option (ℕ × Edge)) : Type 0 where
  pub outs : now.outs ≡ slice_set old.outs from (filter (unnamed from form) (take i (walk_at old.outs from)) ++ drop i (walk_at old.outs from))
  pub nodes : now.nodes ≡ old.nodes
  pub room : now.room ≡ old.room
  pub whole : AreThreads now
  pub first : next ≡ slice_get (drop i (walk_at old.outs from)) 0

pub taking_begins : (old : Threads) (from : ℕ) (form : Form) (next : Option (ℕ × Edge)) → AreThreads old → next ≡ next_step (walk_at old.outs from) None → IsTaking old old from form 0 next
taking_begins old from form next whole is = record { outs = sym (set-get_or old.outs from []); nodes = refl; room = refl; whole = whole; first = is }

module _ (old now : Threads) (from : ℕ) (form : Form) (i : ℕ) (s : ℕ × Edge) (low : from < length old.outs) (h : IsTaking old now from form i (Some s)) where
  abbrev pub walk : Walk
  walk = walk_at old.outs from

  abbrev pub front : Walk
  front = filter (unnamed from form) (take i walk)

  abbrev pub back : Walk
  back = drop (i + 1) walk

  pub current : walk_at now.outs from ≡ front ++ s ∷ back
  current =
      ap (λ ws. walk_at ws from) h.outs
      ∙ get_or-set_same old.outs from (front ++ drop i walk) [] low
      ∙ ap (λ w. front ++ w) (step_here walk i s h.first).0

  on_current : IsIn s (walk_at now.outs from)
  on_current = subst (λ w. IsIn s w) (sym current) (IsIn-append_second front (s ∷ back) s (inl refl))

  pub is_on_current : IsOnWalk (walk_at now.outs from) (Some s.0)
  is_on_current = key_in (walk_at now.outs from) s on_current

  pub source_is : s.1.from.0 ≡ from
  source_is = h.whole.from from s on_current

  next_is : (next : Option (ℕ × Edge)) → next ≡ next_step (walk_at now.outs from) (Some s.0) → next ≡ slice_get back 0
  next_is next is = is ∙ behind_at (walk_at now.outs from) s front back (h.whole.out_cells from) current

  split_more : (b : Bool) → unnamed from form s ≡ b → filter (unnamed from form) (take (i + 1) walk) ≡ front ++ cond b (s ∷ []) []
  split_more b is =
      ap (filter (unnamed from form)) (step_here walk i s h.first).2
      ∙ filter-append (unnamed from form) (take i walk) (s ∷ [])
      ∙ ap (λ c. front ++ cond c (s ∷ []) []) is

  pub taking_kept : (next : Option (ℕ × Edge)) → next ≡ next_step (walk_at now.outs from) (Some s.0) → is_named from form s.1 ≡ false → IsTaking old now from form (i + 1) next
  taking_kept next is stays = record {
    outs = h.outs ∙ ap (slice_set old.outs from) (
        ap (λ w. front ++ w) (step_here walk i s h.first).0
        ∙ sym (append_assoc front (s ∷ []) back)
        ∙ ap (λ w. w ++ back) (sym (split_more true (ap not stays))));
    nodes = h.nodes;
    room = h.room;
    whole = h.whole;
    first = next_is next is;
  }

  pub taking_gone : (later : Threads) (next : Option (ℕ × Edge)) → next ≡ next_step (walk_at now.outs from) (Some s.0) → is_named from form s.1 ≡ true
      → ((f b : Walk) (e : Edge) → walk_at now.outs e.from.0 ≡ f ++ (s.0, e) ∷ b → later.outs ≡ slice_set now.outs e.from.0 (f ++ b))
      → later.nodes ≡ now.nodes → later.room ≡ now.room → AreThreads later → IsTaking old later from form (i + 1) next
  taking_gone later next is goes taken nodes room whole = record {
    outs =
        taken front back s.1 (ap (walk_at now.outs) source_is ∙ current)
        ∙ ap (λ n. slice_set now.outs n (front ++ back)) source_is
        ∙ ap (λ ws. slice_set ws from (front ++ back)) h.outs
        ∙ set-set old.outs from (front ++ drop i walk) (front ++ back)
        ∙ ap (λ w. slice_set old.outs from (w ++ back)) (sym (append-nil front) ∙ sym (split_more false (ap not goes)));
    nodes = nodes ∙ h.nodes;
    room = room ∙ h.room;
    whole = whole;
    first = next_is next is;
  }

-- all steps were looked at
pub taking_ended : (old now : Threads) (from : ℕ) (form : Form) (i : ℕ) (next : Option (ℕ × Edge)) → length (walk_at old.outs from) ≤ i → IsTaking old now from form i next
    → now.outs ≡ slice_set old.outs from (filter (unnamed from form) (walk_at old.outs from))
taking_ended old now from form i next past h =
    let walk = walk_at old.outs from in
    h.outs ∙ ap (slice_set old.outs from) (
    ap₂ (λ f b. filter (unnamed from form) f ++ b) (take_all i walk past) (drop_all i walk past)
    ∙ append-nil (filter (unnamed from form) walk))

pub taking_stopped : (old now : Threads) (from : ℕ) (form : Form) (i : ℕ) → IsTaking old now from form i None → now.outs ≡ slice_set old.outs from (filter (unnamed from form) (walk_at old.outs from))
taking_stopped old now from form i h = taking_ended old now from form i None (past walk i h.first) h
  where
    walk : Walk
    walk = walk_at old.outs from

    past : (w : Walk) (n : ℕ) → None ≡ slice_get (drop n w) 0 → length w ≤ n
    past [] n e = omega arith
    past (x ∷ w) zero e = absurd cc
    past (x ∷ w) (suc n) e = let l = past w n e in omega arith

-- ---- taking connections away that are found on the other walk

-- So far only connections that are named went.
pub record IsFinding (old now : Threads) (from : ℕ) (form : Form) : Type 0 where
  pub outs : now.outs ≡ slice_set old.outs from (walk_at now.outs from)
  pub left : filter (unnamed from form) (walk_at now.outs from) ≡ filter (unnamed from form) (walk_at old.outs from)
  pub nodes : now.nodes ≡ old.nodes
  pub room : now.room ≡ old.room
  pub whole : AreThreads now

pub finding_begins : (old : Threads) (from : ℕ) (form : Form) → AreThreads old → IsFinding old old from form
finding_begins old from form whole = record { outs = sym (set-get_or old.outs from []); left = refl; nodes = refl; room = refl; whole = whole }

split_at : (steps : Walk) (s : ℕ × Edge) → IsIn s steps → (front back : Walk) × (steps ≡ front ++ s ∷ back)
split_at [] s h = elim h [ ]
split_at (x ∷ rest) s (inl e) = ([], rest, ap (λ y. y ∷ rest) (sym e))
split_at (x ∷ rest) s (inr m) = let r = split_at rest s m in (x ∷ r.0, r.1, ap (λ w. x ∷ w) r.2)

without_named : (test : ℕ × Edge → Bool) (front back : Walk) (s : ℕ × Edge) → test s ≡ false → filter test (front ++ back) ≡ filter test (front ++ s ∷ back)
without_named test front back s fails =
    filter-append test front back ∙ ap (λ c. filter test front ++ cond c (s ∷ filter test back) (filter test back)) (sym fails) ∙ sym (filter-append test front (s ∷ back))

module _ (old now later : Threads) (from : ℕ) (form : Form) (to key : ℕ) (e : Edge) (low : from < length old.outs) (h : IsFinding old now from form)
    (here : IsIn (key, e) (walk_at now.ins to)) (named : is_named from form e ≡ true)
    (taken : (f b : Walk) (x : Edge) → walk_at now.outs x.from.0 ≡ f ++ (key, x) ∷ b → later.outs ≡ slice_set now.outs x.from.0 (f ++ b))
    (nodes : later.nodes ≡ now.nodes) (room : later.room ≡ now.room) (whole : AreThreads later) where
  source : e.from.0 ≡ from
  source = eqb-true e.from.0 from (and_parts (e.from.0 == from) (is_meant form e) named).0

  on_out : IsIn (key, e) (walk_at now.outs from)
  on_out = subst (λ n. IsIn (key, e) (walk_at now.outs n)) source ((h.whole.to to (key, e)).0 here).1

  parts : (front back : Walk) × (walk_at now.outs from ≡ front ++ (key, e) ∷ back)
  parts = split_at (walk_at now.outs from) (key, e) on_out

  there : from < length now.outs
  there = let same = ap length h.outs in let kept = length-set old.outs from (walk_at now.outs from) in omega (arith, same, kept)

  later_outs : later.outs ≡ slice_set now.outs from (parts.0 ++ parts.1)
  later_outs = taken parts.0 parts.1 e (ap (walk_at now.outs) source ∙ parts.2) ∙ ap (λ n. slice_set now.outs n (parts.0 ++ parts.1)) source

  later_walk : walk_at later.outs from ≡ parts.0 ++ parts.1
  later_walk = ap (λ ws. walk_at ws from) later_outs ∙ get_or-set_same now.outs from (parts.0 ++ parts.1) [] there

  pub finding_more : IsFinding old later from form
  finding_more = record {
    outs = later_outs ∙ ap (λ ws. slice_set ws from (parts.0 ++ parts.1)) h.outs ∙ set-set old.outs from (walk_at now.outs from) (parts.0 ++ parts.1) ∙ ap (slice_set old.outs from) (sym later_walk);
    left = ap (filter (unnamed from form)) later_walk ∙ without_named (unnamed from form) parts.0 parts.1 (key, e) (ap not named) ∙ ap (filter (unnamed from form)) (sym parts.2) ∙ h.left;
    nodes = nodes ∙ h.nodes;
    room = room ∙ h.room;
    whole = whole;
  }

  pub finding_fewer : length (walk_at later.outs from) < length (walk_at now.outs from)
  finding_fewer =
      let a = ap length later_walk in
      let b = ap length parts.2 in
      let c = length-append parts.0 parts.1 in
      let d = length-append parts.0 ((key, e) ∷ parts.1) in
      omega (arith, a, b, c, d)

-- none is named any more
pub finding_ended : (old now : Threads) (from : ℕ) (form : Form) (to : ℕ) → IsFinding old now from form → form_node form ≡ Some to
    → list_any (is_named from form) (edges_of (walk_at now.ins to)) ≡ false → now.outs ≡ slice_set old.outs from (filter (unnamed from form) (walk_at old.outs from))
finding_ended old now from form to h f none =
    h.outs ∙ ap (slice_set old.outs from) (sym (filter_all (unnamed from form) (walk_at now.outs from) all) ∙ h.left)
  where
    all : (s : ℕ × Edge) → IsIn s (walk_at now.outs from) → unnamed from form s ≡ true
    all s m = by_test (is_named from form s.1) refl
      where
        by_test : (b : Bool) → is_named from form s.1 ≡ b → not b ≡ true
        by_test false is = refl
        by_test true is =
            let source : s.1.from.0 ≡ from = h.whole.from from s m in
            let target : target_node s.1.to ≡ to = eqb-true (target_node s.1.to) to (entered form to s.1 f (and_parts (s.1.from.0 == from) (is_meant form s.1) is).1) in
            let on_in : IsIn s (walk_at now.ins to) = (h.whole.to to s).1 (target, subst (λ n. IsIn s (walk_at now.outs n)) (sym source) m) in
            let found : list_any (is_named from form) (edges_of (walk_at now.ins to)) ≡ true = list_any-IsIn (is_named from form) (edges_of (walk_at now.ins to)) s.1 (edge_in (walk_at now.ins to) s on_in) is in
            absurd cc
