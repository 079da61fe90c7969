-- The worlds of a session follow one another.
use Rattle.std.proofs.Common.{ℕ, zero, suc, ◌≡◌, ◌+◌, ◌-◌, ◌*◌, ◌<◌, ◌≤◌, length, List, [], ◌∷◌, ◌++◌, map, slice_index_or, All, ◌⊎◌, inl, inr, refl, sym, ◌∙◌, ap, arith, subst, length-append}
use Rattle.std.proofs.lemmas.Bool.{cases_lt}
use Rattle.std.proofs.lemmas.List.{get_or_append_left, get_or-map, length-map}
use Rattle.std.proofs.lemmas.List.Elements.{All-append, All-cons}
use Rattle.std.proofs.Math.Seq.{get_or-append_seam}
use Rattle.wa_base.specs.Contexts.{quantum_of}
use Rattle.wa_base.specs.declared.contexts.ContextSpec.{ContextSpec}
use Rattle.node_table.specs.Kinds.{lasting}
use Rattle.node_table.specs.declared.kinds.Kind.{Kind}
use Rattle.node_table.specs.declared.nodes.Node.{Node}
use Rattle.node_table.proofs.Lasting.{holds_by_lasting}
use Rattle.meaning.specs.declared.world.World.{World}
use Rattle.meaning.specs.World.{sounding, no_world, no_node, node_at}
use Rattle.meaning.specs.Validity.{IsValid}
use Rattle.meaning.specs.Worlds.{IsRegular, IsNewIn, Stays, HasCapacity, first_world}
use Rattle.meaning.specs.Counts.{world_in}
use Rattle.meaning.proofs.TapeLaws.{world_before, world_after}
use Rattle.meaning.specs.Changes.{Grows}
use Rattle.meaning.proofs.Sounding.{sounding_valid, valid_sounding}
use Rattle.meaning.proofs.Alike.{world_alike}

-- ---- tapes that sound alike

module _ (q : ℕ) (tape other : List World) (same : map sounding tape ≡ map sounding other) where
  at : (k : ℕ) → world_in tape k ≡ world_in other k
  at k = world_alike q tape other same k

  pub long_alike : length other ≡ length tape
  long_alike = sym (length-map other sounding) ∙ sym (ap length same) ∙ length-map tape sounding

  valid_alike : All IsValid tape → All IsValid other
  valid_alike each k d l =
      let count = length-map tape sounding in
      let count' = length-map other sounding in
      let sounds : All IsValid (map sounding tape) = λ j e m. subst IsValid (sym (get_or-map sounding tape j e e (omega (arith, count)))) (sounding_valid (slice_index_or tape j e) (each j e (omega (arith, count)))) in
      valid_sounding (slice_index_or other k d) (subst IsValid (get_or-map sounding other k d (sounding d) l) (subst (All IsValid) same sounds k (sounding d) (omega (arith, count'))))

  -- a tape is regular where one is that sounds as it does
  pub regular_alike : IsRegular q tape → IsRegular q other
  regular_alike regular = record {
    valid = valid_alike regular.valid;
    capacity = λ j i l. subst (λ (w : World). HasCapacity q w.spec (node_at w i).kind) (at j) (regular.capacity j i (omega (arith, long_alike)));
    spec = λ j l. ap (λ (w : World). w.spec) (sym (at j)) ∙ regular.spec j (omega (arith, long_alike)) ∙ ap (λ (w : World). w.spec) (at 0);
    stays = λ j i l below.
        subst (λ (w : World). Stays i w (world_in other (suc j))) (at j)
        (subst (λ (w : World). Stays i (world_in tape j) w) (at (suc j))
        (regular.stays j i (omega (arith, long_alike)) (subst (λ (w : World). i < length w.nodes) (sym (at j)) below)));
    born = λ j i l new.
        subst (λ (w : World). (node_at w i).attrs.birth ≡ q * j) (at j)
        (regular.born j i (omega (arith, long_alike)) (
          subst (λ (w : World). i < length w.nodes) (sym (at j)) new.0,
          elim new.1 [ inl e ↦ inl e | inr e ↦ inr (subst (λ (w : World). length w.nodes ≤ i) (sym (at (j - 1))) e) ],
        ));
  }

-- ---- the next world of a tape

pub record IsNext (q : ℕ) (tape : List World) (w : World) : Type 0 where
  pub valid : IsValid w
  pub spec : 0 < length tape → w.spec ≡ (world_in tape 0).spec
  pub stays : (j i : ℕ) → suc j ≡ length tape → i < length (world_in tape j).nodes → Stays i (world_in tape j) (sounding w)
  pub born : (i : ℕ) → i < length w.nodes → (length tape ≡ 0) ⊎ (length (world_in tape (length tape - 1)).nodes ≤ i) → (node_at w i).attrs.birth ≡ q * length tape
  pub capacity : (i : ℕ) → HasCapacity q w.spec (node_at w i).kind

module _ (q : ℕ) (tape : List World) (w : World) where
  abbrev longer : List World
  longer = tape ++ w ∷ []

  long : length longer ≡ length tape + 1
  long = length-append tape (w ∷ [])

  old : (k : ℕ) → k < length tape → world_in longer k ≡ world_in tape k
  old k l = world_before tape w k l

  new : (k : ℕ) → k ≡ length tape → world_in longer k ≡ sounding w
  new k e = world_after tape w k e

  -- the world before the last one of a tape
  before_last : (P : World → Type 0) → (length tape ≡ 0) ⊎ P (world_in tape (length tape - 1)) → (length tape ≡ 0) ⊎ P (world_in longer (length tape - 1))
  before_last P (inl e) = inl e
  before_last P (inr p) = elim (cases_lt 0 (length tape)) [
    | inl l ↦ inr (subst P (sym (old (length tape - 1) (omega arith))) p)
    | inr l ↦ inl (omega arith)
  ]

  before_last' : (P : World → Type 0) → (length tape ≡ 0) ⊎ P (world_in longer (length tape - 1)) → (length tape ≡ 0) ⊎ P (world_in tape (length tape - 1))
  before_last' P (inl e) = inl e
  before_last' P (inr p) = elim (cases_lt 0 (length tape)) [
    | inl l ↦ inr (subst P (old (length tape - 1) (omega arith)) p)
    | inr l ↦ inl (omega arith)
  ]

  pub regular_front : IsRegular q longer → IsRegular q tape
  regular_front regular = record {
    valid = front;
    capacity = λ j i l. subst (λ (x : World). HasCapacity q x.spec (node_at x i).kind) (old j l) (regular.capacity j i (omega (arith, long)));
    spec = λ j l. ap (λ (x : World). x.spec) (sym (old j l)) ∙ regular.spec j (omega (arith, long)) ∙ ap (λ (x : World). x.spec) (old 0 (omega arith));
    stays = λ j i l below.
        subst (λ (x : World). Stays i x (world_in tape (suc j))) (old j (omega arith))
        (subst (λ (x : World). Stays i (world_in longer j) x) (old (suc j) l)
        (regular.stays j i (omega (arith, long)) (subst (λ (x : World). i < length x.nodes) (sym (old j (omega arith))) below)));
    born = λ j i l is.
        subst (λ (x : World). (node_at x i).attrs.birth ≡ q * j) (old j l)
        (regular.born j i (omega (arith, long)) (
          subst (λ (x : World). i < length x.nodes) (sym (old j l)) is.0,
          elim is.1 [ inl e ↦ inl e | inr e ↦ inr (subst (λ (x : World). length x.nodes ≤ i) (sym (old (j - 1) (omega arith))) e) ],
        ));
  }
    where
      front : All IsValid tape
      front k d l = subst IsValid (get_or_append_left tape (w ∷ []) d k l) (regular.valid k d (omega (arith, long)))

  pub next_of : IsRegular q longer → IsNext q tape w
  next_of regular = record {
    valid = subst IsValid (get_or-append_seam tape w [] no_world) (regular.valid (length tape) no_world (omega (arith, long)));
    spec = λ some. ap (λ (x : World). x.spec) (sym (new (length tape) refl)) ∙ regular.spec (length tape) (omega (arith, long)) ∙ ap (λ (x : World). x.spec) (old 0 some);
    stays = λ j i e below.
        subst (λ (x : World). Stays i x (sounding w)) (old j (omega arith))
        (subst (λ (x : World). Stays i (world_in longer j) x) (new (suc j) e)
        (regular.stays j i (omega (arith, long)) (subst (λ (x : World). i < length x.nodes) (sym (old j (omega arith))) below)));
    born = λ i below is.
        subst (λ (x : World). (node_at x i).attrs.birth ≡ q * length tape) (new (length tape) refl)
        (regular.born (length tape) i (omega (arith, long)) (
          subst (λ (x : World). i < length x.nodes) (sym (new (length tape) refl)) below,
          before_last (λ (x : World). length x.nodes ≤ i) is,
        ));
    capacity = λ i. subst (λ (x : World). HasCapacity q x.spec (node_at x i).kind) (new (length tape) refl) (regular.capacity (length tape) i (omega (arith, long)));
  }

  pub regular_more : IsRegular q tape → IsNext q tape w → IsRegular q longer
  regular_more regular next = record {
    valid = each_valid;
    capacity = λ j i l. elim (cases_lt j (length tape)) [
      | inl low ↦ subst (λ (x : World). HasCapacity q x.spec (node_at x i).kind) (sym (old j low)) (regular.capacity j i low)
      | inr high ↦ subst (λ (x : World). HasCapacity q x.spec (node_at x i).kind) (sym (new j (omega (arith, long)))) (next.capacity i)
    ];
    spec = λ j l. elim (cases_lt j (length tape)) [
      | inl low ↦ ap (λ (x : World). x.spec) (old j low) ∙ regular.spec j low ∙ sym (ap (λ (x : World). x.spec) (old 0 (omega arith)))
      | inr high ↦ last_spec j (omega (arith, long))
    ];
    stays = λ j i l below. elim (cases_lt (suc j) (length tape)) [
      | inl low ↦
          subst (λ (x : World). Stays i x (world_in longer (suc j))) (sym (old j (omega arith)))
          (subst (λ (x : World). Stays i (world_in tape j) x) (sym (old (suc j) low))
          (regular.stays j i low (subst (λ (x : World). i < length x.nodes) (old j (omega arith)) below)))
      | inr high ↦
          let at : suc j ≡ length tape = omega (arith, long) in
          subst (λ (x : World). Stays i x (world_in longer (suc j))) (sym (old j (omega arith)))
          (subst (λ (x : World). Stays i (world_in tape j) x) (sym (new (suc j) at))
          (next.stays j i at (subst (λ (x : World). i < length x.nodes) (old j (omega arith)) below)))
    ];
    born = λ j i l is. elim (cases_lt j (length tape)) [
      | inl low ↦
          subst (λ (x : World). (node_at x i).attrs.birth ≡ q * j) (sym (old j low))
          (regular.born j i low (
            subst (λ (x : World). i < length x.nodes) (old j low) is.0,
            elim is.1 [ inl e ↦ inl e | inr e ↦ inr (subst (λ (x : World). length x.nodes ≤ i) (old (j - 1) (omega arith)) e) ],
          ))
      | inr high ↦ last_born j i (omega (arith, long)) is
    ];
  }
    where
      each_valid : All IsValid longer
      each_valid = All-append IsValid tape (w ∷ []) regular.valid (All-cons IsValid w [] next.valid (λ k d l. absurd (omega arith)))

      last_spec : (j : ℕ) → j ≡ length tape → (world_in longer j).spec ≡ (world_in longer 0).spec
      last_spec j at = elim (cases_lt 0 (length tape)) [
        | inl some ↦ ap (λ (x : World). x.spec) (new j at) ∙ next.spec some ∙ sym (ap (λ (x : World). x.spec) (old 0 some))
        | inr none ↦ let first : j ≡ 0 = omega arith in ap (λ k. (world_in longer k).spec) first
      ]

      last_born : (j i : ℕ) → j ≡ length tape → IsNewIn longer j i → (node_at (world_in longer j) i).attrs.birth ≡ q * j
      last_born j i at is =
          subst (λ k. IsNewIn longer k i → (node_at (world_in longer k) i).attrs.birth ≡ q * k) (sym at)
          (λ here. subst (λ (x : World). (node_at x i).attrs.birth ≡ q * length tape) (sym (new (length tape) refl))
          (next.born i (subst (λ (x : World). i < length x.nodes) (new (length tape) refl) here.0) (before_last' (λ (x : World). length x.nodes ≤ i) here.1)))
          is

-- ---- calls and quanta

-- what lasts of a node's kind says how many frames it keeps
capacity_lasts : (q : ℕ) (spec : ContextSpec) (a b : Kind) → lasting a ≡ lasting b → HasCapacity q spec a → HasCapacity q spec b
capacity_lasts q spec = holds_by_lasting (HasCapacity q spec) (λ curve curve' was_set was_set' holds. holds)

-- a call leaves the next world of a tape the next one
next_grown : (tape : List World) (w w' : World) → IsNext (quantum_of w.spec) tape w → Grows (quantum_of w.spec * length tape) w w' → IsNext (quantum_of w.spec) tape w'
next_grown tape w w' next grows = record {
  valid = grows.valid next.valid;
  spec = λ some. grows.spec ∙ next.spec some;
  stays = λ j i e below.
      let before = next.stays j i e below in
      let stays = grows.stays i before.there in
      record { there = stays.there; kind = stays.kind ∙ before.kind; birth = stays.birth ∙ before.birth };
  born = λ i below is. elim (cases_lt i (length w.nodes)) [
    | inl low ↦ let stays = grows.stays i low in stays.birth ∙ next.born i low is
    | inr high ↦ grows.born i high below
  ];
  capacity = λ i. elim (cases_lt i (length w.nodes)) [
    | inl low ↦
        let stays = grows.stays i low in
        subst (λ (s : ContextSpec). HasCapacity (quantum_of w.spec) s (node_at w' i).kind) (sym grows.spec) (capacity_lasts (quantum_of w.spec) w.spec _ _ (sym stays.kind) (next.capacity i))
    | inr high ↦ subst (λ (s : ContextSpec). HasCapacity (quantum_of s) w'.spec (node_at w' i).kind) grows.spec (grows.capacity i high)
  ];
}

pub regular_grown : (tape : List World) (w w' : World) → IsRegular (quantum_of w.spec) (tape ++ w ∷ []) → Grows (quantum_of w.spec * length tape) w w' → IsRegular (quantum_of w'.spec) (tape ++ w' ∷ [])
regular_grown tape w w' regular grows =
    let q = quantum_of w.spec in
    subst (λ (s : ContextSpec). IsRegular (quantum_of s) (tape ++ w' ∷ [])) (sym grows.spec) (regular_more q tape w' (regular_front q tape w regular) (next_grown tape w w' (next_of q tape w regular) grows))

-- the world after a quantum, with the same nodes
pub regular_after : (q : ℕ) (tape : List World) (w w' : World) → IsRegular q (tape ++ w ∷ []) → IsValid w' → w'.spec ≡ w.spec → w'.nodes ≡ w.nodes
    → IsRegular q ((tape ++ w ∷ []) ++ w' ∷ [])
regular_after q tape w w' regular valid spec nodes = regular_more q (tape ++ w ∷ []) w' regular (record {
  valid = valid;
  spec = λ some. spec ∙ ap (λ (x : World). x.spec) (sym (world_after tape w (length tape) refl)) ∙ regular.spec (length tape) (omega (arith, long));
  stays = λ j i e below.
      let at : j ≡ length tape = omega (arith, long) in
      let l : i < length w.nodes = subst (λ (x : World). i < length x.nodes) (world_after tape w j at) below in
      subst (λ (x : World). Stays i x (sounding w')) (sym (world_after tape w j at)) (record {
        there = rw nodes l;
        kind = ap (λ (ns : List Node). lasting (slice_index_or ns i no_node).kind) nodes;
        birth = ap (λ (ns : List Node). (slice_index_or ns i no_node).attrs.birth) nodes;
      });
  born = λ i below is. elim is [
    | inl none ↦ absurd (omega (arith, long))
    | inr high ↦
        let at : length (tape ++ w ∷ []) - 1 ≡ length tape = omega (arith, long) in
        let past : length w.nodes ≤ i = subst (λ (x : World). length x.nodes ≤ i) (world_after tape w _ at) high in
        let same : length w'.nodes ≡ length w.nodes = ap length nodes in
        absurd (omega arith)
  ];
  capacity = λ i.
      let before = (next_of q tape w regular).capacity i in
      subst (λ (ns : List Node). HasCapacity q w'.spec (slice_index_or ns i no_node).kind) (sym nodes) (subst (λ (s : ContextSpec). HasCapacity q s (node_at w i).kind) (sym spec) before);
})
  where
    long : length (tape ++ w ∷ []) ≡ length tape + 1
    long = length-append tape (w ∷ [])

-- the destination alone
first_capacity : (q : ℕ) (spec : ContextSpec) (i : ℕ) → HasCapacity q spec (node_at (first_world spec) i).kind
first_capacity q spec zero = tt
first_capacity q spec (suc i) = tt

pub regular_first : (q : ℕ) (spec : ContextSpec) → IsValid (first_world spec) → IsRegular q (first_world spec ∷ [])
regular_first q spec valid = regular_more q [] (first_world spec)
    (record { valid = λ k d l. absurd (omega arith); spec = λ j l. absurd (omega arith); capacity = λ j i l. absurd (omega arith); stays = λ j i l below. absurd (omega arith); born = λ j i l is. absurd (omega arith) })
    (record {
      valid = valid;
      spec = λ some. absurd (omega arith);
      stays = λ j i e below. absurd (omega arith);
      born = λ i below is. let first : i ≡ 0 = omega arith in rw first (omega arith);
      capacity = first_capacity q spec;
    })

-- a quantum of a regular tape has frames
pub some_frames : (q : ℕ) (tape : List World) (w : World) → IsRegular q (tape ++ w ∷ []) → 0 < quantum_of w.spec
some_frames q tape w regular = let low = (next_of q tape w regular).valid.spec.quantum.low in omega (arith, low)
