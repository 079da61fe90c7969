-- What a world sees of the past of a tape that it comes after.
use Rattle.std.proofs.Common.{ℕ, pos, suc, ◌≡◌, ◌+◌, ◌-◌, ◌*◌, ◌/◌, ◌<◌, ◌≤◌, length, List, [], ◌∷◌, ◌++◌, Bool, true, false, ◌⊎◌, inl, inr, refl, sym, ◌∙◌, ap, arith, subst, length-append}
use Rattle.std.specs.Prelude.{if◌then◌else◌, nat_lt, nat_le, ◌&&◌}
use Rattle.std.proofs.Math.Nat.{div-mul-le_self}
use Rattle.std.proofs.lemmas.List.{get_or_past}
use Rattle.std.proofs.lemmas.Nat.{le-div}
use Rattle.std.proofs.lemmas.Bool.Decides.{nat_tests}
use Rattle.law_base.proofs.Tests.{and_both}
use Rattle.node_table.specs.Kinds.{is_delay_kind, remembers, lasting}
use Rattle.node_table.proofs.Lasting.{same_by_lasting}
use Rattle.node_table.specs.declared.kinds.Kind.{Kind}
use Rattle.node_table.specs.declared.kinds.Kind.TheVariants.{Destination}
use Rattle.node_table.specs.declared.nodes.Node.{Node}
use Rattle.conn_graph.specs.Ends.{writer_of}
use Rattle.meaning.specs.declared.world.World.{World}
use Rattle.meaning.specs.World.{sounding, no_node, node_at, kind_of}
use Rattle.meaning.specs.Counts.{world_in, count}
use Rattle.meaning.specs.Worlds.{Stays, IsRegular}
use Rattle.meaning.specs.Pasts.{last_world, is_lived, is_lived_quantum, heard, written, past}
use Rattle.meaning.proofs.TapeLaws.{world_before, world_after}

pub div-le-div : (a b q : ℕ) → 0 < q → a ≤ b → a / q ≤ b / q
div-le-div a b q some l = le-div (a / q) b q some (omega (arith, div-mul-le_self a q))

-- what lasts of a kind tells whether it remembers, and whether it is a delay
pub remembers_lasts : (k k' : Kind) → lasting k ≡ lasting k' → remembers k ≡ remembers k'
remembers_lasts = same_by_lasting remembers (λ curve was_set. refl)

pub delay_lasts : (k k' : Kind) → lasting k ≡ lasting k' → is_delay_kind k ≡ is_delay_kind k'
delay_lasts = same_by_lasting is_delay_kind (λ curve was_set. refl)

below_or_past : (i n : ℕ) → (i < n) ⊎ (n ≤ i)
below_or_past i n = grind arith

-- what lasts of a kind tells whether this holds of it; of the destination it does not
pub record IsLasting (test : Kind → Bool) : Type 0 where
  pub none : test Destination ≡ false
  pub lasts : (k k' : Kind) → lasting k ≡ lasting k' → test k ≡ test k'

pub to_remember : IsLasting remembers
to_remember = record { none = refl; lasts = remembers_lasts }

pub to_delay : IsLasting is_delay_kind
to_delay = record { none = refl; lasts = delay_lasts }

-- a node of such a kind is there
kind_there : (test : Kind → Bool) → IsLasting test → (w : World) (n : ℕ) → test (kind_of w n) ≡ true → n < length w.nodes
kind_there test lasting w n is = elim (below_or_past n (length w.nodes)) [
  | inl l ↦ l
  | inr l ↦ let none : test (kind_of w n) ≡ false = ap (λ (x : Node). test x.kind) (get_or_past w.nodes n no_node l) ∙ lasting.none in absurd cc
]

pub remembered_there : (w : World) (n : ℕ) → remembers (kind_of w n) ≡ true → n < length w.nodes
remembered_there = kind_there remembers to_remember

module _ (q : ℕ) (some : 0 < q) (w : World) (tape : List World) (regular : IsRegular q (tape ++ w ∷ [])) where
  abbrev longer : List World
  longer = tape ++ w ∷ []

  long : length longer ≡ length tape + 1
  long = length-append tape (w ∷ [])

  -- A node of the world whose life began before was in the last world of the tape.
  pub stayed : (n : ℕ) → n < length w.nodes → (node_at w n).attrs.birth < q * length tape → Stays n (last_world tape) (sounding w)
  stayed n there old =
      let quanta : 0 < length tape = some_quanta (length tape) old in
      let j : ℕ = length tape - 1 in
      let next : suc j ≡ length tape = omega arith in
      let last : world_in longer j ≡ last_world tape = world_before tape w j (omega arith) in
      let now : world_in longer (suc j) ≡ sounding w = world_after tape w (suc j) next in
      elim (below_or_past n (length (world_in longer j).nodes)) [
        | inl l ↦ subst (λ x. Stays n x (sounding w)) last (subst (Stays n (world_in longer j)) now (regular.stays j n (omega (arith, long)) l))
        | inr l ↦ let here : world_in longer (length tape) ≡ sounding w = world_after tape w (length tape) refl in
            let birth : (node_at w n).attrs.birth ≡ q * length tape =
            ap (λ x. (node_at x n).attrs.birth) (sym here)
            ∙ regular.born (length tape) n (omega (arith, long)) (subst (λ (x : World). n < length x.nodes) (sym here) there, inr l) in
            absurd (omega arith)
      ]
    where
      some_quanta : (k : ℕ) → (node_at w n).attrs.birth < q * k → 0 < k
      some_quanta k l = grind arith

  at_least : (a b : ℕ) → a ≤ b → nat_le a b ≡ true
  at_least a b l = grind (arith, nat_tests)

  below : (a b : ℕ) → a < b → nat_lt a b ≡ true
  below a b l = grind (arith, nat_tests)

  -- such a node was there in the last world of the tape, at each frame and in each quantum of its life
  lived : (test : Kind → Bool) → IsLasting test → (n f : ℕ) → test (kind_of w n) ≡ true → (node_at w n).attrs.birth ≤ f → f < q * length tape
      → (test (kind_of (last_world tape) n) && is_lived q tape (node_at (last_world tape) n) f) ≡ true
  lived test lasting n f is low high =
      let stays = stayed n (kind_there test lasting w n is) (omega arith) in
      and_both _ _ (sym (lasting.lasts (kind_of w n) (kind_of (last_world tape) n) stays.kind) ∙ is)
      (and_both _ _ (subst (λ k. nat_le k f ≡ true) stays.birth (at_least (node_at w n).attrs.birth f low)) (below f (q * length tape) high))

  lived_quantum : (n k : ℕ) → is_delay_kind (kind_of w n) ≡ true → (node_at w n).attrs.birth / q ≤ k → k < length tape
      → (is_delay_kind (kind_of (last_world tape) n) && is_lived_quantum q tape (node_at (last_world tape) n) k) ≡ true
  lived_quantum n k is low high =
      let stays = stayed n (kind_there is_delay_kind to_delay w n is) (old (node_at w n).attrs.birth (length tape) (omega arith)) in
      and_both _ _ (sym (delay_lasts (kind_of w n) (kind_of (last_world tape) n) stays.kind) ∙ is)
      (and_both _ _ (subst (λ b. nat_le (b / q) k ≡ true) stays.birth (at_least ((node_at w n).attrs.birth / q) k low)) (below k (length tape) high))
    where
      old : (a n : ℕ) → a / q < n → a < q * n
      old a n l = grind (arith, some)

  -- what a past has of a node is what its input took in, and what its writer did
  pub past_heard : (n f c : ℕ) → remembers (kind_of w n) ≡ true → (node_at w n).attrs.birth ≤ f → f < q * length tape → (past q tape).heard n f c ≡ heard q tape n f c
  past_heard n f c is low high = ap (λ b. if b then heard q tape n f c else pos 0) (lived remembers to_remember n f is low high)

  pub past_written : (n f c : ℕ) → is_delay_kind (kind_of w n) ≡ true → (node_at w n).attrs.birth ≤ f → f < q * length tape → (past q tape).written n f c ≡ written q tape n f c
  past_written n f c is low high = ap (λ b. if b then written q tape n f c else pos 0) (lived is_delay_kind to_delay n f is low high)

  pub past_counts : (n k : ℕ) → is_delay_kind (kind_of w n) ≡ true → (node_at w n).attrs.birth / q ≤ k → k < length tape → (past q tape).counts n k ≡ count q tape k (writer_of n)
  past_counts n k is low high = ap (λ b. if b then count q tape k (writer_of n) else 1) (lived_quantum n k is low high)

-- What a world sees alike of two tapes that it comes after: their lengths, and what those of its nodes that remember, and the writers of its delays, took in before.
pub record SamePast (q : ℕ) (w : World) (tape tape' : List World) : Type 0 where
  pub quanta : length tape ≡ length tape'
  pub counts : (n k : ℕ) → is_delay_kind (kind_of w n) ≡ true → (node_at w n).attrs.birth / q ≤ k → k < length tape → count q tape k (writer_of n) ≡ count q tape' k (writer_of n)
  pub heard : (n f c : ℕ) → remembers (kind_of w n) ≡ true → (node_at w n).attrs.birth ≤ f → f < q * length tape → heard q tape n f c ≡ heard q tape' n f c
  pub written : (n f c : ℕ) → is_delay_kind (kind_of w n) ≡ true → (node_at w n).attrs.birth ≤ f → f < q * length tape → written q tape n f c ≡ written q tape' n f c

-- A past of one world is a past of its successor.
pub successor : (q : ℕ) → 0 < q → (w : World) (tape tape' : List World) → IsRegular q (tape ++ w ∷ []) → IsRegular q (tape' ++ w ∷ []) → past q tape ≡ past q tape' → SamePast q w tape tape'
successor q some w tape tape' regular regular' same =
    let quanta : length tape ≡ length tape' = ap (λ p. p.quanta) same in
    record {
      quanta = quanta;
      counts = λ n k is low high.
          sym (past_counts q some w tape regular n k is low high) ∙ ap (λ p. p.counts n k) same ∙ past_counts q some w tape' regular' n k is low (subst (λ j. k < j) quanta high);
      heard = λ n f c is low high.
          sym (past_heard q some w tape regular n f c is low high) ∙ ap (λ p. p.heard n f c) same ∙ past_heard q some w tape' regular' n f c is low (subst (λ j. f < q * j) quanta high);
      written = λ n f c is low high.
          sym (past_written q some w tape regular n f c is low high) ∙ ap (λ p. p.written n f c) same ∙ past_written q some w tape' regular' n f c is low (subst (λ j. f < q * j) quanta high);
    }
