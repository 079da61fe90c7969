-- Blocks along a legal order are the values of the quantum.
use Rattle.std.proofs.Common.{ℕ, pos, ◌≡◌, ◌+◌, ◌-◌, ◌*◌, ◌/◌, ◌<◌, ◌≤◌, List, [], ◌∷◌, Bool, true, false, inl, inr, refl, sym, ◌∙◌, ap, arith, subst}
use Rattle.std.specs.Prelude.{if◌then◌else◌, nat_lt}
use Rattle.std.proofs.Math.Nat.{mul_comm}
use Rattle.std.proofs.lemmas.Nat.{div-mul-add}
use Rattle.std.proofs.lemmas.Bool.Decides.{nat_tests}
use Rattle.wa_base.specs.declared.graph_names.End.{End}
use Rattle.law_base.specs.Members.{IsIn}
use Rattle.conn_graph.specs.Graph.{Connections}
use Rattle.conn_graph.specs.Ends.{same_end, writer_of, input_end, ends, arrow, muted}
use Rattle.conn_graph.specs.Orders.{IsLegalAfter, IsLegalOrder}
use Rattle.conn_graph.proofs.EndLaws.{same_end_is}
use Rattle.meaning.specs.declared.world.World.{World}
use Rattle.meaning.specs.Validity.{IsJoined}
use Rattle.meaning.specs.Counts.{Counts, world_in, count}
use Rattle.meaning.specs.Values.{Frame, silence, no_frame, input_value, taken_in, equation, value, frame, frames_before}
use Rattle.meaning.specs.Blocks.{Drafts, drafted, with_drafts, block, blocks_along}
use Rattle.meaning.proofs.Seeing.{AgreeFor, LikeFor, SeesFor, input_like, equation_sees}
use Rattle.meaning.proofs.ValueLaws.{value_solves, muted_value}
use Rattle.meaning.proofs.OrderLaws.{IsKnown, known_before, known_source, all_known}

-- Whatever counts are gone by that are right on the ends: the ones of the quantum as a function, or those that a renderer keeps in a list.
module _ (q : ℕ) (some : 0 < q) (tape : List World) (j : ℕ) (joined : IsJoined (world_in tape j)) (counts : Counts)
    (counted : (d : End) → IsIn d (ends (world_in tape j).graph.value) → counts d ≡ count q tape j d) where
  abbrev first : ℕ
  first = q * j

  abbrev w : World
  w = world_in tape j

  abbrev g : Connections
  g = (world_in tape j).graph.value

  -- each frame of the quantum is in it
  pub quantum_of : (m : ℕ) → m < q → (first + m) / q ≡ j
  quantum_of m l = ap (λ x. (x + m) / q) (mul_comm q j) ∙ div-mul-add j q m l

  pub frame_is : (m : ℕ) → m < q → frame q tape (first + m) ≡ drafted w (count q tape j) (value q tape (first + m))
  frame_is m l = ap (λ k. drafted (world_in tape k) (count q tape k) (value q tape (first + m))) (quantum_of m l)

  -- the ends whose blocks are right
  abbrev pub AreRight : Drafts → List End → Type 0
  AreRight drafts done = (m : ℕ) → m < q → (d : End) → IsIn d (ends g) → IsKnown g done d → drafts m d ≡ value q tape (first + m) d

  -- Where the blocks of all ends with an arrow to e are right, the block of e is.
  pub block_right : (drafts : Drafts) (done : List End) → AreRight drafts done → (e : End) → IsIn e (ends g)
      → ((d : End) → IsIn d (ends g) → muted g d ≡ false → arrow g d e ≡ true → IsIn d done)
      → (m : ℕ) → m < q → block q (frame q tape) first w counts drafts e m ≡ value q tape (first + m) e
  block_right drafts done right e is sources m l =
      equation_sees q some w joined (first + m) (with_drafts (frame q tape) first w counts drafts) (frames_before q tape (first + m)) e is sees
      counts (count q tape j) (counted e is) (λ d in_d a. counted d in_d) (drafts m) (value q tape (first + m)) (agree m l)
      ∙ ap (λ (x : Frame). equation q (first + m) (frames_before q tape (first + m)) x e) (sym (frame_is m l))
      ∙ value_solves q tape some (first + m) (subst (λ k. IsJoined (world_in tape k)) (sym (quantum_of m l)) joined) e (subst (λ k. IsIn e (ends (world_in tape k).graph.value)) (sym (quantum_of m l)) is)
    where
      agree : (n : ℕ) → n < q → AgreeFor w e (drafts n) (value q tape (first + n))
      agree n low d in_d a = right n low d in_d (known_source g done e sources d in_d a)

      start : q * ((first + m) / q) ≡ first
      start = ap (λ k. q * k) (quantum_of m l)

      seen_now : (n : ℕ) → n < first + m → frames_before q tape (first + m) n ≡ frame q tape n
      seen_now n low = ap (λ b. if b then frame q tape n else no_frame) (below low)
        where
          below : n < first + m → nat_lt n (first + m) ≡ true
          below low = grind (arith, nat_tests)

      recent : (n : ℕ) → q * ((first + m) / q) ≤ n → n < first + m → LikeFor w e (with_drafts (frame q tape) first w counts drafts n) (frames_before q tape (first + m) n)
      recent n low high =
          let low' : first ≤ n = subst (λ k. k ≤ n) start low in
          let offset : first + (n - first) ≡ n = omega arith in
          LikeFor.alike counts (count q tape j) (drafts (n - first)) (value q tape n)
          (ap (λ b. if b then frame q tape n else drafted w counts (drafts (n - first))) (not_before n low'))
          (seen_now n high ∙ subst (λ k. frame q tape k ≡ drafted w (count q tape j) (value q tape k)) offset (frame_is (n - first) (omega arith)))
          (λ d in_d a. counted d in_d)
          (subst (λ k. AgreeFor w e (drafts (n - first)) (value q tape k)) offset (agree (n - first) (omega arith)))
        where
          not_before : (n : ℕ) → first ≤ n → nat_lt n first ≡ false
          not_before n low = grind (arith, nat_tests)

      old : (n : ℕ) → n < q * ((first + m) / q) → with_drafts (frame q tape) first w counts drafts n ≡ frames_before q tape (first + m) n
      old n high =
          let high' : n < first = subst (λ k. n < k) start high in
          ap (λ b. if b then frame q tape n else drafted w counts (drafts (n - first))) (before_first high') ∙ sym (seen_now n (omega arith))
        where
          before_first : n < first → nat_lt n first ≡ true
          before_first high = grind (arith, nat_tests)

      sees : SeesFor q (first + m) w e (with_drafts (frame q tape) first w counts drafts) (frames_before q tape (first + m))
      sees = record {
        recent = recent;
        delays = λ n is low high. (ap (λ (x : Frame). x.counts (writer_of e.node.0)) (old n high), ap (λ (x : Frame). x.values (writer_of e.node.0) 0) (old n high));
        heard = λ n c is low high. ap (λ x. taken_in x e.node.0 c) (old n high);
      }

  -- What an end's node takes in is right, where the blocks of all ends with an arrow to it are.
  pub taken_right : (drafts : Drafts) (done : List End) → AreRight drafts done → (e : End) → IsIn e (ends g) → e ≡ input_end g e.node.0
      → ((d : End) → IsIn d (ends g) → muted g d ≡ false → arrow g d e ≡ true → IsIn d done)
      → (m : ℕ) → m < q → (c : ℕ) → taken_in (drafted w counts (drafts m)) e.node.0 c ≡ taken_in (frame q tape (first + m)) e.node.0 c
  taken_right drafts done right e in_e plain sources m l c =
      ap (λ x. if muted g (input_end g e.node.0) then pos 0 else x)
      (input_like w joined counts (count q tape j) (drafts m) (value q tape (first + m)) e plain (λ d in_d a. counted d in_d) (λ d in_d a. right m l d in_d (known_source g done e sources d in_d a)) 0 c)
      ∙ ap (λ x. taken_in x e.node.0 c) (sym (frame_is m l))

  -- a muted one takes in nothing
  pub taken_muted : (n : ℕ) → muted g (input_end g n) ≡ true → (m : ℕ) → m < q → (c : ℕ) → taken_in (frame q tape (first + m)) n c ≡ pos 0
  taken_muted n is m l c = ap (λ x. taken_in x n c) (frame_is m l) ∙ ap (λ b. if b then pos 0 else input_value (drafted w (count q tape j) (value q tape (first + m))) n 0 c) is

  pub next_right : (drafts : Drafts) (done : List End) → AreRight drafts done → (x : End) → IsIn x (ends g)
      → ((d : End) → IsIn d (ends g) → muted g d ≡ false → arrow g d x ≡ true → IsIn d done)
      → AreRight (λ m d. if same_end d x then block q (frame q tape) first w counts drafts x m else drafts m d) (x ∷ done)
  next_right drafts done right x in_x sources m l d in_d known = by_test (same_end d x) refl
    where
      by_test : (b : Bool) → same_end d x ≡ b → (if b then block q (frame q tape) first w counts drafts x m else drafts m d) ≡ value q tape (first + m) d
      by_test true is = block_right drafts done right x in_x sources m l ∙ ap (value q tape (first + m)) (sym (same_end_is d x is))
      by_test false other = right m l d in_d (known_before g x done d known other)

  along_right : (order done : List End) → IsLegalAfter g done order → (drafts : Drafts) → AreRight drafts done
      → (m : ℕ) → m < q → (e : End) → IsIn e (ends g) → blocks_along q (frame q tape) first w counts order drafts m e ≡ value q tape (first + m) e
  along_right [] done legal drafts right m l e is = right m l e is (all_known g done legal e is)
  along_right (x ∷ xs) done legal drafts right m l e is = along_right xs (x ∷ done) legal.4 _ (next_right drafts done right x legal.0 legal.3) m l e is

  -- before anything is made, the muted ends are right
  pub muted_right : AreRight (λ m. silence) []
  muted_right m l d in_d (inr none) = absurd none
  muted_right m l d in_d (inl k) =
      let back = sym (quantum_of m l) in
      sym (muted_value q tape some (first + m) (subst (λ k. IsJoined (world_in tape k)) back joined) d
      (subst (λ k. IsIn d (ends (world_in tape k).graph.value)) back in_d) (subst (λ k. muted (world_in tape k).graph.value d ≡ true) back k))

  pub blocks_right : (order : List End) → IsLegalOrder g order → (m : ℕ) → m < q → (e : End) → IsIn e (ends g)
      → blocks_along q (frame q tape) first w counts order (λ m. silence) m e ≡ value q tape (first + m) e
  blocks_right order legal m l e is = along_right order [] legal (λ m. silence) muted_right m l e is
