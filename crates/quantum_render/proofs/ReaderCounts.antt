-- How many channels the reader of a delay has.
use Rattle.std.proofs.Common.{ℕ, suc, ◌≡◌, ◌+◌, ◌-◌, ◌*◌, ◌/◌, ◌<◌, ◌≤◌, max, length, List, [], ◌∷◌, ◌++◌, Bool, true, false, refl, sym, ◌∙◌, ap, arith, subst}
use Rattle.std.specs.Prelude.{if◌then◌else◌, nat_lt, ◌==◌}
use Rattle.std.proofs.lemmas.Bool.Decides.{nat_tests}
use Rattle.law_base.proofs.Rows.{quantum_from}
use Rattle.wa_base.specs.Contexts.{quantum_of}
use Rattle.mix_rules.specs.Counts.{greatest}
use Rattle.conn_graph.specs.Ends.{writer_of, in_cycle}
use Rattle.meaning.specs.declared.world.World.{World}
use Rattle.meaning.specs.World.{node_at}
use Rattle.meaning.specs.Lists.{since}
use Rattle.meaning.specs.Counts.{Counts, seen_counts, reader_channels, count, counts_before}
use Rattle.meaning.specs.Values.{frame}
use Rattle.meaning.proofs.Seeing.{same_since}
use Rattle.delay_bank.specs.Kept.{IsKept}
use Rattle.delay_bank.specs.Banks.{BankView as DelayBank, delay_at}
use Rattle.delay_bank.proofs.Keeping.{quantum_after}
use Rattle.quantum_render.specs.Listening.{writer_in, HasKept}
use Rattle.quantum_render.specs.Plans.{AreMost}

module _ (q : ℕ) (w : World) (n j : ℕ) (earlier : ℕ → Counts) (now : Counts) (lived : (node_at w n).attrs.birth / q ≤ j) where
  abbrev birth : ℕ
  birth = (node_at w n).attrs.birth / q

  -- the most before quantum j
  abbrev pub most_before : ℕ
  most_before = greatest (since (λ k. earlier k (writer_of n)) birth (j - birth))

  before : since (λ k. seen_counts j earlier now k (writer_of n)) birth (j - birth) ≡ since (λ k. earlier k (writer_of n)) birth (j - birth)
  before = same_since _ _ birth (j - birth) (λ k low high. ap (λ (c : Counts). c (writer_of n)) (by_test k (k == j) refl (omega arith)))
    where
      by_test : (k : ℕ) (b : Bool) → (k == j) ≡ b → k < j → (if b then now else earlier k) ≡ earlier k
      by_test k true t l = let same : k ≡ j = grind (arith, nat_tests) in absurd (omega arith)
      by_test k false t l = refl

  -- in a cycle it is the most before, and else that or what the writer has now
  pub reader_split : reader_channels q w j earlier now n ≡ (if in_cycle w.graph.value n then most_before else max most_before (now (writer_of n)))
  reader_split = by_cycle (in_cycle w.graph.value n)
    where
      here : seen_counts j earlier now j (writer_of n) ≡ now (writer_of n)
      here = ap (λ b. (if b then now else earlier j) (writer_of n)) (let same : (j == j) ≡ true = grind (arith, nat_tests) in same)

      by_cycle : (b : Bool) → greatest (since (λ k. seen_counts j earlier now k (writer_of n)) birth ((if b then j else j + 1) - birth)) ≡ (if b then most_before else max most_before (now (writer_of n)))
      by_cycle true = ap greatest before
      by_cycle false =
          ap (λ m. greatest (since (λ k. seen_counts j earlier now k (writer_of n)) birth m)) (let e : j + 1 - birth ≡ suc (j - birth) = omega (arith, lived) in e)
          ∙ ap (λ c. max c (greatest (since (λ k. seen_counts j earlier now k (writer_of n)) birth (j - birth)))) (ap (λ k. seen_counts j earlier now k (writer_of n)) (let e : birth + (j - birth) ≡ j = omega (arith, lived) in e) ∙ here)
          ∙ ap (λ ns. max (now (writer_of n)) (greatest ns)) before
          ∙ omega arith

-- of a memory that is a tape's
module _ (bank : DelayBank) (w : World) (some : 0 < quantum_of w.spec) (same : bank.quantum ≡ quantum_of w.spec) (tape : List World) (first : ℕ) (begins : first ≡ quantum_of w.spec * length tape) (kept : HasKept bank w tape first) where
  abbrev q : ℕ
  q = quantum_of w.spec

  abbrev longer : List World
  longer = tape ++ w ∷ []

  pub are_most : AreMost bank w (length tape) (counts_before q longer (length tape))
  are_most n longest time capacity low kind = record {
    delay = is.delay;
    there = is.there;
    lived = lived;
    most = is.has.most
        ∙ ap (λ k. greatest (since (writer_in q (frame q longer) n).counts birth k)) (let e : is.delay.line.blocks ≡ length tape - birth = omega (arith, quanta) in e)
        ∙ ap greatest (same_since _ _ birth (length tape - birth) (λ k from to. ap (λ i. count q longer i (writer_of n)) (quantum_from q k some) ∙ ap (λ b. (if b then count q longer k else (λ e. 1)) (writer_of n)) (let yes : true ≡ nat_lt k (length tape) = let l : k < length tape = omega (arith, from, to, lived) in grind (arith, nat_tests) in yes)));
  }
    where
      is : IsKept q (delay_at bank n) capacity (node_at w n).attrs.birth first (writer_in q (frame q longer) n)
      is = subst (λ k. IsKept k (delay_at bank n) capacity (node_at w n).attrs.birth first (writer_in q (frame q longer) n)) same (kept n longest time capacity low kind)

      birth : ℕ
      birth = (node_at w n).attrs.birth / q

      quanta : length tape ≡ birth + is.delay.line.blocks
      quanta = sym (quantum_from q (length tape) some) ∙ ap (λ f. f / q) (sym begins ∙ is.has.long) ∙ quantum_after q some (node_at w n).attrs.birth is.delay.line.blocks

      lived : birth ≤ length tape
      lived = omega (arith, quanta)
