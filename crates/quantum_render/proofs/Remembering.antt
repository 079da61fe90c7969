-- What a renderer remembers of the tapes that it stands for.
use Rattle.std.proofs.Common.{ℕ, zero, suc, pos, ◌≡◌, ◌+◌, ◌-◌, ◌*◌, ◌<◌, ◌≤◌, length, length-append, List, [], ◌∷◌, ◌++◌, true, ◌⊎◌, inl, inr, refl, sym, ◌∙◌, ap, arith, subst}
use Rattle.std.specs.Prelude.{if◌then◌else◌, ◌&&◌, nat_lt, nat_le}
use Rattle.std.proofs.lemmas.Bool.{cases_lt}
use Rattle.std.proofs.lemmas.Bool.Decides.{nat_tests}
use Rattle.wa_base.specs.Contexts.{quantum_of}
use Rattle.law_base.proofs.Tests.{and_both}
use Rattle.node_table.specs.Kinds.{remembers, lasting}
use Rattle.node_table.specs.declared.kinds.Kind.TheVariants.{Causal}
use Rattle.node_table.proofs.Lasting.{lasting_equation}
use Rattle.meaning.specs.declared.world.World.{World}
use Rattle.meaning.specs.World.{sounding, node_at, kind_of}
use Rattle.meaning.specs.Counts.{world_in}
use Rattle.meaning.specs.Values.{taken_in, frame}
use Rattle.meaning.specs.Worlds.{Stays, IsRegular}
use Rattle.meaning.specs.Pasts.{last_world, heard, past}
use Rattle.meaning.proofs.Successors.{past_heard}
use Rattle.meaning.proofs.TapeLaws.{world_before, world_after, frame_before}
use Rattle.filter_bank.specs.Heard.{IsHeard}
use Rattle.filter_bank.specs.Banks.{BankView, heard_at, AreHeard, AreNew}
use Rattle.quantum_render.specs.Listening.{HasHeard}
use Rattle.quantum_render.proofs.Listening.{heard_like}

module _ (w : World) (some : 0 < quantum_of w.spec) (tape : List World) (regular : IsRegular (quantum_of w.spec) (tape ++ w ∷ [])) where
  abbrev q : ℕ
  q = quantum_of w.spec

  abbrev longer : List World
  longer = tape ++ w ∷ []

  long : length longer ≡ length tape + 1
  long = length-append tape (w ∷ [])

  pub now : world_in longer (length tape) ≡ sounding w
  now = world_after tape w (length tape) refl

  -- a node of the last world is there still
  pub stays_last : (n : ℕ) → n < length (last_world tape).nodes → Stays n (last_world tape) (sounding w)
  stays_last n low = by_length (length tape) refl
    where
      by_length : (k : ℕ) → length tape ≡ k → Stays n (last_world tape) (sounding w)
      by_length zero e = absurd (none tape e low)
        where
          none : (t : List World) → length t ≡ 0 → n < length (last_world t).nodes → ⊥
          none [] e low = absurd (omega arith)
          none (x ∷ xs) e low = absurd (omega arith)
      by_length (suc j) e =
          let last : world_in longer j ≡ last_world tape = world_before tape w j (omega arith) ∙ ap (world_in tape) (let back : j ≡ length tape - 1 = omega arith in back) in
          let next : world_in longer (suc j) ≡ sounding w = world_after tape w (suc j) (sym e) in
          subst (λ x. Stays n x (sounding w)) last (subst (Stays n (world_in longer j)) next (regular.stays j n (omega (arith, long)) (subst (λ (x : World). n < length x.nodes) (sym last) low)))

  -- the last world has no more nodes
  pub last_few : length (last_world tape).nodes ≤ length w.nodes
  last_few = by_count (length (last_world tape).nodes) refl
    where
      by_count : (k : ℕ) → length (last_world tape).nodes ≡ k → k ≤ length w.nodes
      by_count zero e = omega arith
      by_count (suc k) e = let there = (stays_last k (omega arith)).there in omega arith

  -- a node that the last world lacks was born at the first frame of the quantum
  pub born_now : (n : ℕ) → n < length w.nodes → length (last_world tape).nodes ≤ n → (node_at w n).attrs.birth ≡ q * length tape
  born_now n low high = ap (λ (x : World). (node_at x n).attrs.birth) (sym now) ∙ regular.born (length tape) n (omega (arith, long)) (subst (λ (x : World). n < length x.nodes) (sym now) low, before (length tape) refl)
    where
      before : (k : ℕ) → length tape ≡ k → (length tape ≡ 0) ⊎ (length (world_in longer (length tape - 1)).nodes ≤ n)
      before zero e = inl e
      before (suc k) e = inr (subst (λ (x : World). length x.nodes ≤ n) (sym (world_before tape w (length tape - 1) (omega arith))) high)

  -- what the causal nodes remember of the tape is what they have heard
  pub remembered : (bank : BankView) (time : ℕ) → time ≡ q * length tape → bank.known ≡ length (last_world tape).nodes → AreHeard bank (last_world tape) time (past q tape).heard → AreNew bank w → HasHeard bank w tape time
  remembered bank time begins known old fresh n equation low is = elim (cases_lt n (length (last_world tape).nodes)) [
    | inl there ↦
        let stays = stays_last n there in
        let kind : kind_of (last_world tape) n ≡ Causal equation = lasting_equation _ equation (sym stays.kind ∙ ap lasting is) in
        subst (λ b. IsHeard (heard_at bank n) equation b time (λ g c. taken_in (frame q longer g) n c)) (sym stays.birth)
        (heard_like _ equation _ time ((past q tape).heard n) _ (λ g c from to.
        past_heard q some w tape regular n g c (ap remembers is) (subst (λ b. b ≤ g) (sym stays.birth) from) (subst (λ t. g < t) begins to)
        ∙ ap (λ x. taken_in x n c) (sym (frame_before q some tape w g (subst (λ t. g < t) begins to))))
        (old n equation there kind))
    | inr new ↦
        let birth : (node_at w n).attrs.birth ≡ time = born_now n low new ∙ sym begins in
        subst (λ t. IsHeard (heard_at bank n) equation (node_at w n).attrs.birth t (λ g c. taken_in (frame q longer g) n c)) birth
        (heard_like _ equation _ (node_at w n).attrs.birth (λ g c. pos 0) _ (λ g c from to. absurd (omega arith))
        (fresh n equation (subst (λ k. k ≤ n) (sym known) new) low is))
  ]

  pub last_now : last_world longer ≡ sounding w
  last_now = world_after tape w (length longer - 1) (omega (arith, long))

  -- and what they have heard they remember
  pub remembers_on : (bank : BankView) (time : ℕ) → time ≡ q * length longer → HasHeard bank w tape time → AreHeard bank (last_world longer) time (past q longer).heard
  remembers_on bank time ends heard_all = subst (λ x. AreHeard bank x time (past q longer).heard) (sym last_now) (λ n equation low is.
      heard_like _ equation _ time (λ g c. taken_in (frame q longer g) n c) _ (λ g c from to. sym (lived n g c (ap remembers is) from (subst (λ t. g < t) ends to))) (heard_all n equation low is))
    where
      at_least : (a b : ℕ) → a ≤ b → nat_le a b ≡ true
      at_least a b l = grind (arith, nat_tests)

      below : (a b : ℕ) → a < b → nat_lt a b ≡ true
      below a b l = grind (arith, nat_tests)

      lived : (n g c : ℕ) → remembers (kind_of w n) ≡ true → (node_at w n).attrs.birth ≤ g → g < q * length longer → (past q longer).heard n g c ≡ taken_in (frame q longer g) n c
      lived n g c is from to =
          ap (λ x. if remembers (node_at x n).kind && (nat_le (node_at x n).attrs.birth g && nat_lt g (q * length longer)) then heard q longer n g c else pos 0) last_now
          ∙ ap (λ b. if b then heard q longer n g c else pos 0) (and_both _ _ is (and_both _ _ (at_least (node_at w n).attrs.birth g from) (below g (q * length longer) to)))
