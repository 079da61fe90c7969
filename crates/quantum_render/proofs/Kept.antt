-- What a renderer remembers of the delays of the tapes that it stands for.
use Rattle.std.proofs.Common.{ℕ, zero, suc, ℤ, pos, ◌≡◌, ◌+◌, ◌-◌, ◌*◌, ◌/◌, ◌<◌, ◌≤◌, length, length-append, List, [], ◌∷◌, ◌++◌, true, inl, inr, refl, sym, ◌∙◌, ap, arith, subst, mul_comm}
use Rattle.std.specs.Prelude.{if◌then◌else◌, ◌&&◌, nat_lt, nat_le}
use Rattle.std.proofs.lemmas.Bool.{cases_lt}
use Rattle.std.proofs.lemmas.Bool.Decides.{nat_tests}
use Rattle.wa_base.specs.Contexts.{quantum_of}
use Rattle.law_base.proofs.Tests.{and_both}
use Rattle.law_base.proofs.Rows.{quantum_from}
use Rattle.node_table.specs.Kinds.{is_delay_kind, lasting}
use Rattle.node_table.specs.declared.kinds.Kind.{Kind}
use Rattle.node_table.specs.declared.kinds.Kind.TheVariants.{Delay}
use Rattle.node_table.proofs.Lasting.{the_delay}
use Rattle.conn_graph.specs.Ends.{writer_of}
use Rattle.meaning.specs.declared.world.World.{World}
use Rattle.meaning.specs.World.{node_at, kind_of}
use Rattle.meaning.specs.Counts.{world_in, Counts, count}
use Rattle.meaning.specs.Values.{Frame, frame}
use Rattle.meaning.specs.Worlds.{HasCapacity, IsRegular}
use Rattle.meaning.specs.Pasts.{last_world, written, past}
use Rattle.meaning.proofs.Successors.{delay_lasts, past_written, past_counts}
use Rattle.meaning.proofs.TapeLaws.{count_before, quantum_below, frame_before}
use Rattle.delay_line.specs.Delays.{Writer}
use Rattle.delay_bank.specs.Kept.{IsKept}
use Rattle.delay_bank.specs.Banks.{BankView as DelayBank, delay_at, AreKept, AreNew}
use Rattle.delay_bank.proofs.Alike.{kept_like}
use Rattle.delay_bank.proofs.Keeping.{quantum_after}
use Rattle.quantum_render.specs.Listening.{writer_in, HasKept, IsTimely}
use Rattle.quantum_render.specs.Stands.{past_writer}
use Rattle.quantum_render.proofs.Remembering.{stays_last, born_now, now, last_now}

-- a delay is all that it was
delay_was : (kind : Kind) (longest time : ℤ) (capacity : ℕ) → lasting kind ≡ Delay longest time capacity → kind ≡ Delay longest time capacity
delay_was kind longest time capacity is =
    let d = the_delay kind (delay_lasts kind (Delay longest time capacity) is) in
    d.is ∙ sym (ap lasting d.is) ∙ is

-- a multiple of a quantum
pub whole : (q : ℕ) → 0 < q → (b k : ℕ) → b ≡ q * k → q * (b / q) ≡ b
whole q some b k is = subst (λ x. q * (x / q) ≡ x) (sym is) (ap (λ i. q * i) (quantum_from q k some))

-- a quantum of a life that lies before a frame
early : (q : ℕ) → 0 < q → (birth k time n : ℕ) → time ≡ q * n → birth / q ≤ k → birth + q * (k - birth / q) < time → k < n
early q some birth k time n is from to =
    let turned = mul_comm q (k - birth / q) in
    let before : birth + (k - birth / q) * q < q * n = omega (arith, turned, is, to) in
    let quanta = quantum_after q some birth (k - birth / q) in
    let below = quantum_below q (birth + (k - birth / q) * q) n some before in
    omega (arith, quanta, below, from)

module _ (w : World) (some : 0 < quantum_of w.spec) (tape : List World) (regular : IsRegular (quantum_of w.spec) (tape ++ w ∷ [])) where
  abbrev q : ℕ
  q = quantum_of w.spec

  abbrev longer : List World
  longer = tape ++ w ∷ []

  long : length longer ≡ length tape + 1
  long = length-append tape (w ∷ [])

  -- a delay of a bank for these quanta keeps what every writer wrote that agrees with its own
  like : (bank : DelayBank) → bank.quantum ≡ q → (n longest born time : ℕ) (writer writer' : Writer) → ((g c : ℕ) → born ≤ g → g < time → writer.frames g c ≡ writer'.frames g c)
      → ((k : ℕ) → born / q ≤ k → born + q * (k - born / q) < time → writer.counts k ≡ writer'.counts k)
      → IsKept bank.quantum (delay_at bank n) longest born time writer → IsKept bank.quantum (delay_at bank n) longest born time writer'
  like bank same n longest born time writer writer' frames counts is =
      subst (λ k. IsKept k (delay_at bank n) longest born time writer') (sym same)
      (kept_like q some (delay_at bank n) longest born time writer writer' frames counts (subst (λ k. IsKept k (delay_at bank n) longest born time writer) same is))

  -- what the delays remember of the tape is what they keep
  pub remembered_delays : (bank : DelayBank) → bank.quantum ≡ q → (time : ℕ) → time ≡ q * length tape → bank.known ≡ length (last_world tape).nodes → AreKept bank (last_world tape) time (past_writer (past q tape)) → AreNew bank w → HasKept bank w tape time
  remembered_delays bank same time begins known old fresh n longest line capacity low is = elim (cases_lt n (length (last_world tape).nodes)) [
    | inl there ↦
        let stays = stays_last w some tape regular n there in
        let kind : kind_of (last_world tape) n ≡ Delay longest line capacity = delay_was _ longest line capacity (sym stays.kind ∙ ap lasting is) in
        let delay : is_delay_kind (kind_of w n) ≡ true = ap is_delay_kind is in
        like bank same n capacity (node_at w n).attrs.birth time (past_writer (past q tape) n) (writer_in q (frame q longer) n)
        (λ g c from to.
        past_written q some w tape regular n g c delay from (subst (λ t. g < t) begins to)
        ∙ ap (λ (x : Frame). x.values (writer_of n) 0 c) (sym (frame_before q some tape w g (subst (λ t. g < t) begins to))))
        (λ k from to.
        let before : k < length tape = early q some (node_at w n).attrs.birth k time (length tape) begins from to in
        past_counts q some w tape regular n k delay from before
        ∙ ap (λ (c : Counts). c (writer_of n)) (sym (count_before q tape w k before))
        ∙ ap (λ i. count q longer i (writer_of n)) (sym (quantum_from q k some)))
        (subst (λ b. IsKept bank.quantum (delay_at bank n) capacity b time (past_writer (past q tape) n)) (sym stays.birth) (old n longest line capacity there kind))
    | inr new ↦
        let birth : (node_at w n).attrs.birth ≡ time = born_now w some tape regular n low new ∙ sym begins in
        subst (λ t. IsKept bank.quantum (delay_at bank n) capacity (node_at w n).attrs.birth t (writer_in q (frame q longer) n)) birth
        (fresh n longest line capacity (subst (λ k. k ≤ n) (sym known) new) low is (writer_in q (frame q longer) n))
  ]

  -- and what they keep they remember
  pub remember_delays : (bank : DelayBank) → bank.quantum ≡ q → (time : ℕ) → time ≡ q * length longer → HasKept bank w tape time → AreKept bank (last_world longer) time (past_writer (past q longer))
  remember_delays bank same time ends kept = subst (λ x. AreKept bank x time (past_writer (past q longer))) (sym (last_now w some tape regular)) (λ n longest line capacity low is.
      let delay : is_delay_kind (kind_of w n) ≡ true = ap is_delay_kind is in
      like bank same n capacity (node_at w n).attrs.birth time (writer_in q (frame q longer) n) (past_writer (past q longer) n)
      (λ g c from to. sym (lived n g c delay from (subst (λ t. g < t) ends to)))
      (λ k from to. ap (λ i. count q longer i (writer_of n)) (quantum_from q k some) ∙ sym (counted n k delay from (early q some (node_at w n).attrs.birth k time (length longer) ends from to)))
      (kept n longest line capacity low is))
    where
      at_least : (a b : ℕ) → a ≤ b → nat_le a b ≡ true
      at_least a b l = grind (arith, nat_tests)

      below : (a b : ℕ) → a < b → nat_lt a b ≡ true
      below a b l = grind (arith, nat_tests)

      lived : (n g c : ℕ) → is_delay_kind (kind_of w n) ≡ true → (node_at w n).attrs.birth ≤ g → g < q * length longer → (past q longer).written n g c ≡ written q longer n g c
      lived n g c is from to =
          ap (λ x. if is_delay_kind (node_at x n).kind && (nat_le (node_at x n).attrs.birth g && nat_lt g (q * length longer)) then written q longer n g c else pos 0) (last_now w some tape regular)
          ∙ ap (λ b. if b then written q longer n g c else pos 0) (and_both _ _ is (and_both _ _ (at_least (node_at w n).attrs.birth g from) (below g (q * length longer) to)))

      counted : (n k : ℕ) → is_delay_kind (kind_of w n) ≡ true → (node_at w n).attrs.birth / q ≤ k → k < length longer → (past q longer).counts n k ≡ count q longer k (writer_of n)
      counted n k is from to =
          ap (λ x. if is_delay_kind (node_at x n).kind && (nat_le ((node_at x n).attrs.birth / q) k && nat_lt k (length longer)) then count q longer k (writer_of n) else 1) (last_now w some tape regular)
          ∙ ap (λ b. if b then count q longer k (writer_of n) else 1) (and_both _ _ is (and_both _ _ (at_least ((node_at w n).attrs.birth / q) k from) (below k (length longer) to)))

  -- a node of a world was born at the first frame of a quantum
  births : (n j : ℕ) → j < length longer → n < length (world_in longer j).nodes → q * ((node_at (world_in longer j) n).attrs.birth / q) ≡ (node_at (world_in longer j) n).attrs.birth
  births n zero there low = whole q some _ zero (regular.born zero n there (low, inl refl))
  births n (suc j) there low = elim (cases_lt n (length (world_in longer j).nodes)) [
    | inl old ↦
        let same = (regular.stays j n there old).birth in
        subst (λ b. q * (b / q) ≡ b) (sym same) (births n j (omega arith) old)
    | inr new ↦ whole q some _ (suc j) (regular.born (suc j) n there (low, inr (subst (λ k. length (world_in longer k).nodes ≤ n) (let back : j ≡ suc j - 1 = omega arith in back) new)))
  ]

  -- each delay keeps what it has to, too
  pub timely : IsTimely w
  timely = record {
    born = λ n low. subst (λ (x : World). q * ((node_at x n).attrs.birth / q) ≡ (node_at x n).attrs.birth) (now w some tape regular)
        (births n (length tape) (omega (arith, long)) (subst (λ (x : World). n < length x.nodes) (sym (now w some tape regular)) low));
    capacity = λ n low. subst (λ (x : World). HasCapacity q x.spec (kind_of x n)) (now w some tape regular) (regular.capacity (length tape) n (omega (arith, long)));
  }
