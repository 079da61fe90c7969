-- Two accounts that have in common what a history needs.
use Rattle.std.proofs.Common.{ℕ, zero, suc, ℤ, pos, ◌≡◌, ◌+◌, ◌-◌, ◌/◌, ◌<◌, ◌≤◌, ◌==◌, ◌++◌, length, List, [], ◌∷◌, Bool, true, false, Option, Some, None, inl, inr, refl, sym, ◌∙◌, ap, ap₂, subst, arith}
use Rattle.std.specs.Prelude.{if◌then◌else◌, nat_lt, nat_le, unsigned_abs, unwrap_or, ◌&&◌, ◌||◌, not}
use Rattle.std.specs.List.{range_with_len}
use Rattle.std.proofs.lemmas.Bool.Decides.{nat_tests}
use Rattle.wa_base.specs.Numbers.{rnd, sat}
use Rattle.wa_base.specs.declared.graph_names.End.{End}
use Rattle.wa_base.specs.declared.graph_names.NodeId.{NodeId}
use Rattle.law_base.specs.Members.{IsIn}
use Rattle.law_base.proofs.Members.{IsIn-append_first, IsIn-append_second}
use Rattle.node_table.specs.Curves.{shaper_value}
use Rattle.node_table.specs.Equations.{equation_value}
use Rattle.node_table.specs.Kinds.{is_delay_kind}
use Rattle.node_table.specs.Machine.{Frame as MachineFrame, cells_after, played}
use Rattle.node_table.specs.declared.code.Instr.{Instr}
use Rattle.node_table.specs.declared.equation.Equation.{Equation}
use Rattle.node_table.specs.declared.equation.Equation.TheVariants.{Filter, Convolution, Processor}
use Rattle.node_table.specs.declared.kinds.Kind.{Kind}
use Rattle.node_table.specs.declared.kinds.Kind.TheVariants.{Shaper, Causal}
use Rattle.conn_graph.specs.Ends.{reader_of, input_end, muted}
use Rattle.meaning.specs.declared.world.World.{World}
use Rattle.meaning.specs.Lists.{since}
use Rattle.meaning.specs.World.{node_at, kind_of}
use Rattle.meaning.specs.Worlds.{IsRegular}
use Rattle.meaning.specs.Counts.{Counts, input_channels, count_by_kind, count_rule}
use Rattle.meaning.specs.Values.{input_value, taken_in, world_at}
use Rattle.meaning.proofs.Joined.{joined_in}
use Rattle.meaning.proofs.Seeing.{same_since}
use Rattle.meaning.proofs.Successors.{div-le-div}
use Rattle.explain.specs.declared.facts.Key.{Key}
use Rattle.explain.specs.declared.facts.Key.TheVariants.{Count, Inlet, Hist}
use Rattle.explain.specs.declared.facts.Fact.{Fact}
use Rattle.explain.specs.Accounts.{Account, result_of, cells_of, frame_in, heard_in, counts_in, value_in, cells_in, stated, derived}
use Rattle.explain.specs.Facts.{has_history}
use Rattle.explain.specs.Needs.{hears, feeds_back, heard_needs, needs_ago, history_needs}
use Rattle.explain.proofs.Members.{IsIn-flat_map, IsIn-range, same_flat_map}
use Rattle.explain.proofs.Lives.{IsOne, Lives, lives, causal_lasts}
use Rattle.explain.proofs.Agreeing.{Alike, AllAlike, same_value, same_count, seen_is}
use Rattle.explain.proofs.Recalling.{dot_reads, filter_reads}

-- a node with a history has one end, and as many channels as come in
no_delay : (k : Kind) → has_history k ≡ true → is_delay_kind k ≡ false
no_delay (Shaper curve was_set) is = refl
no_delay (Causal equation) is = refl
no_delay other is = absurd cc

own_channels : (q : ℕ) (w : World) (j : ℕ) (past : ℕ → Counts) (now : Counts) (n : ℕ) (k : Kind) → has_history k ≡ true → count_by_kind q w j past now k (reader_of n) ≡ input_channels w now n 0
own_channels q w j past now n (Shaper curve was_set) is = refl
own_channels q w j past now n (Causal equation) is = refl
own_channels q w j past now n other is = absurd cc

-- what the input of a node takes in at a frame
abbrev pub taken : ℕ → List World → Account → ℕ → ℕ → ℕ → ℤ
taken q tape x n c g = taken_in (frame_in q tape x g) n c

abbrev pub birth_at : ℕ → List World → ℕ → ℕ → ℕ
birth_at q tape f n = (node_at (world_at q tape f) n).attrs.birth

-- all that it took in is what it took in at each frame
pub heard_is : (q : ℕ) (tape : List World) (x : Account) (f n c : ℕ) → heard_in q tape x f n c ≡ since (taken q tape x n c) (birth_at q tape f n) (f + 1 - birth_at q tape f n)
heard_is q tape x f n c = same_since _ _ (birth_at q tape f n) (f + 1 - birth_at q tape f n) (λ g low high. ap (λ y. taken_in y n c) (seen_is q tape x f g (omega arith)))

below : (i k : ℕ) → i < k → nat_lt i k ≡ true
below i k l = grind (arith, nat_tests)

at_least : (i k : ℕ) → i ≤ k → nat_le i k ≡ true
at_least i k l = grind (arith, nat_tests)

equal : (i k : ℕ) → i ≡ k → (i == k) ≡ true
equal i k e = grind (arith, nat_tests)

pub shaper_newest : (curve : Option (List ℤ)) (x : ℤ) (xs : List ℤ) → shaper_value curve (x ∷ xs) ≡ shaper_value curve (x ∷ [])
shaper_newest None x xs = refl
shaper_newest (Some curve) x xs = refl

module _ (q : ℕ) (some : 0 < q) (tape : List World) (regular : IsRegular q tape) where
  pub one_end : (g n : ℕ) → has_history (kind_of (world_at q tape g) n) ≡ true → input_end (world_at q tape g).graph.value n ≡ reader_of n
  one_end g n is = ap (λ t. let x : End = record { node = record { 0 = n }; writer = t } in x) ((joined_in tape regular.valid (g / q)).delays n ∙ no_delay (kind_of (world_at q tape g) n) is)

  -- where a node is not muted and an account has its count by the rule, that is how many channels come in
  channels_in : (x : Account) (g n : ℕ) → has_history (kind_of (world_at q tape g) n) ≡ true → muted (world_at q tape g).graph.value (reader_of n) ≡ false
      → derived q tape x (Count (g / q) (reader_of n) 0) ≡ stated q tape x (Count (g / q) (reader_of n) 0)
      → input_channels (world_at q tape g) (x.counts (g / q)) n 0 ≡ x.counts (g / q) (reader_of n)
  unfolding count_rule
  channels_in x g n is quiet given =
      sym (own_channels q w (g / q) (counts_in q tape x (g / q)) (x.counts (g / q)) n (kind_of w n) is)
      ∙ sym (ap (λ t. if t then 1 else count_by_kind q w (g / q) (counts_in q tape x (g / q)) (x.counts (g / q)) (kind_of w n) (reader_of n)) quiet)
      ∙ ap (λ (y : Fact). unsigned_abs y.value) given
    where
      w : World
      w = world_at q tape g

  -- a channel that does not come in is silent
  absent : (x : Account) (g n c : ℕ) → nat_lt c (input_channels (world_at q tape g) (x.counts (g / q)) n 0) ≡ false → input_value (frame_in q tape x g) n 0 c ≡ pos 0
  unfolding input_value
  absent x g n c none = rw none refl

module _ (q : ℕ) (some : 0 < q) (tape : List World) (regular : IsRegular q tape) (a b : Account) where
  pub same_taken : (g n c : ℕ) → has_history (kind_of (world_at q tape g) n) ≡ true → AllAlike q tape a b (heard_needs q tape b g n c) → taken q tape a n c g ≡ taken q tape b n c g
  same_taken g n c is all = at_reader a ∙ by_muted (muted w.graph.value (reader_of n)) refl all ∙ sym (at_reader b)
    where
      w : World
      w = world_at q tape g

      count : Key
      count = Count (g / q) (reader_of n) 0

      at_reader : (x : Account) → taken q tape x n c g ≡ (if muted w.graph.value (reader_of n) then pos 0 else input_value (frame_in q tape x g) n 0 c)
      at_reader x = ap (λ e. if muted w.graph.value e then pos 0 else input_value (frame_in q tape x g) n 0 c) (one_end q some tape regular g n is)

      by_channel : (t : Bool) → nat_lt c (b.counts (g / q) (reader_of n)) ≡ t → muted w.graph.value (reader_of n) ≡ false
          → AllAlike q tape a b (count ∷ (if false || not t then [] else Inlet g (reader_of n) 0 c ∷ []))
          → input_value (frame_in q tape a g) n 0 c ≡ input_value (frame_in q tape b g) n 0 c
      by_channel true there quiet all = same_value q tape a b (Inlet g (reader_of n) 0 c) (all (Inlet g (reader_of n) 0 c) (inr (inl refl)))
      by_channel false none quiet all =
          let own : Alike q tape a b count = all count (inl refl) in
          absent q some tape regular a g n c (ap (nat_lt c) (channels_in q some tape regular a g n is quiet own.left ∙ same_count q tape a b (g / q) (reader_of n) 0 own) ∙ none)
          ∙ sym (absent q some tape regular b g n c (ap (nat_lt c) (channels_in q some tape regular b g n is quiet own.right) ∙ none))

      by_muted : (t : Bool) → muted w.graph.value (reader_of n) ≡ t
          → AllAlike q tape a b (count ∷ (if t || not (nat_lt c (b.counts (g / q) (reader_of n))) then [] else Inlet g (reader_of n) 0 c ∷ []))
          → (if t then pos 0 else input_value (frame_in q tape a g) n 0 c) ≡ (if t then pos 0 else input_value (frame_in q tape b g) n 0 c)
      by_muted true is all = refl
      by_muted false is all = by_channel (nat_lt c (b.counts (g / q) (reader_of n))) refl is all

  pub same_heard_needs : (g n c : ℕ) → AllAlike q tape a b (heard_needs q tape b g n c) → heard_needs q tape a g n c ≡ heard_needs q tape b g n c
  same_heard_needs g n c all =
      ap (λ k. Count (g / q) (reader_of n) 0 ∷ (if muted (world_at q tape g).graph.value (reader_of n) || not (nat_lt c k) then [] else Inlet g (reader_of n) 0 c ∷ []))
      (same_count q tape a b (g / q) (reader_of n) 0 (all (Count (g / q) (reader_of n) 0) (inl refl)))

module _ (q : ℕ) (some : 0 < q) (tape : List World) (regular : IsRegular q tape) (a b : Account) (f n c : ℕ) (short : f / q < length tape) (there : n < length (world_at q tape f).nodes)
    (all : AllAlike q tape a b (history_needs q tape b f n c)) where
  abbrev birth : ℕ
  birth = birth_at q tape f n

  abbrev kind : Kind
  kind = kind_of (world_at q tape f) n

  abbrev node : NodeId
  node = record { 0 = n }

  life : Lives q some tape regular n (f / q)
  life = lives q some tape regular n (f / q) short there

  pub born : birth ≤ f
  born = let l = life.born in omega (arith, l)

  one : (g : ℕ) → birth ≤ g → g ≤ f → IsOne n (world_at q tape g) (world_at q tape f)
  one g low high = life.since (g / q) (div-le-div g f q some high) (div-le-div birth g q some low)

  equation_then : (g : ℕ) (e : Equation) → kind ≡ Causal e → birth ≤ g → g ≤ f → kind_of (world_at q tape g) n ≡ Causal e
  equation_then g e is low high = causal_lasts (kind_of (world_at q tape g) n) kind e (one g low high).kind is

  -- what an account has of an earlier frame
  heard_then : (x : Account) (g : ℕ) → birth ≤ g → g ≤ f → heard_in q tape x g n c ≡ since (taken q tape x n c) birth (g + 1 - birth)
  heard_then x g low high = heard_is q tape x g n c ∙ ap (λ first. since (taken q tape x n c) first (g + 1 - first)) (sym (one g low high).birth)

  value_then : (x : Account) (g : ℕ) (e : Equation) → kind ≡ Causal e → birth ≤ g → g ≤ f → value_in q tape x (Hist g node c) ≡ equation_value e (since (taken q tape x n c) birth (g + 1 - birth))
  value_then x g e is low high = ap₂ (λ k xs. result_of k xs) (equation_then g e is low high) (heard_then x g low high)

  cells_then : (x : Account) (g : ℕ) (e : Equation) → kind ≡ Causal e → birth ≤ g → g ≤ f → cells_in q tape x (Hist g node c) ≡ cells_of (Causal e) (since (taken q tape x n c) birth (g + 1 - birth))
  cells_then x g e is low high = ap₂ (λ k xs. cells_of k xs) (equation_then g e is low high) (heard_then x g low high)

  -- what is needed of a frame
  of_frame : (ago : ℕ) → ago < f + 1 - birth → AllAlike q tape a b (needs_ago q tape b f n c kind ago)
  of_frame ago l k h = all k (IsIn-flat_map (needs_ago q tape b f n c kind) (range_with_len 0 (f + 1 - birth)) ago k (IsIn-range 0 (f + 1 - birth) ago (omega arith) (omega arith)) h)

  of_input : (ago : ℕ) → ago < f + 1 - birth → hears kind ago ≡ true → AllAlike q tape a b (heard_needs q tape b (f - ago) n c)
  of_input ago l is k h = of_frame ago l k (IsIn-append_first _ _ k (subst (λ t. IsIn k (if t then heard_needs q tape b (f - ago) n c else [])) (sym is) h))

  of_result : (ago : ℕ) → ago < f + 1 - birth → feeds_back kind ago ≡ true → Alike q tape a b (Hist (f - ago) node c)
  of_result ago l is =
      let k : Key = Hist (f - ago) node c in
      of_frame ago l k (IsIn-append_second (if hears kind ago then heard_needs q tape b (f - ago) n c else []) _ k (subst (λ t. IsIn k (if t then k ∷ [] else [])) (sym is) (inl refl)))

  input_then : (g : ℕ) → birth ≤ g → g ≤ f → has_history (kind_of (world_at q tape g) n) ≡ true → hears kind (f - g) ≡ true → taken q tape a n c g ≡ taken q tape b n c g
  input_then g low high is hears_it =
      let back : f - (f - g) ≡ g = omega arith in
      same_taken q some tape regular a b g n c is (subst (λ h. AllAlike q tape a b (heard_needs q tape b h n c)) back (of_input (f - g) (omega arith) hears_it))

  result_then : (g : ℕ) → birth ≤ g → g ≤ f → feeds_back kind (f - g) ≡ true → Alike q tape a b (Hist g node c)
  result_then g low high feeds =
      let back : f - (f - g) ≡ g = omega arith in
      subst (λ h. Alike q tape a b (Hist h node c)) back (of_result (f - g) (omega arith) feeds)

  causal_input : (e : Equation) → kind ≡ Causal e → (g : ℕ) → birth ≤ g → g ≤ f → hears (Causal e) (f - g) ≡ true → taken q tape a n c g ≡ taken q tape b n c g
  causal_input e is g low high hears_it = input_then g low high (ap has_history (equation_then g e is low high)) (ap (λ k. hears k (f - g)) is ∙ hears_it)

  causal_result : (e : Equation) → kind ≡ Causal e → (g : ℕ) → birth ≤ g → g ≤ f → feeds_back (Causal e) (f - g) ≡ true → Alike q tape a b (Hist g node c)
  causal_result e is g low high feeds = result_then g low high (ap (λ k. feeds_back k (f - g)) is ∙ feeds)

  -- ---- what comes of it

  abbrev life_long : ℕ
  life_long = f - birth

  same_filter : (forward back : List ℤ) → kind ≡ Causal (Filter forward back)
      → equation_value (Filter forward back) (since (taken q tape a n c) birth (suc life_long)) ≡ equation_value (Filter forward back) (since (taken q tape b n c) birth (suc life_long))
  same_filter forward back is =
      let e : Equation = Filter forward back in
      let at : birth ≤ f = born in
      filter_reads forward back (taken q tape a n c) (taken q tape b n c) birth life_long
      (λ g low high near. causal_input e is g low (omega (arith, at)) (below (f - g) (length forward) (omega (arith, at))))
      (λ g low high near.
      let before : g ≤ f = omega (arith, at) in
      let first : nat_le 1 (f - g) ≡ true = at_least 1 (f - g) (omega (arith, at)) in
      let last : nat_lt (f - g) (length back) ≡ true = below (f - g) (length back) (omega (arith, at)) in
      let alike = causal_result e is g low before (ap₂ (λ s t. s && t) first last) in
      sym (value_then a g e is low before) ∙ same_value q tape a b (Hist g node c) alike ∙ value_then b g e is low before)

  same_convolution : (response : List ℤ) → kind ≡ Causal (Convolution response)
      → equation_value (Convolution response) (since (taken q tape a n c) birth (suc life_long)) ≡ equation_value (Convolution response) (since (taken q tape b n c) birth (suc life_long))
  same_convolution response is =
      let at : birth ≤ f = born in
      ap (λ v. sat (rnd v (pos 16777216)))
      (dot_reads response (taken q tape a n c) (taken q tape b n c) birth (suc life_long)
      (λ g low high near. causal_input (Convolution response) is g low (omega (arith, at)) (below (f - g) (length response) (omega (arith, at)))))

  -- this frame's input
  same_newest : (e : Equation) → kind ≡ Causal e → hears (Causal e) 0 ≡ true → taken q tape a n c (birth + life_long) ≡ taken q tape b n c (birth + life_long)
  same_newest e is hears_it =
      let at : birth ≤ f = born in
      causal_input e is (birth + life_long) (omega arith) (omega (arith, at)) (subst (λ i. hears (Causal e) i ≡ true) (let none : 0 ≡ f - (birth + life_long) = omega (arith, at) in none) hears_it)

  -- the cells that a processor had before this frame
  same_cells : (code : List Instr) → kind ≡ Causal (Processor code)
      → cells_after code (since (taken q tape a n c) birth life_long) ≡ cells_after code (since (taken q tape b n c) birth life_long)
  same_cells code is = by_life life_long refl
    where
      cells : Account → ℕ → List ℤ
      cells x m = cells_after code (since (taken q tape x n c) birth m)

      by_life : (m : ℕ) → life_long ≡ m → cells a m ≡ cells b m
      by_life zero e = refl
      by_life (suc m) e =
          let at : birth ≤ f = born in
          let low : birth ≤ birth + m = omega arith in
          let high : birth + m ≤ f = omega (arith, at, e) in
          let last : (f - (birth + m) == 1) ≡ true = equal (f - (birth + m)) 1 (omega (arith, at, e)) in
          let alike = causal_result (Processor code) is (birth + m) low high last in
          let long : birth + m + 1 - birth ≡ suc m = omega arith in
          let both : Some (cells a (suc m)) ≡ Some (cells b (suc m)) =
          ap (λ k. Some (cells a k)) (sym long) ∙ sym (cells_then a (birth + m) (Processor code) is low high) ∙ ap (λ (x : Fact). x.cells) alike.same
          ∙ cells_then b (birth + m) (Processor code) is low high ∙ ap (λ k. Some (cells b k)) long in
          ap (λ (o : Option (List ℤ)). unwrap_or o []) both

  same_played : (code : List Instr) → kind ≡ Causal (Processor code)
      → played code (cells_after code (since (taken q tape a n c) birth life_long)) (taken q tape a n c (birth + life_long))
      ≡ played code (cells_after code (since (taken q tape b n c) birth life_long)) (taken q tape b n c (birth + life_long))
  same_played code is = ap₂ (λ cells x. played code cells x) (same_cells code is) (same_newest (Processor code) is refl)

  same_result : (k : Kind) → kind ≡ k → result_of k (since (taken q tape a n c) birth (suc life_long)) ≡ result_of k (since (taken q tape b n c) birth (suc life_long))
  same_result (Causal (Filter forward back)) is = same_filter forward back is
  same_result (Causal (Convolution response)) is = same_convolution response is
  same_result (Causal (Processor code)) is = ap (λ (x : MachineFrame). x.output) (same_played code is)
  same_result (Shaper curve was_set) is =
      let at : birth ≤ f = born in
      let here : birth + life_long ≡ f = omega (arith, at) in
      let now : hears kind (f - (birth + life_long)) ≡ true = ap (λ k. hears k (f - (birth + life_long))) is ∙ equal (f - (birth + life_long)) 0 (omega (arith, at)) in
      shaper_newest curve _ _
      ∙ ap (λ x. shaper_value curve (x ∷ [])) (input_then (birth + life_long) (omega arith) (omega (arith, at)) (subst (λ g. has_history (kind_of (world_at q tape g) n) ≡ true) (sym here) (ap has_history is)) now)
      ∙ sym (shaper_newest curve _ _)
  same_result other is = refl

  same_leaving : (k : Kind) → kind ≡ k → cells_of k (since (taken q tape a n c) birth (suc life_long)) ≡ cells_of k (since (taken q tape b n c) birth (suc life_long))
  same_leaving (Causal (Processor code)) is = ap (λ (x : MachineFrame). let o : Option (List ℤ) = Some x.cells in o) (same_played code is)
  same_leaving other is = refl

  all_heard : (x : Account) → heard_in q tape x f n c ≡ since (taken q tape x n c) birth (suc life_long)
  all_heard x = let at : birth ≤ f = born in heard_is q tape x f n c ∙ ap (since (taken q tape x n c) birth) (let long : f + 1 - birth ≡ suc life_long = omega (arith, at) in long)

  pub same_history : result_of kind (heard_in q tape a f n c) ≡ result_of kind (heard_in q tape b f n c)
  same_history = ap (result_of kind) (all_heard a) ∙ same_result kind refl ∙ sym (ap (result_of kind) (all_heard b))

  pub same_history_cells : cells_of kind (heard_in q tape a f n c) ≡ cells_of kind (heard_in q tape b f n c)
  same_history_cells = ap (cells_of kind) (all_heard a) ∙ same_leaving kind refl ∙ sym (ap (cells_of kind) (all_heard b))

  pub same_history_needs : history_needs q tape a f n c ≡ history_needs q tape b f n c
  same_history_needs = same_flat_map _ _ (range_with_len 0 (f + 1 - birth)) (λ ago is. by_input ago (hears kind ago) (λ k h. all k (IsIn-flat_map (needs_ago q tape b f n c kind) (range_with_len 0 (f + 1 - birth)) ago k is h)))
    where
      by_input : (ago : ℕ) (t : Bool) → AllAlike q tape a b ((if t then heard_needs q tape b (f - ago) n c else []) ++ (if feeds_back kind ago then Hist (f - ago) node c ∷ [] else []))
          → (if t then heard_needs q tape a (f - ago) n c else []) ++ (if feeds_back kind ago then Hist (f - ago) node c ∷ [] else [])
          ≡ (if t then heard_needs q tape b (f - ago) n c else []) ++ (if feeds_back kind ago then Hist (f - ago) node c ∷ [] else [])
      by_input ago false all = refl
      by_input ago true all =
          ap (λ keys. keys ++ (if feeds_back kind ago then Hist (f - ago) node c ∷ [] else []))
          (same_heard_needs q some tape regular a b (f - ago) n c (λ k h. all k (IsIn-append_first (heard_needs q tape b (f - ago) n c) _ k h)))
