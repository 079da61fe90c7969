-- What the history of a node reads, and what comes of it.
use Rattle.std.proofs.Common.{ℕ, suc, ℤ, pos, ◌≡◌, ◌+◌, ◌-◌, ◌/◌, ◌<◌, ◌≤◌, ◌-ℤ◌, length, drop, List, [], ◌∷◌, Bool, true, Option, Some, inl, refl, sym, ◌∙◌, ap, ap₂, subst, arith}
use Rattle.std.specs.Prelude.{if◌then◌else◌, nat_lt, nat_le, ◌==◌, min, unwrap_or}
use Rattle.std.specs.List.{range_with_len}
use Rattle.std.proofs.lemmas.Bool.Decides.{nat_tests}
use Rattle.wa_base.specs.Numbers.{rnd, sat}
use Rattle.law_base.specs.Members.{IsIn}
use Rattle.law_base.proofs.Members.{IsIn-append_first, IsIn-append_second}
use Rattle.node_table.specs.Curves.{shaper_value}
use Rattle.node_table.specs.Convolutions.{convolution}
use Rattle.node_table.specs.Equations.{equation_value}
use Rattle.node_table.specs.Filters.{dot, quotient, filtered, filter_value, next_output}
use Rattle.node_table.specs.Frames.{item}
use Rattle.node_table.specs.Machine.{Frame as MachineFrame, frame_of as run_of, cells_after, cells_at_birth, played}
use Rattle.node_table.specs.declared.code.Instr.{Instr}
use Rattle.node_table.specs.declared.equation.Equation.{Equation}
use Rattle.node_table.specs.declared.equation.Equation.TheVariants.{Filter, Convolution, Processor}
use Rattle.node_table.specs.declared.kinds.Kind.{Kind}
use Rattle.node_table.specs.declared.kinds.Kind.TheVariants.{Shaper, Causal}
use Rattle.meaning.specs.declared.world.World.{World}
use Rattle.meaning.specs.Lists.{since}
use Rattle.meaning.specs.World.{kind_of}
use Rattle.meaning.specs.Values.{world_at}
use Rattle.meaning.proofs.Seeing.{same_since}
use Rattle.meaning.proofs.Successors.{div-le-div}
use Rattle.explain.specs.declared.facts.Key.{Key}
use Rattle.explain.specs.declared.facts.Key.TheVariants.{Hist}
use Rattle.explain.specs.Accounts.{Account, result_of, cells_of, heard_in, cells_in}
use Rattle.explain.specs.Needs.{hears, feeds_back, heard_needs, needs_ago}
use Rattle.explain.proofs.Members.{IsIn-flat_map, IsIn-range}
use Rattle.explain.proofs.Lives.{IsOne, Lives, lives, causal_lasts}
use Rattle.explain.proofs.Recalling.{outputs_since}
use Rattle.explain.proofs.Hearing.{taken, birth_at, heard_is, shaper_newest}
use Rattle.derivations.specs.declared.places.Context.{Context}
use Rattle.derivations.specs.Contexts.{tape_in, world_of, StandsIn}
use Rattle.derivations.proofs.Staying.{HasHistory, history_since}
use Rattle.equations.specs.declared.histories.Heard.{Heard}
use Rattle.equations.specs.Given.{IsGiven, meaning_of, AllKnown}
use Rattle.equations.specs.Histories.{taken_at, result_at, all_heard, back_from, heard_ago, HasPast, IsHeard, IsRecalled}
use Rattle.equations.proofs.Backs.{dot_back}

pub below : (i k : ℕ) → i < k → nat_lt i k ≡ true
below i k l = grind (arith, nat_tests)

pub at_least : (i k : ℕ) → i ≤ k → nat_le i k ≡ true
at_least i k l = grind (arith, nat_tests)

equal : (i k : ℕ) → i ≡ k → (i == k) ≡ true
equal i k e = grind (arith, nat_tests)

module _ (x : Context) (given : IsGiven x) (heard : Heard) (age : ℕ) (recalled : IsRecalled x heard age) where
  abbrev q : ℕ
  q = x.quantum

  abbrev tape : List World
  tape = tape_in x

  abbrev a : Account
  a = meaning_of x

  abbrev f : ℕ
  f = heard.frame

  abbrev n : ℕ
  n = heard.node.0

  abbrev c : ℕ
  c = heard.channel

  abbrev birth : ℕ
  birth = birth_at q tape f n

  abbrev kind : Kind
  kind = kind_of (world_at q tape f) n

  abbrev u : ℕ → ℤ
  u = taken q tape a n c

  born : f ≡ birth + age
  born = recalled.born

  -- ---- what is known of the frames before

  past_of : (ago : ℕ) → ago ≤ age → HasPast x (heard_ago heard ago)
  past_of ago low =
      let at = born in
      let early : f - ago ≤ f = omega arith in
      let old : birth ≤ f - ago = omega (arith, at, low) in
      let has : HasHistory q given.ready.some tape given.ready.regular f n = record { node = recalled.past.node; history = recalled.past.history } in
      let was = history_since q given.ready.some tape given.ready.regular f n recalled.past.there has (f - ago) early old in
      record {
        there = let short = recalled.past.there in let mono = div-le-div (f - ago) f q given.ready.some early in omega (arith, short, mono);
        node = was.node;
        history = was.history;
      }

  -- what is needed of a frame
  ago_known : (ago : ℕ) → ago ≤ age → AllKnown x (needs_ago q tape a f n c kind ago)
  ago_known ago low k h =
      let at = born in
      recalled.known k (IsIn-flat_map (needs_ago q tape a f n c kind) (range_with_len 0 (f + 1 - birth)) ago k (IsIn-range 0 (f + 1 - birth) ago (omega arith) (omega (arith, at))) h)

  pub heard_at : (ago : ℕ) → ago ≤ age → hears kind ago ≡ true → IsHeard x (heard_ago heard ago)
  heard_at ago low is = record {
    past = past_of ago low;
    known = λ k h. ago_known ago low k (IsIn-append_first _ _ k (subst (λ t. IsIn k (if t then heard_needs q tape a (f - ago) n c else [])) (sym is) h));
  }

  pub result_known : (ago : ℕ) → ago ≤ age → feeds_back kind ago ≡ true → StandsIn x (Hist (f - ago) heard.node c)
  result_known ago low is =
      let k : Key = Hist (f - ago) heard.node c in
      ago_known ago low k (IsIn-append_second (if hears kind ago then heard_needs q tape a (f - ago) n c else []) _ k (subst (λ t. IsIn k (if t then k ∷ [] else [])) (sym is) (inl refl)))

  -- ---- what the meaning has

  all_is : all_heard x heard ≡ since u birth (suc age)
  all_is = let at = born in heard_is q tape a f n c ∙ ap (since u birth) (let long : f + 1 - birth ≡ suc age = omega (arith, at) in long)

  life : Lives q given.ready.some tape given.ready.regular n (f / q)
  life = lives q given.ready.some tape given.ready.regular n (f / q) recalled.past.there recalled.past.node

  one : (g : ℕ) → birth ≤ g → g ≤ f → IsOne n (world_at q tape g) (world_at q tape f)
  one g low high = life.since (g / q) (div-le-div g f q given.ready.some high) (div-le-div birth g q given.ready.some low)

  equation_then : (g : ℕ) (e : Equation) → kind ≡ Causal e → birth ≤ g → g ≤ f → kind_of (world_at q tape g) n ≡ Causal e
  equation_then g e is low high = causal_lasts (kind_of (world_at q tape g) n) kind e (one g low high).kind is

  heard_then : (g : ℕ) → birth ≤ g → g ≤ f → heard_in q tape a g n c ≡ since u birth (g + 1 - birth)
  heard_then g low high = heard_is q tape a g n c ∙ ap (λ first. since u first (g + 1 - first)) (sym (one g low high).birth)

  value_then : (g : ℕ) (e : Equation) → kind ≡ Causal e → birth ≤ g → g ≤ f → result_at x heard g ≡ equation_value e (since u birth (g + 1 - birth))
  value_then g e is low high = ap₂ (λ k xs. result_of k xs) (equation_then g e is low high) (heard_then g low high)

  cells_then : (g : ℕ) (e : Equation) → kind ≡ Causal e → birth ≤ g → g ≤ f → cells_in q tape a (Hist g heard.node c) ≡ cells_of (Causal e) (since u birth (g + 1 - birth))
  cells_then g e is low high = ap₂ (λ k xs. cells_of k xs) (equation_then g e is low high) (heard_then g low high)

  -- ---- a filter

  inputs_read : (cs : List ℤ) (count : ℕ) → count ≡ min (age + 1) (length cs) → dot cs (since u birth (suc age)) ≡ dot cs (back_from (taken_at x heard) f 0 count)
  inputs_read cs count is = let at = born in dot_back cs u birth (suc age) f 0 count (λ some. omega (arith, at)) (omega (arith, is)) (omega (arith, is))

  outputs_read : (cs : List ℤ) (count : ℕ) → count ≡ min age (length cs) → dot cs (since (result_at x heard) birth age) ≡ dot cs (back_from (result_at x heard) f 1 count)
  outputs_read cs count is = let at = born in dot_back cs (result_at x heard) birth age f 1 count (λ some. omega (arith, at)) (omega (arith, is)) (omega (arith, is))

  length-drop_one : (xs : List ℤ) → length (drop 1 xs) ≡ length xs - 1
  length-drop_one [] = refl
  length-drop_one (y ∷ ys) = omega arith

  pub filter_is : (forward back inputs outputs : List ℤ) (many few : ℕ) → kind ≡ Causal (Filter forward back)
      → many ≡ min (age + 1) (length forward) → few ≡ min age (length back - 1)
      → inputs ≡ back_from (taken_at x heard) f 0 many → outputs ≡ back_from (result_at x heard) f 1 few
      → next_output forward back inputs outputs ≡ result_of (Causal (Filter forward back)) (all_heard x heard)
  filter_is forward back inputs outputs many few is in_many in_few ins outs =
      ap₂ (λ y z. quotient (y -ℤ z) (item back 0))
      (ap (dot forward) ins ∙ sym (inputs_read forward many in_many))
      (ap (dot (drop 1 back)) outs
      ∙ sym (outputs_read (drop 1 back) few (let e = length-drop_one back in omega (arith, e, in_few)))
      ∙ sym (ap (dot (drop 1 back)) earlier))
      ∙ sym (ap (filter_value forward back) all_is)
    where
      earlier : filtered forward back (since u birth age) ≡ since (result_at x heard) birth age
      earlier =
          let at = born in
          outputs_since forward back u birth age
          ∙ same_since _ _ birth age (λ g low high. sym (value_then g (Filter forward back) is low (omega (arith, at))))

  -- ---- a convolver

  pub convolver_is : (response inputs : List ℤ) (many : ℕ) → many ≡ min (age + 1) (length response) → inputs ≡ back_from (taken_at x heard) f 0 many
      → convolution response inputs ≡ result_of (Causal (Convolution response)) (all_heard x heard)
  convolver_is response inputs many in_many ins =
      ap (λ v. sat (rnd v (pos 16777216))) (ap (dot response) ins ∙ sym (inputs_read response many in_many) ∙ sym (ap (dot response) all_is))

  -- ---- a processor

  -- the cells before this frame: those at birth, or those that were left at the frame before
  pub first_cells : (code : List Instr) → age ≡ 0 → cells_after code (since u birth age) ≡ cells_at_birth
  first_cells code none = ap (λ m. cells_after code (since u birth m)) none

  pub cells_before : (code : List Instr) (cells : List ℤ) → kind ≡ Causal (Processor code) → 1 ≤ age → cells_in q tape a (Hist (f - 1) heard.node c) ≡ Some cells → cells ≡ cells_after code (since u birth age)
  cells_before code cells is old found =
      let at = born in
      let long : f - 1 + 1 - birth ≡ age = omega (arith, at) in
      let both : Some cells ≡ Some (cells_after code (since u birth age)) =
      sym found ∙ cells_then (f - 1) (Processor code) is (omega (arith, at)) (omega arith) ∙ ap (λ m. Some (cells_after code (since u birth m))) long in
      ap (λ (o : Option (List ℤ)). unwrap_or o []) both

  pub was_processor : (code : List Instr) → kind ≡ Causal (Processor code) → 1 ≤ age → kind_of (world_of x (f - 1)) n ≡ Causal (Processor code)
  was_processor code is old = let at = born in equation_then (f - 1) (Processor code) is (omega (arith, at)) (omega arith)

  pub past_before : 1 ≤ age → HasPast x (heard_ago heard 1)
  past_before old = past_of 1 old

  here : birth + age ≡ f
  here = sym born

  ran : (code : List Instr) (cells left : List ℤ) (input output : ℤ) → cells ≡ cells_after code (since u birth age) → input ≡ taken_at x heard f
      → run_of code cells input ≡ Some (record { output = output; cells = left })
      → played code (cells_after code (since u birth age)) (u (birth + age)) ≡ record { output = output; cells = left }
  ran code cells left input output before took ran_is =
      ap₂ (λ m v. played code m v) (sym before) (ap u here ∙ sym took)
      ∙ ap (λ (o : Option MachineFrame). unwrap_or o (record { output = pos 0; cells = cells })) ran_is

  pub processor_is : (code : List Instr) (cells left : List ℤ) (input output : ℤ) → cells ≡ cells_after code (since u birth age) → input ≡ taken_at x heard f
      → run_of code cells input ≡ Some (record { output = output; cells = left })
      → output ≡ result_of (Causal (Processor code)) (all_heard x heard)
  processor_is code cells left input output before took ran_is =
      sym (ap (result_of (Causal (Processor code))) all_is ∙ ap (λ (y : MachineFrame). y.output) (ran code cells left input output before took ran_is))

  pub processor_leaves : (code : List Instr) (cells left : List ℤ) (input output : ℤ) → cells ≡ cells_after code (since u birth age) → input ≡ taken_at x heard f
      → run_of code cells input ≡ Some (record { output = output; cells = left })
      → Some left ≡ cells_of (Causal (Processor code)) (all_heard x heard)
  processor_leaves code cells left input output before took ran_is =
      sym (ap (cells_of (Causal (Processor code))) all_is ∙ ap (λ (y : MachineFrame). let o : Option (List ℤ) = Some y.cells in o) (ran code cells left input output before took ran_is))

  -- ---- a shaper

  pub shaper_is : (curve : Option (List ℤ)) (was_set : Bool) → shaper_value curve (taken_at x heard f ∷ []) ≡ result_of (Shaper curve was_set) (all_heard x heard)
  shaper_is curve was_set =
      sym (ap (shaper_value curve) all_is ∙ shaper_newest curve (u (birth + age)) (since u birth age) ∙ ap (λ g. shaper_value curve (u g ∷ [])) here)

  -- ---- what each kind hears now

  pub now_heard : hears kind 0 ≡ true → IsHeard x heard
  now_heard is = subst (λ g. IsHeard x (record heard { frame = g })) (let e : f - 0 ≡ f = omega arith in e) (heard_at 0 (omega arith) is)
