-- What a node with a history took in at a frame.
use Rattle.std.proofs.Common.{ℕ, ℤ, pos, ◌≡◌, ◌/◌, ◌<◌, ◌≤◌, length, List, [], ◌∷◌, Bool, true, false, inl, inr, refl, sym, ◌∙◌, ap, subst, arith}
use Rattle.std.specs.Prelude.{if◌then◌else◌, nat_lt, unsigned_abs, ◌||◌, not}
use Rattle.std.proofs.lemmas.Bool.Decides.{nat_tests}
use Rattle.std.proofs.lemmas.List.{length-map}
use Rattle.law_base.specs.Members.{IsIn}
use Rattle.node_table.specs.declared.kinds.Kind.{Kind}
use Rattle.node_table.specs.declared.kinds.Kind.TheVariants.{Shaper, Causal}
use Rattle.conn_graph.specs.Ends.{reader_of, ends, muted}
use Rattle.conn_graph.proofs.EndLaws.{has_end}
use Rattle.meaning.specs.declared.world.World.{World}
use Rattle.meaning.specs.World.{no_world, kind_of}
use Rattle.meaning.specs.Validity.{ports_of}
use Rattle.meaning.specs.Counts.{Counts, input_channels, count_by_kind, count_rule}
use Rattle.meaning.specs.Values.{input_value}
use Rattle.explain.specs.declared.facts.Key.{Key}
use Rattle.explain.specs.declared.facts.Key.TheVariants.{Count, Inlet}
use Rattle.explain.specs.declared.facts.Fact.{Fact}
use Rattle.explain.specs.Accounts.{counts_in}
use Rattle.explain.specs.Facts.{has_history}
use Rattle.explain.proofs.Hearing.{one_end}
use Rattle.explain.proofs.Soundness.{meaning_solves}
use Rattle.derivations.specs.declared.places.Context.{Context}
use Rattle.derivations.specs.declared.tape.Stretch.{Stretch}
use Rattle.derivations.specs.Contexts.{tape_in, world_of, StandsIn}
use Rattle.derivations.specs.Stretches.{IsInForce}
use Rattle.equations.specs.declared.histories.Heard.{Heard}
use Rattle.equations.specs.Given.{IsGiven, meaning_of, frame_of}
use Rattle.equations.specs.Histories.{taken_at, IsHeard}
use Rattle.equations.proofs.InForce.{is}
use Rattle.equations.proofs.Saying.{key_of}

below : (i k : ℕ) → i < k → nat_lt i k ≡ true
below i k l = grind (arith, nat_tests)

past_end : (i k : ℕ) → k ≤ i → nat_lt i k ≡ false
past_end i k l = grind (arith, nat_tests)

-- it has as many channels as come in
own_channels : (q : ℕ) (w : World) (j : ℕ) (past : ℕ → Counts) (now : Counts) (n : ℕ) (k : Kind) → has_history k ≡ true → count_by_kind q w j past now k (reader_of n) ≡ input_channels w now n 0
own_channels q w j past now n (Shaper curve was_set) is = refl
own_channels q w j past now n (Causal equation) is = refl
own_channels q w j past now n other is = absurd cc

module _ (x : Context) (given : IsGiven x) (heard : Heard) (is_heard : IsHeard x heard) where
  abbrev f : ℕ
  f = heard.frame

  abbrev n : ℕ
  n = heard.node.0

  abbrev c : ℕ
  c = heard.channel

  abbrev w : World
  w = world_of x f

  abbrev count : ℕ
  count = (meaning_of x).counts (f / x.quantum) (reader_of n)

  end_in : IsIn (reader_of n) (ends w.graph.value)
  end_in =
      let same : length w.graph.value.nodes ≡ length w.nodes = ap length (given.ready.regular.valid (f / x.quantum) no_world is_heard.past.there).ports ∙ length-map w.nodes ports_of in
      has_end w.graph.value n (subst (λ k. n < k) (sym same) is_heard.past.node)

  pub end_there : (s : Stretch) → IsInForce (tape_in x) (f / x.quantum) s → IsIn (reader_of n) (ends s.piece.world.graph.value)
  end_there s force = subst (λ (y : World). IsIn (reader_of n) (ends y.graph.value)) (is x given (f / x.quantum) s force) end_in

  pub muted_now : (s : Stretch) → IsInForce (tape_in x) (f / x.quantum) s → (t b : Bool) → t ≡ muted s.piece.world.graph.value (reader_of n) → t ≡ b → muted w.graph.value (reader_of n) ≡ b
  muted_now s force t b told same = ap (λ (y : World). muted y.graph.value (reader_of n)) (is x given (f / x.quantum) s force) ∙ sym told ∙ same

  abbrev needs_by : Bool → Bool → List Key
  needs_by a b = Count (f / x.quantum) (reader_of n) 0 ∷ (if a || not b then [] else Inlet f (reader_of n) 0 c ∷ [])

  pub count_known : StandsIn x (Count (f / x.quantum) (reader_of n) 0)
  count_known = is_heard.known (Count (f / x.quantum) (reader_of n) 0) (inl refl)

  pub inlet_known : muted w.graph.value (reader_of n) ≡ false → c < count → StandsIn x (Inlet f (reader_of n) 0 c)
  inlet_known loud low =
      let k : Key = Inlet f (reader_of n) 0 c in
      let own : nat_lt c count ≡ true = below c count low in
      is_heard.known k (subst (λ a. IsIn k (needs_by a (nat_lt c count))) (sym loud) (subst (λ b. IsIn k (needs_by false b)) (sym own) (inr (inl refl))))

  -- ---- what it takes in

  at_reader : taken_at x heard f ≡ (if muted w.graph.value (reader_of n) then pos 0 else input_value (frame_of x f) n 0 c)
  at_reader = ap (λ e. if muted w.graph.value e then pos 0 else input_value (frame_of x f) n 0 c) (one_end x.quantum given.ready.some (tape_in x) given.ready.regular f n is_heard.past.history)

  abbrev taken_by : Bool → ℤ
  taken_by t = if t then pos 0 else input_value (frame_of x f) n 0 c

  pub muted_taken : muted w.graph.value (reader_of n) ≡ true → pos 0 ≡ taken_at x heard f
  muted_taken quiet = sym (at_reader ∙ ap taken_by quiet)

  pub loud_taken : muted w.graph.value (reader_of n) ≡ false → input_value (frame_of x f) n 0 c ≡ taken_at x heard f
  loud_taken loud = sym (at_reader ∙ ap taken_by loud)

  channels_in : muted w.graph.value (reader_of n) ≡ false → input_channels w ((meaning_of x).counts (f / x.quantum)) n 0 ≡ count
  unfolding count_rule
  channels_in loud =
      let past : ℕ → Counts = counts_in x.quantum (tape_in x) (meaning_of x) (f / x.quantum) in
      let now : Counts = (meaning_of x).counts (f / x.quantum) in
      let key : Key = Count (f / x.quantum) (reader_of n) 0 in
      sym (own_channels x.quantum w (f / x.quantum) past now n (kind_of w n) is_heard.past.history)
      ∙ sym (ap (λ t. if t then 1 else count_by_kind x.quantum w (f / x.quantum) past now (kind_of w n) (reader_of n)) loud)
      ∙ ap (λ (y : Fact). unsigned_abs y.value) (meaning_solves x.quantum given.ready.some (tape_in x) given.ready.regular key (key_of x given key count_known))

  absent_in : nat_lt c (input_channels w ((meaning_of x).counts (f / x.quantum)) n 0) ≡ false → input_value (frame_of x f) n 0 c ≡ pos 0
  unfolding input_value
  absent_in none = rw none refl

  pub absent_taken : muted w.graph.value (reader_of n) ≡ false → count ≤ c → pos 0 ≡ taken_at x heard f
  absent_taken loud past =
      let none : nat_lt c count ≡ false = past_end c count past in
      sym (absent_in (ap (nat_lt c) (channels_in loud) ∙ none)) ∙ loud_taken loud
