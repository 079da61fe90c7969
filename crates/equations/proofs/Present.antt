-- What an output carries on a channel that it has.
use Rattle.std.proofs.Common.{ℕ, suc, ℤ, pos, length, ◌≡◌, ◌+◌, ◌-◌, ◌/◌, ◌<◌, ◌≤◌, List, [], ◌∷◌, Bool, true, false, inl, inr, refl, sym, ◌∙◌, ap, subst, arith}
use Rattle.std.specs.Prelude.{if◌then◌else◌, nat_lt, ◌&&◌}
use Rattle.std.proofs.lemmas.Bool.Decides.{nat_tests}
use Rattle.std.proofs.lemmas.List.{length-map}
use Rattle.wa_base.specs.declared.graph_names.End.{End}
use Rattle.law_base.specs.Members.{IsIn}
use Rattle.node_table.specs.Curves.{shaper_value}
use Rattle.node_table.specs.Kinds.{outputs, is_delay_kind}
use Rattle.node_table.specs.declared.kinds.Kind.{Kind}
use Rattle.node_table.specs.declared.kinds.Kind.TheVariants.{Shaper, Causal}
use Rattle.conn_graph.specs.Ends.{ends, muted}
use Rattle.conn_graph.proofs.EndLaws.{end_is}
use Rattle.meaning.specs.declared.world.World.{World}
use Rattle.meaning.specs.Lists.{since}
use Rattle.meaning.specs.World.{no_world, kind_of}
use Rattle.meaning.specs.Validity.{ports_of}
use Rattle.meaning.specs.Values.{input_value, value_by_kind, equation, has_channel}
use Rattle.meaning.proofs.Joined.{joined_in}
use Rattle.meaning.proofs.Seeing.{plain_end}
use Rattle.explain.specs.declared.facts.Key.{Key}
use Rattle.explain.specs.declared.facts.Key.TheVariants.{Count, Hist}
use Rattle.explain.specs.Accounts.{result_of, value_in, heard_in}
use Rattle.explain.specs.Facts.{has_history}
use Rattle.explain.specs.Needs.{output_by_kind, output_needs}
use Rattle.explain.proofs.Hearing.{taken, birth_at, heard_is, shaper_newest}
use Rattle.derivations.specs.declared.places.Context.{Context}
use Rattle.derivations.specs.Contexts.{tape_in, world_of, StandsIn, HasFrame}
use Rattle.derivations.proofs.Staying.{born_by}
use Rattle.equations.specs.Given.{IsGiven, meaning_of, AllKnown, frame_of, frames_before}

module _ (x : Context) (f : ℕ) (e : End) (o c : ℕ) where
  abbrev pub w : World
  w = world_of x f

  abbrev pub n : ℕ
  n = e.node.0

  abbrev carried_by : Kind → ℤ
  carried_by k = value_by_kind x.quantum f (frames_before x f) (frame_of x f) k e o c

  abbrev given_by : Bool → Bool → ℤ
  given_by a b = if a then pos 0 else if b then carried_by (kind_of w n) else pos 0

  output_is : equation x.quantum f (frames_before x f) (frame_of x f) e o c ≡ given_by (muted w.graph.value e) (has_channel w (frame_of x f).counts e o c)
  unfolding equation
  output_is = refl

  pub muted_is : muted w.graph.value e ≡ true → pos 0 ≡ equation x.quantum f (frames_before x f) (frame_of x f) e o c
  muted_is quiet = sym (output_is ∙ ap (λ a. given_by a (has_channel w (frame_of x f).counts e o c)) quiet)

  channel_by : (o < outputs (kind_of w n)) → (b : Bool) → nat_lt c ((meaning_of x).counts (f / x.quantum) e) ≡ b → has_channel w (frame_of x f).counts e o c ≡ b
  channel_by there b is = let t : nat_lt o (outputs (kind_of w n)) ≡ true = grind (arith, nat_tests) in ap (λ a. a && nat_lt c ((meaning_of x).counts (f / x.quantum) e)) t ∙ is

  pub absent_is : muted w.graph.value e ≡ false → o < outputs (kind_of w n) → (meaning_of x).counts (f / x.quantum) e ≤ c → pos 0 ≡ equation x.quantum f (frames_before x f) (frame_of x f) e o c
  absent_is loud there past =
      let none : nat_lt c ((meaning_of x).counts (f / x.quantum) e) ≡ false = grind (arith, nat_tests) in
      sym (output_is ∙ ap (λ a. given_by a (has_channel w (frame_of x f).counts e o c)) loud ∙ ap (given_by false) (channel_by there false none))

  pub present_is : muted w.graph.value e ≡ false → o < outputs (kind_of w n) → c < (meaning_of x).counts (f / x.quantum) e → carried_by (kind_of w n) ≡ equation x.quantum f (frames_before x f) (frame_of x f) e o c
  present_is loud there low =
      let own : nat_lt c ((meaning_of x).counts (f / x.quantum) e) ≡ true = grind (arith, nat_tests) in
      sym (output_is ∙ ap (λ a. given_by a (has_channel w (frame_of x f).counts e o c)) loud ∙ ap (given_by false) (channel_by there true own))

  -- ---- what is known

  abbrev needs_by : Bool → List Key
  needs_by b = if b then output_by_kind x.quantum (tape_in x) (meaning_of x) f e o c (kind_of w n) else []

  abbrev all_needs : Bool → List Key
  all_needs a = if a then [] else Count (f / x.quantum) e o ∷ needs_by (nat_lt c ((meaning_of x).counts (f / x.quantum) e))

  pub count_known : AllKnown x (output_needs x.quantum (tape_in x) (meaning_of x) f e o c) → muted w.graph.value e ≡ false → StandsIn x (Count (f / x.quantum) e o)
  count_known known loud = known (Count (f / x.quantum) e o) (subst (λ a. IsIn (Count (f / x.quantum) e o) (all_needs a)) (sym loud) (inl refl))

  pub kind_known : AllKnown x (output_needs x.quantum (tape_in x) (meaning_of x) f e o c) → muted w.graph.value e ≡ false → c < (meaning_of x).counts (f / x.quantum) e
      → AllKnown x (output_by_kind x.quantum (tape_in x) (meaning_of x) f e o c (kind_of w n))
  kind_known known loud low k h =
      let own : nat_lt c ((meaning_of x).counts (f / x.quantum) e) ≡ true = grind (arith, nat_tests) in
      known k (subst (λ a. IsIn k (all_needs a)) (sym loud) (inr (subst (λ b. IsIn k (needs_by b)) (sym own) h)))

  -- ---- what a node makes of all that it took in

  no_delay : (k : Kind) → has_history k ≡ true → is_delay_kind k ≡ false
  no_delay (Shaper curve was_set) is = refl
  no_delay (Causal equation) is = refl
  no_delay other is = absurd cc

  module _ (given : IsGiven x) (short : HasFrame x f) (is_end : IsIn e (ends w.graph.value)) (loud : muted w.graph.value e ≡ false) (history : has_history (kind_of w n) ≡ true) where
    node_there : n < length w.nodes
    node_there =
        let l = (end_is w.graph.value e is_end).0 in
        let same : length w.graph.value.nodes ≡ length w.nodes = ap length (given.ready.regular.valid (f / x.quantum) no_world short).ports ∙ length-map w.nodes ports_of in
        omega (arith, l, same)

    takes_in : taken x.quantum (tape_in x) (meaning_of x) n c f ≡ input_value (frame_of x f) n 0 c
    takes_in =
        ap (λ t. if t then pos 0 else input_value (frame_of x f) n 0 c)
        (ap (muted w.graph.value) (sym (plain_end w (joined_in (tape_in x) given.ready.regular.valid (f / x.quantum)) e is_end (no_delay (kind_of w n) history))) ∙ loud)

    pub history_is : value_in x.quantum (tape_in x) (meaning_of x) (Hist f e.node c) ≡ carried_by (kind_of w n)
    history_is = by_kind (kind_of w n) history
      where
        birth : ℕ
        birth = birth_at x.quantum (tape_in x) f n

        born : birth ≤ f
        born = born_by x.quantum given.ready.some (tape_in x) given.ready.regular f n short node_there

        by_kind : (k : Kind) → has_history k ≡ true → result_of k (heard_in x.quantum (tape_in x) (meaning_of x) f n c) ≡ carried_by k
        by_kind (Causal equation) is = refl
        by_kind (Shaper curve was_set) is =
            let at = born in
            ap (shaper_value curve)
            (heard_is x.quantum (tape_in x) (meaning_of x) f n c
            ∙ ap (since (taken x.quantum (tape_in x) (meaning_of x) n c) birth) (let long : f + 1 - birth ≡ suc (f - birth) = omega (arith, at) in long))
            ∙ shaper_newest curve _ _
            ∙ ap (λ g. shaper_value curve (taken x.quantum (tape_in x) (meaning_of x) n c g ∷ [])) (let here : birth + (f - birth) ≡ f = omega (arith, at) in here)
            ∙ ap (λ y. shaper_value curve (y ∷ [])) takes_in
        by_kind other is = absurd cc
