-- What an input takes in, by the connections that lead to its node.
use Rattle.std.proofs.Common.{ℕ, ℤ, pos, ◌≡◌, ◌/◌, ◌<◌, ◌≤◌, length, List, [], ◌∷◌, map, filter, Bool, true, false, inl, inr, refl, sym, ◌∙◌, ap, ap₂, subst, arith}
use Rattle.std.specs.Prelude.{if◌then◌else◌, nat_lt}
use Rattle.std.proofs.lemmas.Bool.Decides.{nat_tests}
use Rattle.wa_base.specs.Numbers.{sat}
use Rattle.wa_base.specs.declared.graph_names.Interp.{Interp}
use Rattle.law_base.specs.Members.{IsIn}
use Rattle.mix_rules.specs.Counts.{greatest, input_count}
use Rattle.mix_rules.specs.Mixing.{total}
use Rattle.conn_graph.specs.declared.edges.Edge.{Edge}
use Rattle.conn_graph.specs.declared.edges.Target.{Target}
use Rattle.conn_graph.specs.Cells.{enters}
use Rattle.conn_graph.specs.Graph.{edges_to_input}
use Rattle.conn_graph.specs.Ends.{reader_of}
use Rattle.node_table.specs.declared.nodes.Attrs.{Attrs}
use Rattle.meaning.specs.declared.world.World.{World}
use Rattle.meaning.specs.World.{node_at}
use Rattle.meaning.specs.Counts.{Counts, input_channels}
use Rattle.meaning.specs.Values.{Frame, mixed_sum, input_value}
use Rattle.explain.specs.declared.facts.Key.{Key}
use Rattle.explain.specs.declared.facts.Key.TheVariants.{Count}
use Rattle.explain.specs.Needs.{carried, connections_needs}
use Rattle.explain.proofs.Members.{IsIn-flat_map}
use Rattle.derivations.specs.declared.places.Context.{Context}
use Rattle.derivations.specs.Contexts.{tape_in, StandsIn}
use Rattle.derivations.specs.Groups.{led, one, input_of, source_keys}
use Rattle.equations.specs.declared.sums.Lane.{Lane}
use Rattle.equations.specs.Given.{meaning_of, AllKnown}
use Rattle.equations.specs.Sums.{led_part, led_count}
use Rattle.equations.proofs.Adding.{by_greatest}
use Rattle.equations.proofs.Entering.{leads, arrives, led_in, greatest_led, total_led}

-- ---- what is known

filter_shorter : {X : Type 0} (p : X → Bool) (xs : List X) → length (filter p xs) ≤ length xs
filter_shorter p [] = omega arith
filter_shorter p (x ∷ xs) = by_test (filter_shorter p xs) (p x)
  where
    by_test : length (filter p xs) ≤ length xs → (b : Bool) → length (if b then x ∷ filter p xs else filter p xs) ≤ length (x ∷ xs)
    by_test less true = omega (arith, less)
    by_test less false = omega (arith, less)

pub filter_short : {X : Type 0} (p : X → Bool) (xs : List X) (most : ℕ) → length xs ≤ most → length (filter p xs) ≤ most
filter_short p xs most short = let less = filter_shorter p xs in omega (arith, less)

-- what is needed of the connections to a target is known, whatever else leads to its node
pub led_known : (x : Context) (target : Target) (keys : Edge → List Key) (edges : List Edge) → ((e : Edge) → IsIn e (filter (leads target) edges) → AllKnown x (keys e))
    → (e : Edge) → IsIn e (filter (arrives target) edges) → AllKnown x (led target keys e)
led_known x target keys edges known e is = by_test (leads target e) refl
  where
    by_test : (b : Bool) → leads target e ≡ b → AllKnown x (if b then keys e else [])
    by_test true there = known e (led_in target edges e is there)
    by_test false none = λ k h. absurd h

-- where what they carry is known, so are their counts
pub carried_known : (x : Context) (f : ℕ) (edges : List Edge) → AllKnown x (connections_needs x.quantum (tape_in x) (meaning_of x) f edges) → (e : Edge) → IsIn e edges → AllKnown x (source_keys x.quantum (tape_in x) (meaning_of x) f e)
carried_known x f edges known e is k h = known k (IsIn-flat_map (λ y. carried x.quantum (tape_in x) (meaning_of x) f (reader_of y.from.0) y.output) edges e k is h)

pub counts_known : (x : Context) (f : ℕ) (edges : List Edge) → AllKnown x (connections_needs x.quantum (tape_in x) (meaning_of x) f edges) → (e : Edge) → IsIn e edges → StandsIn x (Count (f / x.quantum) (reader_of e.from.0) e.output)
counts_known x f edges known e is = carried_known x f edges known e is (Count (f / x.quantum) (reader_of e.from.0) e.output) (inl refl)

pub one_known : (x : Context) (key : Key) → StandsIn x key → AllKnown x (one key)
one_known x key stands k (inl same) = subst (StandsIn x) (sym same) stands
one_known x key stands k (inr h) = absurd h

-- ---- how many channels come in

pub channels_are : (w : World) (counts : Counts) (n i most : ℕ) (attrs : Attrs) → (node_at w n).attrs ≡ attrs
    → most ≡ greatest (map (led_count (input_of n i) counts) (filter (enters n) w.graph.value.edges))
    → input_count attrs.mode attrs.count (most ∷ []) ≡ input_channels w counts n i
channels_are w counts n i most attrs own is =
    ap (λ (a : Attrs). input_count a.mode a.count (most ∷ [])) (sym own)
    ∙ ap (λ k. input_count (node_at w n).attrs.mode (node_at w n).attrs.count (k ∷ [])) (is ∙ greatest_led (input_of n i) counts w.graph.value.edges)
    ∙ by_greatest (node_at w n).attrs.mode (node_at w n).attrs.count _

-- ---- what it takes in

module _ (y : Frame) (n i c channels : ℕ) (many : channels ≡ input_channels y.world y.counts n i) where
  abbrev lane : Interp → ℕ → Lane
  lane interp to = record { interp = interp; channels = to; channel = c }

  -- what the equation says, by whether there is such a channel
  abbrev of_sum : Bool → ℤ
  of_sum b = if b then mixed_sum y (node_at y.world n).attrs.interp (input_channels y.world y.counts n i) c (edges_to_input y.world.graph.value n i) else pos 0

  input_is : input_value y n i c ≡ of_sum (nat_lt c (input_channels y.world y.counts n i))
  unfolding input_value
  input_is = refl

  pub absent_input : channels ≤ c → pos 0 ≡ input_value y n i c
  absent_input past = sym (input_is ∙ ap of_sum (let none : nat_lt c (input_channels y.world y.counts n i) ≡ false = grind (arith, nat_tests) in none))

  pub present_input : (sum : ℤ) (attrs : Attrs) → c < channels → (node_at y.world n).attrs ≡ attrs
      → sum ≡ total (map (led_part (input_of n i) y (lane attrs.interp channels)) (filter (enters n) y.world.graph.value.edges))
      → sat sum ≡ input_value y n i c
  present_input sum attrs low own is =
      ap sat
      (is
      ∙ ap₂ (λ (a : Attrs) to. total (map (led_part (input_of n i) y (lane a.interp to)) (filter (enters n) y.world.graph.value.edges))) (sym own) many
      ∙ total_led (input_of n i) y (lane (node_at y.world n).attrs.interp (input_channels y.world y.counts n i)) y.world.graph.value.edges)
      ∙ sym (input_is ∙ ap of_sum (let there : nat_lt c (input_channels y.world y.counts n i) ≡ true = grind (arith, nat_tests) in there))
