-- What a node of a quantum was at each quantum since its birth.
use Rattle.std.proofs.Common.{ℕ, ◌≡◌, ◌/◌, ◌<◌, ◌≤◌, length, List, true, refl, sym, ◌∙◌, ap, subst, arith}
use Rattle.node_table.specs.Kinds.{inputs, outputs, is_delay_kind, lasting}
use Rattle.node_table.specs.declared.kinds.Kind.{Kind}
use Rattle.node_table.specs.declared.kinds.Kind.TheVariants.{Delay, Shaper, Causal}
use Rattle.conn_graph.specs.Ends.{writer_of, reader_of}
use Rattle.conn_graph.proofs.EndLaws.{has_end, has_writer}
use Rattle.meaning.specs.declared.world.World.{World}
use Rattle.meaning.specs.World.{node_at, kind_of}
use Rattle.meaning.specs.Worlds.{IsRegular}
use Rattle.meaning.specs.Counts.{world_in}
use Rattle.meaning.specs.Values.{world_at}
use Rattle.meaning.proofs.Joined.{joined_in}
use Rattle.meaning.proofs.Successors.{delay_lasts, div-le-div}
use Rattle.explain.specs.Facts.{has_history, HasOutput, HasInput}
use Rattle.explain.proofs.Lives.{lives}
use Rattle.explain.proofs.Hearing.{one_end}

history_stays : (k : Kind) → has_history (lasting k) ≡ has_history k
history_stays (Shaper curve was_set) = refl
history_stays other = refl

history_lasts : (k k' : Kind) → lasting k' ≡ lasting k → has_history k' ≡ true → has_history k ≡ true
history_lasts k k' same is = sym (history_stays k) ∙ ap has_history (sym same) ∙ history_stays k' ∙ is

-- a delay has one output, and a node with a history one output and one input
delay_output : (k : Kind) → is_delay_kind k ≡ true → 0 < outputs k
delay_output (Delay longest time capacity) is = omega arith
delay_output other is = absurd cc

history_output : (k : Kind) → has_history k ≡ true → 0 < outputs k
history_output (Shaper curve was_set) is = omega arith
history_output (Causal equation) is = omega arith
history_output other is = absurd cc

history_input : (k : Kind) → has_history k ≡ true → 0 < inputs k
history_input (Shaper curve was_set) is = omega arith
history_input (Causal equation) is = omega arith
history_input other is = absurd cc

module _ (q : ℕ) (some : 0 < q) (tape : List World) (regular : IsRegular q tape) where
  -- the writer of a delay was there
  pub writer_there : (j n : ℕ) → j < length tape → n < length (world_in tape j).nodes → is_delay_kind (kind_of (world_in tape j) n) ≡ true
      → (k : ℕ) → k ≤ j → (node_at (world_in tape j) n).attrs.birth / q ≤ k → HasOutput (world_in tape k) (writer_of n) 0
  writer_there j n short there delay k low born =
      let one = (lives q some tape regular n j short there).since k low born in
      let was : is_delay_kind (kind_of (world_in tape k) n) ≡ true = sym (delay_lasts (kind_of (world_in tape j) n) (kind_of (world_in tape k) n) one.kind) ∙ delay in
      record {
        end = has_writer (world_in tape k).graph.value n ((joined_in tape regular.valid k).delays n ∙ was);
        output = delay_output (kind_of (world_in tape k) n) was;
      }

  -- what holds of a node with a history at frame g
  pub record HasHistory (g n : ℕ) : Type 0 where
    pub node : n < length (world_at q tape g).nodes
    pub history : has_history (kind_of (world_at q tape g) n) ≡ true

  -- it has had one since its birth
  pub history_since : (f n : ℕ) → f / q < length tape → HasHistory f n → (g : ℕ) → g ≤ f → (node_at (world_at q tape f) n).attrs.birth ≤ g → HasHistory g n
  history_since f n short has g low born =
      let one = (lives q some tape regular n (f / q) short has.node).since (g / q) (div-le-div g f q some low) (div-le-div _ g q some born) in
      record { node = one.there; history = history_lasts (kind_of (world_at q tape g) n) (kind_of (world_at q tape f) n) one.kind has.history }

  pub born_by : (f n : ℕ) → f / q < length tape → n < length (world_at q tape f).nodes → (node_at (world_at q tape f) n).attrs.birth ≤ f
  born_by f n short there = let born = (lives q some tape regular n (f / q) short there).born in omega (arith, born)

  -- its count and its input are there
  module _ (g n : ℕ) (short : g / q < length tape) (ends_are : length (world_at q tape g).graph.value.nodes ≡ length (world_at q tape g).nodes) (has : HasHistory g n) where
    pub history_count : HasOutput (world_at q tape g) (reader_of n) 0
    history_count = record { end = has_end (world_at q tape g).graph.value n (subst (λ k. n < k) (sym ends_are) has.node); output = history_output (kind_of (world_at q tape g) n) has.history }

    pub history_inlet : HasInput (world_at q tape g) (reader_of n) 0
    history_inlet = record { node = has.node; end = sym (one_end q some tape regular g n has.history); input = history_input (kind_of (world_at q tape g) n) has.history }
