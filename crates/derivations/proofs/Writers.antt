-- The counts of the writer of a delay, by the world of a quantum.
use Rattle.std.proofs.Common.{ℕ, zero, suc, ◌≡◌, ◌+◌, ◌-◌, ◌/◌, ◌<◌, ◌≤◌, length, List, [], ◌∷◌, Some, Bool, true, false, sym, ◌∙◌, ap, subst, arith}
use Rattle.std.specs.Prelude.{if◌then◌else◌, slice_index_or}
use Rattle.node_table.specs.Kinds.{is_delay_kind}
use Rattle.node_table.specs.Nodes.{kind_at, attrs_at}
use Rattle.node_table.specs.declared.kinds.Kind.{Kind}
use Rattle.node_table.specs.declared.nodes.Attrs.{Attrs}
use Rattle.node_table.specs.declared.nodes.Node.{Node}
use Rattle.conn_graph.specs.Ends.{writer_of, is_delay, in_cycle}
use Rattle.meaning.specs.declared.world.World.{World}
use Rattle.meaning.specs.World.{sounding, no_node, node_at, kind_of}
use Rattle.meaning.specs.Worlds.{IsRegular}
use Rattle.meaning.specs.Counts.{world_in}
use Rattle.meaning.proofs.Joined.{joined}
use Rattle.explain.specs.declared.facts.Key.TheVariants.{Count}
use Rattle.explain.specs.declared.facts.Fact.{Fact}
use Rattle.explain.specs.Checked.{Stands}
use Rattle.derivations.specs.declared.tape.Stretch.{Stretch}
use Rattle.derivations.specs.Groups.{one, writer_count_group}
use Rattle.derivations.specs.Searches.{AreKnown, IsMissing}
use Rattle.derivations.specs.Stretches.{IsInForce}
use Rattle.derivations.proofs.Filing.{got_low}
use Rattle.derivations.proofs.Counting.{one_known, one_missing, writer_group}
use Rattle.derivations.proofs.Leading.{known_as, missing_as}
use Rattle.derivations.proofs.Staying.{writer_there}
use Rattle.derivations.proofs.Worlds.{world_is, valid_there, nodes_are}

-- a node of a world, by the table of its nodes
pub kind_is : (nodes : List Node) (n : ℕ) (kind : Kind) → kind_at nodes n ≡ Some kind → (slice_index_or nodes n no_node).kind ≡ kind
kind_is [] n kind h = absurd cc
kind_is (x ∷ xs) zero kind h = cc
kind_is (x ∷ xs) (suc n) kind h = kind_is xs n kind h

pub attrs_are : (nodes : List Node) (n : ℕ) (attrs : Attrs) → attrs_at nodes n ≡ Some attrs → (slice_index_or nodes n no_node).attrs ≡ attrs
attrs_are [] n attrs h = absurd cc
attrs_are (x ∷ xs) zero attrs h = cc
attrs_are (x ∷ xs) (suc n) attrs h = attrs_are xs n attrs h

module _ (q : ℕ) (some : 0 < q) (tape : List World) (regular : IsRegular q tape) (facts : List Fact) (j n : ℕ) (s : Stretch) (force : IsInForce tape j s) (low : n < length s.piece.world.nodes)
    (delay : is_delay_kind (kind_of s.piece.world n) ≡ true) where
  is : world_in tape j ≡ sounding s.piece.world
  is = world_is tape j s.piece.world force.there

  pub node_low : n < length s.piece.world.graph.value.nodes
  node_low = subst (λ k. n < k) (sym (nodes_are s.piece.world (valid_there tape regular.valid j s.piece.world force.there))) low

  pub delay_there : is_delay s.piece.world.graph.value n ≡ true
  delay_there = (joined s.piece.world (valid_there tape regular.valid j s.piece.world force.there)).delays n ∙ delay

  module _ (first end : ℕ) (birth : first ≡ (node_at s.piece.world n).attrs.birth / q) (until : end ≡ (if in_cycle s.piece.world.graph.value n then j else j + 1)) where
    pub until_low : end ≤ j + 1
    until_low = subst (λ k. k ≤ j + 1) (sym until) (by_cycle (in_cycle s.piece.world.graph.value n))
      where
        by_cycle : (b : Bool) → (if b then j else j + 1) ≤ j + 1
        by_cycle true = omega arith
        by_cycle false = omega arith

    pub writer_known : (g : ℕ) → g < end - first → Stands (Count (first + g) (writer_of n) 0) facts → AreKnown q tape facts (λ a. writer_count_group q tape a j n g)
    writer_known g l stands =
        known_as q tape facts (λ a. one (Count (first + g) (writer_of n) 0)) (λ a. writer_count_group q tape a j n g)
        (λ a. sym (writer_group q tape a j s.piece.world is n g first end birth until l)) (one_known q tape facts (Count (first + g) (writer_of n) 0) stands)

    pub writer_missing : (g : ℕ) → g < end - first → (Stands (Count (first + g) (writer_of n) 0) facts → ⊥)
        → IsMissing q tape facts (λ a. writer_count_group q tape a j n g) (Count (first + g) (writer_of n) 0)
    writer_missing g l absent =
        let high = until_low in
        let short = got_low tape j s.piece.world force.there in
        let before : first + g ≤ j = omega arith in
        let there : n < length (world_in tape j).nodes = subst (λ (x : World). n < length x.nodes) (sym is) low in
        let delays : is_delay_kind (kind_of (world_in tape j) n) ≡ true = ap (λ (x : World). is_delay_kind (kind_of x n)) is ∙ delay in
        let born : (node_at (world_in tape j) n).attrs.birth / q ≡ first = ap (λ (x : World). (node_at x n).attrs.birth / q) is ∙ sym birth in
        let has = writer_there q some tape regular j n short there delays (first + g) before (omega (arith, born)) in
        missing_as q tape facts (λ a. one (Count (first + g) (writer_of n) 0)) (λ a. writer_count_group q tape a j n g)
        (λ a. sym (writer_group q tape a j s.piece.world is n g first end birth until l)) (Count (first + g) (writer_of n) 0)
        (one_missing q tape facts (first + g) (writer_of n) 0 (omega arith) has absent)
