-- How many channels an end has, by the rule.
use Rattle.std.proofs.Common.{ℕ, ◌≡◌, ◌+◌, ◌-◌, ◌/◌, ◌<◌, ◌≤◌, List, [], Bool, true, false, refl, sym, ◌∙◌, ap, subst, arith}
use Rattle.std.specs.Prelude.{if◌then◌else◌, ◌&&◌, not}
use Rattle.std.specs.List.{range_with_len}
use Rattle.wa_base.specs.declared.graph_names.End.{End}
use Rattle.law_base.specs.Members.{IsIn}
use Rattle.mix_rules.specs.Counts.{greatest}
use Rattle.node_table.specs.Kinds.{row, is_delay_kind}
use Rattle.node_table.specs.declared.rows.Channels.{Channels}
use Rattle.conn_graph.specs.declared.edges.Edge.{Edge}
use Rattle.conn_graph.specs.Graph.{edges_to_input}
use Rattle.conn_graph.specs.Ends.{writer_of, reader_of, in_cycle, muted}
use Rattle.meaning.specs.declared.world.World.{World}
use Rattle.meaning.specs.Lists.{since}
use Rattle.meaning.specs.World.{node_at, kind_of}
use Rattle.meaning.specs.Counts.{Counts, world_in, reader_channels, output_channels, count_by_kind, count_rule}
use Rattle.meaning.proofs.Seeing.{same_since}
use Rattle.explain.specs.declared.facts.Key.{Key}
use Rattle.explain.specs.declared.facts.Key.TheVariants.{Count}
use Rattle.explain.specs.Accounts.{counts_in}
use Rattle.explain.specs.Needs.{input_counts, writer_counts, counts_by_row, counts_by_kind, count_needs}
use Rattle.explain.proofs.Members.{IsIn-map, IsIn-range}
use Rattle.explain.proofs.Agreeing.{counts_are}
use Rattle.derivations.specs.declared.places.Context.{Context}
use Rattle.derivations.specs.Contexts.{tape_in, StandsIn}
use Rattle.equations.specs.Given.{meaning_of, AllKnown}

module _ (x : Context) (j : ℕ) where
  abbrev pub w : World
  w = world_in (tape_in x) j

  abbrev pub now : Counts
  now = (meaning_of x).counts j

  abbrev pub past : ℕ → Counts
  past = counts_in x.quantum (tape_in x) (meaning_of x) j

  -- ---- the reader of a delay

  module _ (n : ℕ) where
    abbrev pub birth : ℕ
    birth = (node_at w n).attrs.birth / x.quantum

    abbrev pub end : ℕ
    end = if in_cycle w.graph.value n then j else j + 1

    end_low : end ≤ j + 1
    end_low = by_cycle (in_cycle w.graph.value n)
      where
        by_cycle : (t : Bool) → (if t then j else j + 1) ≤ j + 1
        by_cycle true = omega arith
        by_cycle false = omega arith

    pub writer_known : AllKnown x (writer_counts x.quantum (tape_in x) (meaning_of x) j n) → (k : ℕ) → birth ≤ k → k < end → StandsIn x (Count k (writer_of n) 0)
    writer_known known k low high =
        known (Count k (writer_of n) 0) (IsIn-map (λ i. Count i (writer_of n) 0) (range_with_len birth (end - birth)) k (IsIn-range birth (end - birth) k low (omega arith)))

    pub reader_is : greatest (since (λ k. (meaning_of x).counts k (writer_of n)) birth (end - birth)) ≡ reader_channels x.quantum w j past now n
    reader_is =
        let last : end ≤ j + 1 = end_low in
        ap greatest (same_since _ _ birth (end - birth) (λ k low high. sym (counts_are (meaning_of x) x.quantum (tape_in x) j k (writer_of n) (omega (arith, last)))))

  -- ---- an end

  module _ (e : End) where
    abbrev pub n : ℕ
    n = e.node.0

    abbrev rule_by : Bool → ℕ
    rule_by t = if t then 1 else count_by_kind x.quantum w j past now (kind_of w n) e

    rule_is : count_rule x.quantum w j past now e ≡ rule_by (muted w.graph.value e)
    unfolding count_rule
    rule_is = refl

    abbrev end_by : Bool → Channels → ℕ
    end_by t c = if t then reader_channels x.quantum w j past now n else output_channels x.quantum w j now c n

    abbrev needs_by : Bool → List Key
    needs_by t = if t then [] else counts_by_kind x.quantum (tape_in x) (meaning_of x) j e (kind_of w n)

    abbrev end_needs : Bool → Channels → List Key
    end_needs t c = if t then writer_counts x.quantum (tape_in x) (meaning_of x) j n else counts_by_row x.quantum (tape_in x) (meaning_of x) j n c

    pub muted_is : muted w.graph.value e ≡ true → 1 ≡ count_rule x.quantum w j past now e
    muted_is quiet = sym (rule_is ∙ ap rule_by quiet)

    module _ (loud : muted w.graph.value e ≡ false) (t : Bool) (delay : (is_delay_kind (kind_of w n) && not e.writer) ≡ t) (c : Channels) (channels : (row (kind_of w n)).channels ≡ c) where
      pub end_is : end_by t c ≡ count_rule x.quantum w j past now e
      end_is = sym (rule_is ∙ ap rule_by loud ∙ ap (λ b. end_by b (row (kind_of w n)).channels) delay ∙ ap (end_by t) channels)

      pub end_known : AllKnown x (count_needs x.quantum (tape_in x) (meaning_of x) j e) → AllKnown x (end_needs t c)
      end_known known k h =
          known k (subst (λ b. IsIn k (needs_by b)) (sym loud) (subst (λ b. IsIn k (end_needs b (row (kind_of w n)).channels)) (sym delay) (subst (λ y. IsIn k (end_needs t y)) (sym channels) h)))

    -- what is connected is known where its counts are
    pub connected_known : AllKnown x (input_counts x.quantum (tape_in x) (meaning_of x) j n) → (y : Edge) → IsIn y (edges_to_input w.graph.value n 0) → StandsIn x (Count j (reader_of y.from.0) y.output)
    connected_known known y is = known (Count j (reader_of y.from.0) y.output) (IsIn-map (λ (z : Edge). Count j (reader_of z.from.0) z.output) (edges_to_input w.graph.value n 0) y is)
