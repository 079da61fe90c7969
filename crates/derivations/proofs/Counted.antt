-- What the count of an end needs, by the row of its node's kind.
use Rattle.std.proofs.Common.{ℕ, ◌≡◌, ◌<◌, length, List, [], Bool, true, false, refl, sym, ◌∙◌, ap, subst}
use Rattle.std.specs.Prelude.{slice_index_or, ◌&&◌, not}
use Rattle.wa_base.specs.declared.graph_names.End.{End}
use Rattle.law_base.specs.Members.{IsIn}
use Rattle.node_table.specs.Kinds.{row, is_delay_kind}
use Rattle.node_table.specs.Rows.{is_written}
use Rattle.node_table.specs.declared.kinds.Kind.{Kind}
use Rattle.node_table.specs.declared.rows.Channels.{Channels}
use Rattle.node_table.specs.declared.rows.Channels.TheVariants.{OfInput}
use Rattle.node_table.specs.declared.rows.Row.{Row}
use Rattle.conn_graph.specs.declared.edges.Edge.{Edge}
use Rattle.conn_graph.specs.Ends.{reader_of, ends, muted}
use Rattle.conn_graph.proofs.EndLaws.{end_is}
use Rattle.meaning.specs.declared.world.World.{World}
use Rattle.meaning.specs.World.{sounding, kind_of}
use Rattle.meaning.specs.Worlds.{IsRegular}
use Rattle.meaning.specs.Counts.{world_in}
use Rattle.explain.specs.declared.facts.Key.TheVariants.{Count}
use Rattle.explain.specs.Accounts.{Account}
use Rattle.explain.specs.Facts.{HasOutput}
use Rattle.derivations.specs.declared.tape.Stretch.{Stretch}
use Rattle.derivations.specs.Groups.{one, edge_group, input_of, writer_count_group, count_group}
use Rattle.derivations.specs.Stretches.{IsInForce}
use Rattle.derivations.proofs.Counting.{delay_group, row_group}
use Rattle.derivations.proofs.Inlets.{kept_low, arriving_are, sources_are}
use Rattle.derivations.proofs.Worlds.{world_is, valid_there, nodes_are}

-- by the row of a kind: whether it is that of a delay, and its channels
pub delay_is : (kind k : Kind) (r : Row) (t b : Bool) → kind ≡ k → r ≡ row k → t ≡ is_written r.keeps → t ≡ b → is_delay_kind kind ≡ b
delay_is kind k r t b same made written is = ap is_delay_kind same ∙ ap (λ (x : Row). is_written x.keeps) (sym made) ∙ sym written ∙ is

pub channels_are : (kind k : Kind) (r : Row) (c : Channels) → kind ≡ k → r ≡ row k → r.channels ≡ c → (row kind).channels ≡ c
channels_are kind k r c same made is = ap (λ (x : Kind). (row x).channels) same ∙ ap (λ (x : Row). x.channels) (sym made) ∙ is

-- an end that is no reader of a delay
reader_is : (b : Bool) → not b ≡ true → b ≡ false
reader_is true h = absurd cc
reader_is false h = refl

pub plain_writer : (a b : Bool) → not b ≡ false → (a && not b) ≡ false
plain_writer true b is = is
plain_writer false b is = refl

pub plain_other : (a b : Bool) → a ≡ false → (a && not b) ≡ false
plain_other a b is = ap (λ x. x && not b) is

module _ (q : ℕ) (tape : List World) (regular : IsRegular q tape) (j : ℕ) (e : End) (s : Stretch) (force : IsInForce tape j s) (there : IsIn e (ends (world_in tape j).graph.value)) where
  is : world_in tape j ≡ sounding s.piece.world
  is = world_is tape j s.piece.world force.there

  pub end_there : IsIn e (ends s.piece.world.graph.value)
  end_there = subst (λ (w : World). IsIn e (ends w.graph.value)) is there

  pub node_there : e.node.0 < length s.piece.world.nodes
  node_there = subst (λ k. e.node.0 < k) (nodes_are s.piece.world (valid_there tape regular.valid j s.piece.world force.there)) (end_is s.piece.world.graph.value e end_there).0

  node_in : e.node.0 < length (world_in tape j).nodes
  node_in = subst (λ (w : World). e.node.0 < length w.nodes) (sym is) node_there

  pub connections_low : e.node.0 < length s.marks.into
  connections_low = kept_low tape regular.valid j e.node.0 s force node_in

  pub sources : (edges : List Edge) → edges ≡ slice_index_or s.marks.into e.node.0 [] → (x : Edge) → IsIn x edges → HasOutput (world_in tape j) (reader_of x.from.0) x.output
  sources edges kept x h = sources_are tape regular.valid j e.node.0 s force node_in x (subst (λ (es : List Edge). IsIn x es) kept h)

  -- the groups of a reader of a delay are those of its writer
  pub writer_groups : muted s.piece.world.graph.value e ≡ false → is_delay_kind (kind_of s.piece.world e.node.0) ≡ true → not e.writer ≡ true
      → (a : Account) (g : ℕ) → count_group q tape a j e g ≡ writer_count_group q tape a j e.node.0 g
  writer_groups loud delay reader a g = delay_group q tape a j s.piece.world is e g loud delay (reader_is e.writer reader)

  module _ (loud : muted s.piece.world.graph.value e ≡ false) (plain : (is_delay_kind (kind_of s.piece.world e.node.0) && not e.writer) ≡ false) where
    -- those of another end are those of its connections, where its channels are those of its input
    pub input_groups : (row (kind_of s.piece.world e.node.0)).channels ≡ OfInput → (edges : List Edge) → edges ≡ slice_index_or s.marks.into e.node.0 []
        → (a : Account) (g : ℕ) → count_group q tape a j e g ≡ edge_group (input_of e.node.0 0) (λ x. one (Count j (reader_of x.from.0) x.output)) edges g
    input_groups channels edges kept a g =
        row_group q tape a j s.piece.world is e g OfInput loud plain channels
        ∙ ap (λ (es : List Edge). edge_group (input_of e.node.0 0) (λ x. one (Count j (reader_of x.from.0) x.output)) es g) (arriving_are tape regular.valid j e.node.0 s force node_in ∙ sym kept)
