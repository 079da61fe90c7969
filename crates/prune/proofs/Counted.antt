-- The counts of a part are those of the whole.
use Rattle.std.proofs.Common.{ℕ, ◌≡◌, ◌+◌, ◌-◌, ◌*◌, ◌/◌, ◌<◌, ◌≤◌, length, List, [], ◌∷◌, map, Bool, true, false, ◌⊎◌, inl, inr, refl, sym, ◌∙◌, ap, ap₂, arith}
use Rattle.std.specs.Prelude.{if◌then◌else◌, ◌==◌, ◌&&◌, not}
use Rattle.std.proofs.lemmas.Bool.Decides.{nat_tests}
use Rattle.wa_base.specs.declared.graph_names.End.{End}
use Rattle.law_base.specs.Members.{IsIn}
use Rattle.law_base.proofs.Members.{IsIn-filter}
use Rattle.mix_rules.specs.Counts.{greatest, input_count}
use Rattle.node_table.specs.Kinds.{row, is_delay_kind}
use Rattle.node_table.specs.declared.kinds.Kind.{Kind}
use Rattle.node_table.specs.declared.nodes.Node.{Node}
use Rattle.node_table.specs.declared.rows.Channels.{Channels}
use Rattle.node_table.specs.declared.rows.Channels.TheVariants.{Always, OfInput, OfBuffer}
use Rattle.conn_graph.specs.declared.edges.Edge.{Edge}
use Rattle.conn_graph.specs.Edges.{is_input}
use Rattle.conn_graph.specs.Graph.{edges_to_input}
use Rattle.conn_graph.specs.Ends.{writer_of, reader_of, ends, in_cycle, muted}
use Rattle.conn_graph.proofs.EndLaws.{has_writer}
use Rattle.meaning.specs.declared.world.World.{World}
use Rattle.meaning.specs.Lists.{since}
use Rattle.meaning.specs.World.{node_at, kind_of}
use Rattle.meaning.specs.Counts.{Counts, input_channels, seen_counts, reader_channels, output_channels, count_by_kind, count_rule}
use Rattle.meaning.proofs.Seeing.{same_since}
use Rattle.prune.specs.Parts.{Numbering, whole_end, whole_edge}
use Rattle.prune.proofs.Connected.{Parted, same_kind, end_there, reader_there, source_there, same_inputs}
use Rattle.prune.proofs.Muted.{same_in_cycle, same_muted}
use Rattle.prune.proofs.Plays.{same_played_channels}

-- what is said of the ends of a part, and of the whole
abbrev pub AgreeOn : {A : Type 0} → Numbering → World → (End → A) → (End → A) → Type 0
AgreeOn r part s t = (e : End) → IsIn e (ends part.graph.value) → s e ≡ t (whole_end r e)

-- the writers of the part's delays had as many channels in the quanta from their births on up to quantum j
abbrev pub AgreeBefore : Numbering → ℕ → World → ℕ → (ℕ → Counts) → (ℕ → Counts) → Type 0
AgreeBefore r q part j past past' = (n k : ℕ) → n < length part.nodes → is_delay_kind (kind_of part n) ≡ true → (node_at part n).attrs.birth / q ≤ k → k < j
    → past k (writer_of n) ≡ past' k (writer_of (r n))

module _ (r : Numbering) (part whole : World) (parted : Parted r part whole) (now now' : Counts) (agree : AgreeOn r part now now') where
  pub same_channels : (n i : ℕ) → n < length part.nodes → input_channels part now n i ≡ input_channels whole now' (r n) i
  same_channels n i l =
      ap (λ (x : Node). input_count x.attrs.mode x.attrs.count (counted edges)) (parted.is.nodes n l)
      ∙ ap (input_count (node_at whole (r n)).attrs.mode (node_at whole (r n)).attrs.count)
      (each edges (λ x h. agree (reader_of x.from.0) (reader_there r part whole parted x.from.0 (source_there r part whole parted x (IsIn-filter (λ e. is_input n i e.to) part.graph.value.edges x h).0)))
      ∙ ap (map (λ (e : Edge). now' (reader_of e.from.0))) (sym (same_inputs r part whole parted n i l)))
    where
      edges : List Edge
      edges = edges_to_input part.graph.value n i

      counted : List Edge → List ℕ
      counted xs = map (λ e. now (reader_of e.from.0)) xs

      each : (xs : List Edge) → ((x : Edge) → IsIn x xs → now (reader_of x.from.0) ≡ now' (reader_of (r x.from.0)))
          → counted xs ≡ map (λ (e : Edge). now' (reader_of e.from.0)) (map (whole_edge r) xs)
      each [] h = refl
      each (x ∷ xs) h = ap₂ (λ n ns. n ∷ ns) (h x (inl refl)) (each xs (λ y k. h y (inr k)))

  module _ (q j : ℕ) (past past' : ℕ → Counts) (before : AgreeBefore r q part j past past') where
    same_reader : (n : ℕ) → n < length part.nodes → is_delay_kind (kind_of part n) ≡ true → reader_channels q part j past now n ≡ reader_channels q whole j past' now' (r n)
    same_reader n l is =
        ap greatest (same_since at at' birth (end (in_cycle part.graph.value n) - birth) (λ k low high. at_quantum k low (early k (in_cycle part.graph.value n) (omega arith))))
        ∙ ap₂ (λ (x : Node) c. greatest (since at' (x.attrs.birth / q) (end c - x.attrs.birth / q))) (parted.is.nodes n l) (same_in_cycle r part whole parted n l)
      where
        birth : ℕ
        birth = (node_at part n).attrs.birth / q

        end : Bool → ℕ
        end c = if c then j else j + 1

        at : ℕ → ℕ
        at k = seen_counts j past now k (writer_of n)

        at' : ℕ → ℕ
        at' k = seen_counts j past' now' k (writer_of (r n))

        early : (k : ℕ) (c : Bool) → k < end c → (k < j) ⊎ (k ≡ j)
        early k true high = inl high
        early k false high = split k j high
          where
            split : (k j : ℕ) → k < j + 1 → (k < j) ⊎ (k ≡ j)
            split k j high = grind arith

        at_quantum : (k : ℕ) → birth ≤ k → (k < j) ⊎ (k ≡ j) → at k ≡ at' k
        at_quantum k low (inl high) =
            let other : (k == j) ≡ false = grind (arith, nat_tests) in
            ap (λ b. (if b then now else past k) (writer_of n)) other ∙ before n k l is low high ∙ sym (ap (λ b. (if b then now' else past' k) (writer_of (r n))) other)
        at_quantum k low (inr here) =
            let same : (k == j) ≡ true = grind (arith, nat_tests) in
            ap (λ b. (if b then now else past k) (writer_of n)) same
            ∙ agree (writer_of n) (has_writer part.graph.value n (parted.joined.delays n ∙ is))
            ∙ sym (ap (λ b. (if b then now' else past' k) (writer_of (r n))) same)

    same_output : (n : ℕ) → n < length part.nodes → (c : Channels) → output_channels q part j now c n ≡ output_channels q whole j now' c (r n)
    same_output n l (Always channels) = refl
    same_output n l OfInput = same_channels n 0 l
    same_output n l OfBuffer = same_played_channels r part whole parted.is n l q (q * j)

    same_by_kind : (e : End) → IsIn e (ends part.graph.value) → (k : Kind) → kind_of part e.node.0 ≡ k → count_by_kind q part j past now k e ≡ count_by_kind q whole j past' now' k (whole_end r e)
    same_by_kind e h k is = by_test (is_delay_kind k) e.writer (ap is_delay_kind is)
      where
        l : e.node.0 < length part.nodes
        l = end_there r part whole parted e h

        by_test : (d w : Bool) → is_delay_kind (kind_of part e.node.0) ≡ d
            → (if d && not w then reader_channels q part j past now e.node.0 else output_channels q part j now (row k).channels e.node.0)
            ≡ (if d && not w then reader_channels q whole j past' now' (r e.node.0) else output_channels q whole j now' (row k).channels (r e.node.0))
        by_test true false delay = same_reader e.node.0 l delay
        by_test true true delay = same_output e.node.0 l (row k).channels
        by_test false w delay = same_output e.node.0 l (row k).channels

    -- The rule gives an end of the part what it gives its counterpart.
    pub same_rule : (e : End) → IsIn e (ends part.graph.value) → count_rule q part j past now e ≡ count_rule q whole j past' now' (whole_end r e)
    unfolding count_rule
    same_rule e h =
        ap (λ b. if b then 1 else count_by_kind q part j past now (kind_of part e.node.0) e) (same_muted r part whole parted e h)
        ∙ ap (λ n. if muted whole.graph.value (whole_end r e) then 1 else n)
        (same_by_kind e h (kind_of part e.node.0) refl
        ∙ ap (λ k. count_by_kind q whole j past' now' k (whole_end r e)) (same_kind r part whole parted e.node.0 (end_there r part whole parted e h)))
