-- Where no node is on a cycle, no delay is in one and no end is muted.
use Rattle.std.proofs.Common.{ℕ, zero, suc, ◌≡◌, length, List, [], ◌∷◌, map, Bool, true, false, ◌&&◌, ◌⊎◌, inl, inr, refl, sym, ◌∙◌, ap, subst}
use Rattle.std.specs.List.{filter, list_any}
use Rattle.std.proofs.lemmas.List.FromFn.{length-range_with_len}
use Rattle.wa_base.specs.declared.graph_names.End.{End}
use Rattle.law_base.specs.Members.{IsIn}
use Rattle.law_base.specs.Reaching.{reaches}
use Rattle.law_base.proofs.Members.{list_any-IsIn}
use Rattle.law_base.proofs.Reaching.{direct, further, first_arrow, more, enough, no_way}
use Rattle.law_base.proofs.Tests.{not_true}
use Rattle.conn_graph.specs.Ends.{ends, is_delay, connects, numbers_from, in_cycle, arrow, height, muted}
use Rattle.conn_graph.specs.Graph.{Connections}
use Rattle.conn_graph.proofs.EndLaws.{end_is}
use Rattle.conn_graph.proofs.MutingLaws.{has_number, arrow_cases}
use Rattle.cycle_order.specs.Surveys.{node_id, delays_in_cycle, muted_ends, cycle_marks}
use Rattle.cycle_order.proofs.Lists.{IsIn-map, filter_agrees, numbers_are}

differ : (b : Bool) → b ≡ true → b ≡ false → ⊥
differ b h k = absurd cc

none_kept : {X : Type 0} (p : X → Bool) (xs : List X) → ((x : X) → IsIn x xs → p x ≡ false) → filter p xs ≡ []
none_kept p xs h = filter_agrees p (λ _. false) xs h ∙ nothing xs
  where
    nothing : {X : Type 0} (xs : List X) → filter (λ _. false) xs ≡ []
    nothing [] = refl
    nothing (x ∷ xs) = nothing xs

module _ (g : Connections) where
  -- A way between ends is a way between their nodes, or the one arrow within a delay.
  between_nodes : (n : ℕ) (a b : End) → reaches (arrow g) (ends g) n a b ≡ true
      → (reaches (connects g) (numbers_from 0 g.nodes) n a.node.0 b.node.0 ≡ true) ⊎ ((a.node.0 ≡ b.node.0) × (a.writer ≡ true) × (b.writer ≡ false))
  between_nodes zero a b r = absurd (no_way (arrow g) (ends g) a b r)
  between_nodes (suc n) a b r = elim (first_arrow (arrow g) (ends g) n a b r) [
    | inl h ↦ elim (arrow_cases g a b h) [
      | inl (connected, plain) ↦ inl (direct (connects g) (numbers_from 0 g.nodes) n a.node.0 b.node.0 connected)
      | inr (node, from, to, cyclic) ↦ inr (node, from, to)
    ]
    | inr (c, in_c, h, rest) ↦ elim (arrow_cases g a c h) [
      | inl (connected, plain) ↦ elim (between_nodes n c b rest) [
        | inl way ↦ inl (further (connects g) (numbers_from 0 g.nodes) n a.node.0 c.node.0 b.node.0 (has_number g c.node.0 (end_is g c in_c).0) connected way)
        | inr (node, from, to) ↦ inl (direct (connects g) (numbers_from 0 g.nodes) n a.node.0 b.node.0 (subst (λ k. connects g a.node.0 k ≡ true) node connected))
      ]
      | inr (node, from, to, cyclic) ↦ elim (between_nodes n c b rest) [
        | inl way ↦ inl (more (connects g) (numbers_from 0 g.nodes) n a.node.0 b.node.0 (subst (λ k. reaches (connects g) (numbers_from 0 g.nodes) n k b.node.0 ≡ true) (sym node) way))
        | inr (node', from', to') ↦ absurd (differ c.writer from' to)
      ]
    ]
  ]

  -- the node of a muted end is on a cycle
  node_of_muted : (e : End) → IsIn e (ends g) → muted g e ≡ true → in_cycle g e.node.0 ≡ true
  unfolding muted height in_cycle
  node_of_muted e in_e m = elim (between_nodes (length (ends g)) e e m) [
    | inl way ↦
        subst (λ n. reaches (connects g) (numbers_from 0 g.nodes) n e.node.0 e.node.0 ≡ true) (ap length (numbers_are 0 g.nodes) ∙ length-range_with_len 0 (length g.nodes))
        (enough (connects g) (numbers_from 0 g.nodes) (length (ends g)) e.node.0 e.node.0 (has_number g e.node.0 (end_is g e in_e).0) way)
    | inr (node, from, to) ↦ absurd (differ e.writer from to)
  ]

  module _ (none : list_any (λ (mark : Bool). mark) (cycle_marks g) ≡ false) where
    off_cycles : (i : ℕ) → IsIn i (numbers_from 0 g.nodes) → in_cycle g i ≡ false
    off_cycles i h = not_true (in_cycle g i) (λ t. differ _ (list_any-IsIn (λ (mark : Bool). mark) (cycle_marks g) (in_cycle g i) (IsIn-map (in_cycle g) (numbers_from 0 g.nodes) i h) t) none)

    pub no_delays : [] ≡ delays_in_cycle g
    unfolding delays_in_cycle
    no_delays = sym (ap (map node_id) (none_kept (λ i. is_delay g i && in_cycle g i) (numbers_from 0 g.nodes) (λ i h. and_not (is_delay g i) (in_cycle g i) (off_cycles i h))))
      where
        and_not : (a b : Bool) → b ≡ false → (a && b) ≡ false
        and_not true b e = e
        and_not false b e = refl

    pub no_muted : [] ≡ muted_ends g
    unfolding muted_ends
    no_muted = sym (none_kept (muted g) (ends g) (λ e h. not_true (muted g e) (λ m. differ _ (node_of_muted e h m) (off_cycles e.node.0 (has_number g e.node.0 (end_is g e h).0)))))
