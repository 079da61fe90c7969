-- What the marks of a graph say of an end.
use Rattle.std.proofs.Common.{ℕ, ◌≡◌, ◌<◌, length, [], true, false, sym, ◌∙◌, ap, subst}
use Rattle.std.specs.Prelude.{slice_index_or, ◌&&◌}
use Rattle.wa_base.specs.declared.graph_names.End.{End}
use Rattle.law_base.specs.Members.{IsIn}
use Rattle.conn_graph.specs.Ends.{ends, is_delay, in_cycle, muted}
use Rattle.conn_graph.specs.Graph.{Connections}
use Rattle.conn_graph.proofs.EndLaws.{end_is}
use Rattle.conn_graph.proofs.MutingLaws.{writer_unmuted}
use Rattle.derivations.specs.declared.marks.Marks.{Marks}
use Rattle.derivations.specs.Groups.{arriving}
use Rattle.derivations.specs.Marks.{AreMarks}

module _ (g : Connections) (marks : Marks) (are : AreMarks g marks) where
  -- a writer is not muted, and a reader is where it is marked
  pub writer_loud : (e : End) → IsIn e (ends g) → e.writer ≡ true → muted g e ≡ false
  writer_loud e there writer = ap (λ t. let x : End = record { node = e.node; writer = t } in muted g x) writer ∙ writer_unmuted g e.node.0 ((end_is g e there).1 writer)

  pub muted_low : (e : End) → IsIn e (ends g) → e.node.0 < length marks.muted.items
  muted_low e there = subst (λ n. e.node.0 < n) (sym are.muted_each) (end_is g e there).0

  pub reader_marked : (e : End) → IsIn e (ends g) → e.writer ≡ false → slice_index_or marks.muted.items e.node.0 false ≡ muted g e
  reader_marked e there reader = are.muted e.node.0 (end_is g e there).0 ∙ sym (ap (λ t. let x : End = record { node = e.node; writer = t } in muted g x) reader)

  -- a delay in a cycle is marked
  pub cycle_marked : (n : ℕ) → n < length g.nodes → is_delay g n ≡ true → slice_index_or marks.cycles.items n false ≡ in_cycle g n
  cycle_marked n there delay = are.cycles n there ∙ ap (λ b. b && in_cycle g n) delay

  pub cycles_low : (n : ℕ) → n < length g.nodes → n < length marks.cycles.items
  cycles_low n there = subst (λ k. n < k) (sym are.cycles_each) there

  -- the connections that are kept for a node are those that arrive there
  pub into_low : (n : ℕ) → n < length g.nodes → n < length marks.into
  into_low n there = subst (λ k. n < k) (sym are.into_each) there

  pub into_are : (n : ℕ) → n < length g.nodes → slice_index_or marks.into n [] ≡ arriving g n
  into_are n there = are.into n there
