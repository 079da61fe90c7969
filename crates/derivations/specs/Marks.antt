-- What is kept beside a graph.
use Rattle.std.specs.Prelude.{ℕ, ◌≡◌, ◌<◌, ◌&&◌, [], length, filter, slice_index_or, false}
use Rattle.conn_graph.specs.Cells.{enters}
use Rattle.conn_graph.specs.Ends.{reader_of, is_delay, in_cycle, muted}
use Rattle.conn_graph.specs.Graph.{Connections}
use Rattle.derivations.specs.declared.marks.Marks.{Marks}

-- For each node there are the connections that lead to it, whether it is a delay in a cycle, and whether its reader is muted.
pub record AreMarks (g : Connections) (marks : Marks) : Type 0 where
  pub into_each : length marks.into ≡ length g.nodes
  pub cycles_each : length marks.cycles.items ≡ length g.nodes
  pub muted_each : length marks.muted.items ≡ length g.nodes
  pub into : (n : ℕ) → n < length g.nodes → slice_index_or marks.into n [] ≡ filter (enters n) g.edges
  pub cycles : (n : ℕ) → n < length g.nodes → slice_index_or marks.cycles.items n false ≡ (is_delay g n && in_cycle g n)
  pub muted : (n : ℕ) → n < length g.nodes → slice_index_or marks.muted.items n false ≡ muted g (reader_of n)
