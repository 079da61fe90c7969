use Rattle.std.proofs.Common.{ℤ, ◌+ℤ◌, map, filter, slice_index_or, ap, ap₂, sym, ◌∙◌, arith}
use Rattle.mix_rules.specs.Mixing.{total}
use Rattle.conn_graph.specs.declared.edges.Edge.{Edge}
use Rattle.meaning.specs.Values.{part}
use Rattle.quantum_blocks.specs.Blocks.{frame_of}
use Rattle.quantum_blocks.specs.Connections.{leads_to, no_edge}
use Rattle.quantum_blocks.specs.Pairs.{IsBrought}
use Rattle.quantum_blocks.proofs.Connections.{two_items, total_of_two}
use Rattle.quantum_blocks.proofs.gathering.pair.Goals as goal

pub returns : goal.returns
returns c q is =
    let low = c.in-len2.len_at_least in
    let high = c.in-len2.len_below in
    let edges = c.args.into.now in
    let first : Edge = slice_index_or edges 0 no_edge in
    let second : Edge = slice_index_or edges 1 no_edge in
    let one : IsBrought q c.args.counts.now c.args.blocks.now first c.args.inlet c.in_ok-heard.heard = c.in_ok-heard.ensures q (is 0 no_edge (omega arith)) in
    let other : IsBrought q c.args.counts.now c.args.blocks.now second c.args.inlet c.in_ok-brought.field-0 = c.in_ok-brought.ensures q (is 1 no_edge (omega arith)) in
    record {
      one_long = one.long;
      other_long = other.long;
      sums = λ w channel m inside now.
          let f : Edge → ℤ = part (frame_of w c.args.blocks.now c.args.counts.now m) c.args.inlet.interp c.args.inlet.count channel in
          ap₂ (λ (x y : ℤ). x +ℤ y) (one.values w channel m inside now) (other.values w channel m inside now)
          ∙ total_of_two c.args.inlet.target f first second one.leads other.leads
          ∙ ap (λ es. total (map f (filter (leads_to c.args.inlet.target) es))) (sym (two_items edges no_edge low high));
    }
