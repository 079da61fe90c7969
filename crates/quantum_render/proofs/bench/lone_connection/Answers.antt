use Rattle.std.proofs.Common.{◌≡◌, ◌<◌, ◌∷◌, [], length, slice_index_or, sym, ◌∙◌, ap, arith, subst}
use Rattle.std.proofs.lemmas.List.{get_or_default}
use Rattle.std.proofs.lemmas.Bool.Decides.{nat_tests}
use Rattle.conn_graph.specs.declared.edges.Edge.{Edge}
use Rattle.conn_graph.specs.Ends.{reader_of}
use Rattle.quantum_blocks.specs.Blocks.{slot, counts_in}
use Rattle.quantum_blocks.specs.Connections.{into, no_edge}
use Rattle.quantum_render.specs.Sites.{SiteView}
use Rattle.quantum_render.proofs.SiteLaws.{source_slot}
use Rattle.quantum_blocks.proofs.Connections.{one_item}
use Rattle.quantum_render.proofs.bench.lone_connection.Goals as goal

pub bounds-site-inside-slot : goal.bounds-site-inside-slot
bounds-site-inside-slot c =
    subst (λ k. k < length c.site.inside.quantum.now.counts.now) (sym (c.slot.ensures ∙ ap slot c.reader.ensures))
    (source_slot _ _ _ _ _ _ c.site.invariant.0 0 no_edge (let l = c.in-len1.len_at_least in omega arith))

pub returns-then-channels-inlet : goal.returns-then-channels-inlet
returns-then-channels-inlet c =
    let e : Edge = slice_index_or c.site.inside.into.now 0 no_edge in
    let place : c.slot.result ≡ slot (reader_of e.from.0) = c.slot.ensures ∙ ap slot c.reader.ensures in
    let within : c.slot.result < length c.site.inside.quantum.now.counts.now = subst (λ k. k < length c.site.inside.quantum.now.counts.now) (sym place) (source_slot _ _ _ _ _ _ c.site.invariant.0 0 no_edge (let l = c.in-len1.len_at_least in omega arith)) in
    record {
      only = subst (λ (x : SiteView). into x.world.graph.value x.end.node.0 ≡ e ∷ []) c.site.view_is (sym c.site.invariant.0.into ∙ one_item c.site.inside.into.now no_edge c.in-len1.len_at_least c.in-len1.len_below);
      leads = sym c.is_same.ensures ∙ c.if-is_same.true;
      count =
          sym (get_or_default c.site.inside.quantum.now.counts.now c.slot.result 0 1 within ∙ ap (λ k. slice_index_or c.site.inside.quantum.now.counts.now k 1) place ∙ ap (λ (x : SiteView). counts_in x.counts (reader_of e.from.0)) c.site.view_is)
          ∙ (let t = c.if-channels-inlet.true in grind (arith, nat_tests));
    }
