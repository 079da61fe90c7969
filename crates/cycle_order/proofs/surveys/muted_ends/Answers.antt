use Rattle.std.proofs.Common.{◌≡◌, ◌<◌, length, sym, subst, ap, ◌∙◌, map, IfOk}
use Rattle.std.proofs.lemmas.List.FromFn.{length-map-range_with_len}
use Rattle.law_base.specs.Members.{IsIn}
use Rattle.conn_graph.specs.Graph.{Connections}
use Rattle.conn_graph.proofs.EndLaws.{end_is}
use Rattle.cycle_order.specs.Arrows.{vertex_of}
use Rattle.cycle_order.specs.Reach.{reaches_itself, vertices, IsWithin}
use Rattle.cycle_order.specs.Surveys.{marked_ends}
use Rattle.cycle_order.proofs.EndArrows.{vertex_below, ends_within, marked_ends_are}
use Rattle.cycle_order.proofs.surveys.muted_ends.Goals as goal

pub on_cycles-requires : goal.on_cycles-requires
on_cycles-requires c = subst (λ xs. IsWithin xs) (sym c.requires.arrows) (ends_within c.args.graph.now.value c.requires.whole)

pub marked_ends-requires : goal.marked_ends-requires
marked_ends-requires c e h =
    let g : Connections = c.args.graph.now.value in
    let in_ends = subst (λ xs. IsIn e xs) (c.as_slice.ensures.value ∙ c.in_ok-ends.ensures) h in
    let number = ap length (c.as_slice-2.ensures.value ∙ c.in_ok-marks.ensures) ∙ length-map-range_with_len (reaches_itself c.args.arrows.now) 0 (length c.args.arrows.now) ∙ ap length c.requires.arrows in
    subst (λ n. vertex_of e < n) (sym number) (vertex_below g e (end_is g e in_ends).0)

pub returns : goal.returns
returns c =
    let g : Connections = c.args.graph.now.value in
    let marks = c.as_slice-2.ensures.value ∙ c.in_ok-marks.ensures ∙ ap (λ xs. map (reaches_itself xs) (vertices xs)) c.requires.arrows in
    subst (λ xs. IfOk c.marked_ends.result (λ marked. marked ≡ xs))
    (ap (marked_ends c.as_slice-2.result.now) (c.as_slice.ensures.value ∙ c.in_ok-ends.ensures) ∙ marked_ends_are g c.requires.whole c.as_slice-2.result.now marks) c.marked_ends.ensures
