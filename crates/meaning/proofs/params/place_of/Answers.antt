use Rattle.std.proofs.Common.{ltb, ltb-true, ap, sym, ◌∙◌, arith, rules}
use Rattle.std.proofs.lemmas.Bool.Decides.{nat_tests}
use Rattle.std.proofs.lemmas.List.{get_or_default}
use Rattle.std.proofs.lemmas.List.Sorted.{IsPartitionPoint-from_clause, IsPartitionedBy-ltb}
use Rattle.conn_graph.specs.Edges.{same_param}
use Rattle.meaning.specs.declared.params.Param.{Param}
use Rattle.meaning.proofs.FirstItems.{node, found_there}
use Rattle.meaning.proofs.ParamOrder.{nodes_do_not_fall, not_there}
use Rattle.meaning.proofs.params.place_of.Goals as goal
use Rattle.meaning.proofs.params.place_of.Goals.{else-place-params-via-then-place-params+else-has_id, else-place-params-via-else-place-params}

pub returns-then-has_id : goal.returns-then-has_id
returns-then-has_id c =
    sym (found_there c.args.params.now c.args.id c.partition_point-place.result c.index-params-place.result c.requires (omega arith)
    (ap (λ (p : Param). same_param p.id c.args.id) (sym c.index-params-place.is) ∙ sym c.has_id.ensures ∙ c.if-has_id.true))

pub returns-else-place-params : goal.returns-else-place-params
returns-else-place-params c =
    let parted = IsPartitionedBy-ltb node c.args.params.now c.args.id.node.0 (nodes_do_not_fall c.args.params.now c.requires) in
    let point = IsPartitionPoint-from_clause (λ p. ltb (node p) c.args.id.node.0) _ _ c.partition_point-place.ensures.partitioned parted (λ a r q k. search rules) in
    sym (not_there c.args.params.now c.args.id c.partition_point-place.result c.requires
    (λ i d l. ltb-true _ _ (point.0 i d (omega arith) l))
    (λ i d l m. let no = point.1 i d l m in grind (arith, nat_tests))
    (λ d l. elim c.else-place-params.branch [
      | else-place-params-via-then-place-params+else-has_id w ↦
          let at = get_or_default c.args.params.now c.partition_point-place.result d w.index-params-place.result l in
          ap (λ (p : Param). same_param p.id c.args.id) (at ∙ sym w.index-params-place.is) ∙ sym w.has_id.ensures ∙ w.if-has_id.false
      | else-place-params-via-else-place-params w ↦ absurd (omega arith)
    ]))
