use Rattle.std.proofs.Common.{◌≡◌, ◌∷◌, [], length, ap, append_assoc, ◌∙◌, arith}
use Rattle.std.proofs.lemmas.List.{length-append}
use Rattle.std.specs.Vec.Iter.{into_iter_items}
use Rattle.load_gen.proofs.Listing.{adds_length, adds_then}
use Rattle.load_gen.proofs.generator.add_all.Goals as goal

pub add-requires : goal.add-requires
add-requires c =
    let at = c.loop-op in
    let all = ap length (at.invariant.0 ∙ c.into_iter-op-iterator.ensures.into_iter_gives.0) in
    let parts = length-append at.yielded (into_iter_items at.op-iterator) in
    let long = adds_length 0 at.yielded c.args.calls.now at.calls at.invariant.2 in
    omega (arith, all, parts, long, c.requires)

pub loop-op-preserved : goal.loop-op-preserved
loop-op-preserved c =
    let at = c.loop-op in
    let op = c.in-Some.op in
    let steps : into_iter_items at.op-iterator ≡ op ∷ into_iter_items c.next.new.self = c.in-Some.ensures.steps.0 in (
      append_assoc at.yielded (op ∷ []) _ ∙ rw (← steps) at.invariant.0,
      let was = at.invariant.1 in
          let gone = c.in-Some.ensures.steps.1 in
          let short = ap length steps in
          omega arith,
      adds_then 0 at.yielded (op ∷ []) c.args.calls.now at.calls c.add.new.calls at.invariant.2 c.in_ok-add.ensures.calls,
    )
