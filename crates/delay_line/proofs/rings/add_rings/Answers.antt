use Rattle.std.proofs.Common.{ℤ, ◌≡◌, ◌+◌, ◌++◌, ◌∷◌, [], length, replicate, ap, ◌∙◌, arith, append_assoc, length-append, rules}
use Rattle.std.proofs.lemmas.List.{replicate-append-replicate}
use Rattle.std.specs.Vec.{vec_len}
use Rattle.circular_buffer.specs.Buffer.{Buffer, buffer}
use Rattle.delay_line.proofs.rings.add_rings.Goals as goal

pub loop-preserved : goal.loop-preserved
loop-preserved c =
    let old = c.args.rings.now.items in
    let empty : Buffer ℤ = buffer [] c.args.capacity in
    let more = c.loop.invariant.grown.0 in
    let is = c.in_ok-push.ensures.items in
    let ring = c.in_ok-ring.ensures in
    let longer = length-append c.loop.rings.items (c.in_ok-ring.ring ∷ []) in
    record {
      grown = (
        more + 1,
        is ∙ ap (λ r. c.loop.rings.items ++ r ∷ []) ring ∙ ap (λ xs. xs ++ empty ∷ []) c.loop.invariant.grown.1
            ∙ append_assoc old (replicate more empty) (empty ∷ []) ∙ ap (λ xs. old ++ xs) (replicate-append-replicate more 1 empty),
      );
      long = ap length is ∙ longer ∙ ap (λ n. n + 1) c.loop.invariant.long;
      bound = omega (arith, c.loop-test.true);
    }

pub returns-clause-ok : goal.returns-clause-ok
returns-clause-ok c =
    let same : vec_len c.args.rings.now ≡ length c.args.rings.now.items = search rules in
    omega (arith, same, c.len-counter.ensures, c.loop.invariant.long, c.loop.invariant.bound, c.loop.auto.counter, c.loop-test.false)
