use Rattle.std.proofs.Common.{◌≡◌, ◌+◌, ◌++◌, ◌∷◌, [], length, replicate, ap, ◌∙◌, arith, append_assoc, length-append, rules}
use Rattle.std.proofs.lemmas.List.{replicate-append-replicate}
use Rattle.std.specs.Vec.{vec_len}
use Rattle.convolve.specs.Lines.{silence}
use Rattle.convolve.proofs.convolver.add_lines.Goals as goal

pub loop-preserved : goal.loop-preserved
loop-preserved c =
    let old = c.args.lines.now.items in
    let silent = silence c.args.kept in
    let more = c.loop.invariant.grown.0 in
    let is = c.in_ok-push.ensures.items in
    let line = c.in_ok-new.ensures in
    let longer = length-append c.loop.lines.items (c.in_ok-new.field-0 ∷ []) in
    record {
      grown = (
        more + 1,
        is ∙ ap (λ r. c.loop.lines.items ++ r ∷ []) line ∙ ap (λ xs. xs ++ silent ∷ []) c.loop.invariant.grown.1
            ∙ append_assoc old (replicate more silent) (silent ∷ []) ∙ ap (λ xs. old ++ xs) (replicate-append-replicate more 1 silent),
      );
      long = ap length is ∙ longer ∙ ap (λ n. n + 1) c.loop.invariant.long;
      bound = omega (arith, c.loop-test.true);
    }

pub returns-clause-ok : goal.returns-clause-ok
returns-clause-ok c =
    let same : vec_len c.args.lines.now ≡ length c.args.lines.now.items = search rules in
    omega (arith, same, c.len-counter.ensures, c.loop.invariant.long, c.loop.invariant.bound, c.loop.auto.counter, c.loop-test.false)
