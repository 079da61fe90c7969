use Rattle.std.proofs.Common.{rules, ◌≡◌, ◌≤◌, ◌+◌, ◌*◌, ◌^◌, ◌+ℤ◌, ℤ, FitsSigned, map, take, slice_index_or, ap, sym, ◌∙◌, arith, add-one}
use Rattle.std.specs.Int.{w128}
use Rattle.std.specs.Prelude.{unsigned_abs}
use Rattle.std.proofs.lemmas.Int.{to_z-of_z}
use Rattle.mix_rules.specs.Mixing.{total}
use Rattle.derivations.proofs.Filing.{no_edge, IsIn-get_or}
use Rattle.equations.specs.Given.{frame_of}
use Rattle.equations.specs.Sums.{led_part}
use Rattle.equations.proofs.Adding.{total_more}
use Rattle.equations.proofs.sums.total_led.Goals as goal

pub led_part-part-requires-clause-known : goal.led_part-part-requires-clause-known
led_part-part-requires-clause-known c = c.requires.known (slice_index_or c.args.edges.now c.loop-edge.edge-index no_edge) (IsIn-get_or c.args.edges.now c.loop-edge.edge-index no_edge c.loop-edge-test.true)

pub loop-edge-preserved : goal.loop-edge-preserved
loop-edge-preserved c =
    let fits : FitsSigned w128 c.with_part-sum.result = search rules in
    let f = led_part c.args.target (frame_of c.args.context c.args.frame) c.args.lane in
    let edges = c.args.edges.now in
    let i = c.loop-edge.edge-index in
    let part : FitsSigned w128 c.led_part-part.result = search rules in
    let value : c.with_part-sum.result ≡ c.loop-edge.sum +ℤ c.led_part-part.result = search rules in
    let before : c.loop-edge.sum ≡ total (map f (take i edges)) = search rules in
    let bound : unsigned_abs c.with_part-sum.result ≤ unsigned_abs c.loop-edge.sum + 2 ^ 100 = search rules in
    let so_far : unsigned_abs c.loop-edge.sum ≤ i * 2 ^ 100 = search rules in
    let here : c.led_part-part.result ≡ f (slice_index_or edges i no_edge) = c.led_part-part.ensures.value in
    record {
      value =
          to_z-of_z _ _ fits ∙ value ∙ ap (λ (z : ℤ). z +ℤ c.led_part-part.result) before ∙ ap (λ (z : ℤ). total (map f (take i edges)) +ℤ z) here
          ∙ sym (ap (λ n. total (map f (take n edges))) (add-one i) ∙ total_more f edges i no_edge c.loop-edge-test.true);
      small = simp (to_z-of_z _ _ fits) (omega (arith, bound, so_far));
    }
