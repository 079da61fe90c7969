use Rattle.std.proofs.Common.{rules, ◌≡◌, ℕ, map, take, slice_index_or, ap, ap₂, sym, ◌∙◌, arith, add-one}
use Rattle.std.specs.Prelude.{max}
use Rattle.mix_rules.specs.Counts.{greatest}
use Rattle.derivations.proofs.Filing.{no_edge, IsIn-get_or}
use Rattle.equations.specs.Given.{meaning_of}
use Rattle.equations.specs.Sums.{led_count}
use Rattle.equations.proofs.Adding.{greatest_more}
use Rattle.equations.proofs.sums.most_led.Goals as goal

pub led_count-requires-clause-known : goal.led_count-requires-clause-known
led_count-requires-clause-known c = c.requires.known (slice_index_or c.args.edges.now c.loop-edge.edge-index no_edge) (IsIn-get_or c.args.edges.now c.loop-edge.edge-index no_edge c.loop-edge-test.true)

pub loop-edge-preserved : goal.loop-edge-preserved
loop-edge-preserved c =
    let f = led_count c.args.target ((meaning_of c.args.context).counts c.args.quantum) in
    let edges = c.args.edges.now in
    let i = c.loop-edge.edge-index in
    let here : c.led_count.result ≡ f (slice_index_or edges i no_edge) = c.led_count.ensures.value in
    let few = c.led_count.ensures.few in
    let most = c.loop-edge.invariant.few in
    let greater : c.max-most.result ≡ max c.loop-edge.most c.led_count.result = search rules in
    record {
      value =
          greater ∙ ap₂ (λ (a b : ℕ). max a b) c.loop-edge.invariant.value here
          ∙ sym (ap (λ n. greatest (map f (take n edges))) (add-one i) ∙ greatest_more f edges i no_edge c.loop-edge-test.true);
      few = omega (arith, greater, few, most);
    }
