use Rattle.std.proofs.Common.{rules, FitsSigned, ℕ, ℤ, pos, ◌≡◌, true, sym, ◌∙◌, ap}
use Rattle.std.specs.Prelude.{if◌then◌else◌}
use Rattle.std.specs.Int.{w128}
use Rattle.std.proofs.lemmas.Int.{to_z-of_z}
use Rattle.lane_kern.specs.Blocks.{at}
use Rattle.mix_rules.specs.Mixing.{mix}
use Rattle.conn_graph.specs.Edges.{same_target}
use Rattle.conn_graph.specs.Ends.{reader_of}
use Rattle.meaning.specs.Values.{part}
use Rattle.explain.proofs.Mixes.{mix_reads}
use Rattle.equations.specs.Given.{meaning_of, frame_of}
use Rattle.equations.proofs.sums.led_part.Goals as goal

pub returns-clause-value : goal.returns-clause-value
returns-clause-value c =
    let there : same_target c.args.target c.args.edge.to ≡ true = sym c.is_same.ensures ∙ c.if-not-is_same.false in
    let many : ℕ = c.carried_by-carried.result.count in
    let values : ℕ → ℤ = (meaning_of c.args.context).values c.args.frame (reader_of c.args.edge.from.0) c.args.edge.output in
    let lane = c.args.lane in
    let exact : FitsSigned w128 c.mix.result = search rules in
    to_z-of_z _ _ exact ∙ c.mix.ensures.value
    ∙ mix_reads lane.interp many lane.channels (at c.carried_by-carried.result.samples) values lane.channel c.carried_by-carried.ensures.samples
    ∙ ap (λ n. mix lane.interp n lane.channels values lane.channel) c.carried_by-carried.ensures.count
    ∙ sym (ap (λ b. if b then part (frame_of c.args.context c.args.frame) lane.interp lane.channels lane.channel c.args.edge else pos 0) there)
