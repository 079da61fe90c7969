use Rattle.std.proofs.Common.{◌≡◌, ◌≤◌, ◌<◌, ◌+◌, ◌-◌, ap, subst, ◌∙◌, arith, length, max}
use Rattle.sched_source.specs.Playback.{position}
use Rattle.sched_source.proofs.Draws.{starts_by, sounds, index_within}
use Rattle.sched_source.proofs.playing.play_span.Goals as goal

pub draw_content-requires-clause-inside : goal.draw_content-requires-clause-inside
draw_content-requires-clause-inside c m low high =
    let span = c.args.span in
    let count = length c.args.out.now in
    let from = c.first_index-from.result in
    let to = c.max-to.result in
    let begin = c.first_index-from.ensures in
    let bound = index_within span.end c.args.first count in
    let ends = c.max-to.ensures ∙ ap (λ k. max k from) c.last_index.ensures in
    let within : to ≤ count = omega (arith, ends, bound, begin) in
    let begun = starts_by span.start span.end c.args.first count from to begin ends within (omega arith) in
    let e : c.args.first + m - span.start ≡ c.args.first + from - span.start + (m - from) = omega (arith, begun, low) in
    subst (λ k. position c.args.content.now k < c.args.content.now.length) e
    (c.requires.inside (c.args.first + m) (sounds span.start span.end c.args.first count from to m begin ends within low high))
