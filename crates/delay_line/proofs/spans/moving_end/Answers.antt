use Rattle.std.proofs.Common.{rules, ◌≡◌, ◌+◌, ◌-◌, length, take, drop, arith, subst}
use Rattle.std.proofs.lemmas.List.{places}
use Rattle.delay_line.specs.Spans.{IsBetween, delay_at}
use Rattle.delay_line.proofs.Channels.{part_delay}
use Rattle.delay_line.proofs.spans.moving_end.Goals as goal

pub returns-then-are_between-clause-between : goal.returns-then-are_between-clause-between
returns-then-are_between-clause-between c k low high =
    let start = c.args.start in
    let delays = c.args.delays.now in
    let rest = take (length delays - start) (drop start delays) in
    let whole : length rest ≡ length delays - start = search (rules, places) in
    let frame : c.args.first + start + (k - start) ≡ c.args.first + k = omega arith in
    let is = c.are_between.ensures c.if-are_between.true (k - start) (omega (arith, whole, low, high)) in
    subst (λ d. IsBetween c.args.written (c.args.first + k) d c.args.near c.args.far) (part_delay start (length delays) delays k low high)
    (subst (λ f. IsBetween c.args.written f (delay_at rest (k - start)) c.args.near c.args.far) frame is)
