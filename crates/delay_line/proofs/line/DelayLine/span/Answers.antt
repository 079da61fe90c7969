use Rattle.std.proofs.Common.{ℕ, ◌≡◌, ◌+◌, ◌*◌, ◌/◌, ◌<◌, length, ap, refl, sym, subst, ◌∙◌, arith}
use Rattle.delay_line.specs.Inside.{line_of}
use Rattle.delay_line.specs.Lines.{Line, written}
use Rattle.delay_line.specs.Spans.{IsSpan, IsBetween, IsReached, delay_at}
use Rattle.delay_line.proofs.Heard.{heard_in}
use Rattle.delay_line.proofs.line.DelayLine.span.Goals as goal

pub returns : goal.returns
returns c =
    let inside = c.self.inside in
    let inv = c.self.invariant in
    let s = c.stretch-stretch.result in
    let same = sym c.self.view_is in
    let delays = c.args.delays.now in
    let reached : (k : ℕ) → k < inside.block → IsReached (line_of inside) (c.args.first + k) (delay_at delays k) =
    subst (λ (line : Line). (k : ℕ) → k < line.block → IsReached line (c.args.first + k) (delay_at delays k)) same c.requires.frames in
    let long : length delays ≡ inside.block = c.requires.delays ∙ ap (λ (line : Line). line.block) same in
    let all : c.written-written.result ≡ written (line_of inside) = c.written-written.ensures.value ∙ ap written same in
    subst (λ (line : Line). IsSpan line c.args.first delays c.args.start (record { start = c.args.start; end = c.moving_end.result; count = s.count })) c.self.view_is (record {
      begins = refl;
      some = c.moving_end.ensures.order.0;
      within = c.moving_end.ensures.order.1;
      alike = λ k low high.
          let within : k < inside.block = omega (arith, high, c.moving_end.ensures.order, long) in
          heard_in (line_of inside) inside.counts.capacity (c.args.first + k) (delay_at delays k) (c.distance-back.result / inside.block) s
          inv.block.0 inv.counted inv.counts_reach c.stretch-stretch.ensures.stretch (reached k within)
          (subst (λ w. IsBetween w (c.args.first + k) (delay_at delays k) (s.first * inside.block) (s.end * inside.block)) all (c.moving_end.ensures.between k low high));
    })
