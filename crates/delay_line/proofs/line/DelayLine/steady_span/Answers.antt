use Rattle.std.proofs.Common.{ℕ, ◌≡◌, ◌+◌, ◌-◌, ◌*◌, ◌/◌, ◌<◌, ◌≤◌, ap, refl, sym, subst, ◌∙◌, arith}
use Rattle.delay_line.specs.Inside.{line_of}
use Rattle.delay_line.specs.Lines.{Line, written}
use Rattle.delay_line.specs.Runs.{IsSteadySpan}
use Rattle.delay_line.specs.Spans.{IsBetween, IsReached}
use Rattle.delay_line.proofs.Heard.{heard_in}
use Rattle.delay_line.proofs.Places.{within_blocks}
use Rattle.delay_line.proofs.Steady.{steady_between}
use Rattle.delay_line.proofs.line.DelayLine.steady_span.Goals as goal

pub returns : goal.returns
returns c =
    let inside = c.self.inside in
    let inv = c.self.invariant in
    let s = c.stretch-stretch.result in
    let stretch = c.stretch-stretch.ensures.stretch in
    let same = sym c.self.view_is in
    let d = c.args.delay in
    let first = c.args.first in
    let start = c.args.start in
    let back = c.distance-back.result in
    let reached : (k : ℕ) → k < inside.block → IsReached (line_of inside) (first + k) d =
    subst (λ (line : Line). (k : ℕ) → k < line.block → IsReached line (first + k) d) same c.requires.frames in
    let block : c.args.self.now.block ≡ inside.block = ap (λ (line : Line). line.block) same in
    let all : c.written.result ≡ written (line_of inside) = c.written.ensures.value ∙ ap written same in
    let born : d ≤ first + start = c.if-f-delay.false in
    let is : back ≡ written (line_of inside) - (first + start - d) - 1 = c.distance-back.ensures ∙ ap (λ w. w - (first + start - d) - 1) all in
    let parts = within_blocks back inside.block s.first s.end inv.block.0 stretch.low stretch.high in
    let near = parts.0 in
    let far = parts.1 in
    let here : IsBetween (written (line_of inside)) (first + start) d (s.first * inside.block) (s.end * inside.block) =
    record { born = born; low = subst (λ n. s.first * inside.block ≤ n) is near; high = subst (λ n. n < s.end * inside.block) is far } in
    let least = c.min.ensures in
    let begins = c.requires.start in
    subst (λ (line : Line). IsSteadySpan line first d start (record { start = start; end = start + c.min.result; count = s.count })) c.self.view_is (record {
      begins = refl;
      some = omega (arith, least, near, begins, block);
      within = omega (arith, least, begins, block);
      alike = λ k low high.
          let inside_block : k < inside.block = omega (arith, high, least, begins, block) in
          let few : k - start < written (line_of inside) - (first + start - d) - 1 + 1 - s.first * inside.block = omega (arith, low, high, least, is) in
          heard_in (line_of inside) inside.counts.capacity (first + k) d (back / inside.block) s
          inv.block.0 inv.counted inv.counts_reach stretch (reached k inside_block)
          (steady_between (written (line_of inside)) first start d (s.first * inside.block) (s.end * inside.block) k d here low few refl);
    })
