-- Frames with one delay, one after another.
use Rattle.std.proofs.Common.{ℕ, ◌≡◌, ◌+◌, ◌-◌, ◌<◌, ◌≤◌, sym, subst, arith}
use Rattle.delay_line.specs.Spans.{IsBetween}

pub steady_between : (written first start d near far k e : ℕ) → IsBetween written (first + start) d near far → start ≤ k → k - start < written - (first + start - d) - 1 + 1 - near → e ≡ d
    → IsBetween written (first + k) e near far
steady_between written first start d near far k e between low high same =
    let born = between.born in
    let least = between.low in
    let most = between.high in
    subst (λ n. IsBetween written (first + k) n near far) (sym same) (record {
      born = omega (arith, born, low);
      low = omega (arith, born, least, low, high);
      high = omega (arith, born, most, low);
    })
