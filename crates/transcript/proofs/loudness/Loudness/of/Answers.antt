use Rattle.std.proofs.Common.{◌≡◌, ◌∷◌, ◌+◌, ◌+ℤ◌, ℕ, ℤ, pos, max, suc, drop, get_or, to_z, of_z, FitsSigned, sym, ◌∙◌, ap, rules, arith}
use Rattle.std.proofs.Math.Seq.{drop-cons}
use Rattle.std.specs.Int.{w32, w64}
use Rattle.std.specs.Prelude.{unsigned_abs}
use Rattle.std.proofs.lemmas.Int.{ints, to_z-of_z}
use Rattle.transcript.specs.Loudness.{peak_of, sum_of}
use Rattle.transcript.proofs.loudness.Loudness.of.Goals as goal

max_moved : (a b c : ℕ) → max (max a b) c ≡ max b (max a c)
max_moved a b c = omega arith

sum_moved : (a b c : ℤ) → ((a +ℤ b) +ℤ c) ≡ (a +ℤ (b +ℤ c))
sum_moved a b c = omega (arith, ints)

pub loop-sample-preserved : goal.loop-sample-preserved
loop-sample-preserved c =
    let inv = c.loop-sample.invariant in
    let xs = c.args.samples.now in
    let i = c.loop-sample.sample-index in
    let x = get_or xs i (pos 0) in
    let sum = to_z w64 c.loop-sample.sum-bits in
    let rest = drop (i + 1) xs in
    let fits : FitsSigned w32 x = search rules in
    let same = to_z-of_z _ _ fits in
    let is : c.from-sum.result ≡ x = c.from-sum.ensures ∙ same in
    let size : c.unsigned_abs.result ≡ unsigned_abs x = c.unsigned_abs.ensures.value ∙ ap unsigned_abs same in
    let next : suc i ≡ i + 1 = omega arith in
    let left : drop i xs ≡ x ∷ rest = drop-cons xs i (pos 0) c.loop-sample-test.true ∙ ap (λ n. x ∷ drop n xs) next in
    let short = c.loop-sample-test.true in
    let low = inv.low in
    let high = inv.high in
    let few = c.requires in
    let added : to_z w64 (of_z w64 (to_z w64 c.loop-sample.sum-bits +ℤ to_z w64 (of_z w64 c.from-sum.result))) ≡ sum +ℤ x = omega (arith, ints) in
    record {
      peak = ap (λ p. max p (peak_of rest)) (c.max-peak.ensures ∙ ap (λ s. max s c.loop-sample.peak) size) ∙ max_moved (unsigned_abs x) c.loop-sample.peak (peak_of rest)
          ∙ ap (λ zs. max c.loop-sample.peak (peak_of zs)) (sym left) ∙ inv.peak;
      sum = ap (λ s. s +ℤ sum_of rest) added ∙ sum_moved sum x (sum_of rest) ∙ ap (λ zs. sum +ℤ sum_of zs) (sym left) ∙ inv.sum;
      low = omega (arith, ints, added);
      high = omega (arith, ints, added);
    }
