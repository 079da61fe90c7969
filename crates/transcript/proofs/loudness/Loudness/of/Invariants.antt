use Rattle.std.proofs.Common.{◌≡◌, ◌*◌, max, drop, ℤ, pos, neg_ℤ, ◌+ℤ◌, ◌≤ℤ◌}
use Rattle.transcript.specs.Loudness.{peak_of, sum_of}
use Rattle.transcript.proofs.loudness.Loudness.of.Given as goal

abbrev pub invariant-loop-sample : goal.invariant-loop-sample
invariant-loop-sample l = record {
  peak : max l.peak (peak_of (drop l.sample-index l.samples)) ≡ peak_of l.samples;
  sum : l.sum +ℤ sum_of (drop l.sample-index l.samples) ≡ sum_of l.samples;
  low : neg_ℤ (pos (2147483648 * l.sample-index)) ≤ℤ l.sum;
  high : l.sum ≤ℤ pos (2147483648 * l.sample-index);
}
