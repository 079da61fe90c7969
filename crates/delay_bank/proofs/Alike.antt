-- A delay keeps what every writer wrote that agrees with its own.
use Rattle.std.proofs.Common.{ℕ, ◌≡◌, ◌+◌, ◌-◌, ◌*◌, ◌/◌, ◌<◌, ◌≤◌, Option, sym, ◌∙◌, ap, arith, subst, mul_comm}
use Rattle.law_base.proofs.Rows.{quantum_low, row_in}
use Rattle.mix_rules.specs.Counts.{greatest}
use Rattle.delay_line.specs.Delays.{Writer}
use Rattle.delay_line.specs.Lines.{IsKept as IsLineKept}
use Rattle.meaning.proofs.Seeing.{same_since}
use Rattle.delay_bank.specs.Kept.{DelayView, IsKept}

-- the frames and the quanta are those from birth up to the frame before which it has written
module _ (q : ℕ) (some : 0 < q) (found : Option DelayView) (longest born now : ℕ) (writer writer' : Writer) (frames : (g c : ℕ) → born ≤ g → g < now → writer.frames g c ≡ writer'.frames g c)
    (counts : (k : ℕ) → born / q ≤ k → born + q * (k - born / q) < now → writer.counts k ≡ writer'.counts k) (is : IsKept q found longest born now writer) where
  same_count : (g : ℕ) → IsLineKept is.delay.line g → writer.counts (born / q + g / is.delay.line.block) ≡ writer'.counts (born / q + g / is.delay.line.block)
  same_count g kept = counts (born / q + g / is.delay.line.block) (omega arith) (subst (λ b. g < is.delay.line.blocks * b → born + q * (born / q + g / b - born / q) < now) (sym is.has.block) near kept.0)
    where
      near : g < is.delay.line.blocks * q → born + q * (born / q + g / q - born / q) < now
      near early = let long = is.has.long in let part = quantum_low q g in let quanta : q * (born / q + g / q - born / q) ≡ q * (g / q) = ap (λ n. q * n) (omega arith) in omega (arith, long, part, early, quanta)

  within : (g : ℕ) → IsLineKept is.delay.line g → born + g < now
  within g kept = let long = is.has.long in let early : g < is.delay.line.blocks * q = subst (λ b. g < is.delay.line.blocks * b) is.has.block kept.0 in omega (arith, long, early)

  early : (k : ℕ) → born / q ≤ k → k < born / q + is.delay.line.blocks → born + q * (k - born / q) < now
  early k low high =
      let long = is.has.long in
      let ends = row_in q (k - born / q) is.delay.line.blocks (omega (arith, low, high)) in
      let begins = mul_comm q (k - born / q) in
      omega (arith, long, ends, begins, some)

  pub kept_like : IsKept q found longest born now writer'
  kept_like = record {
    delay = is.delay;
    there = is.there;
    has = record {
      capacity = is.has.capacity;
      block = is.has.block;
      birth = is.has.birth;
      time = is.has.time;
      long = is.has.long;
      most = is.has.most ∙ ap greatest (same_since writer.counts writer'.counts (born / q) is.delay.line.blocks (λ k low high. counts k low (early k low high)));
      keeps = record {
        counts = λ g kept. is.has.keeps.counts g kept ∙ same_count g kept;
        frames = λ g c kept low. is.has.keeps.frames g c kept (subst (λ n. c < n) (sym (same_count g kept)) low) ∙ frames (born + g) c (omega arith) (within g kept);
      };
    };
  }
