use Rattle.std.proofs.Common.{◌≡◌, ◌<◌, ℕ, length, subst, sym, arith}
use Rattle.circular_buffer.specs.Buffer.{Buffer}
use Rattle.delay_line.specs.Lines.{from_end}
use Rattle.delay_line.specs.Inside.{AreAlike}
use Rattle.delay_line.proofs.Ends.{alike_more}
use Rattle.delay_line.proofs.counts.Counts.push.Goals as goal

pub invariant_of-self : goal.invariant_of-self
invariant_of-self c =
    let old = c.self.inside.ring in
    let most : c.capacity-most.result ≡ old.capacity = c.capacity-most.ensures.capacity in
    let least = c.min-self-inside.ensures in
    let before : (i : ℕ) → i < c.alike_with-alike.result → i < length old.items → from_end old.items i 0 ≡ c.args.count =
    subst (λ (b : Buffer ℕ). (i : ℕ) → i < c.alike_with-alike.result → i < length b.items → from_end b.items i 0 ≡ c.args.count) (sym c.self.view_is) c.alike_with-alike.ensures.alike in
    let alike = alike_more old.capacity old.items c.args.count c.alike_with-alike.result c.min-self-inside.result before (omega (arith, most, least)) (omega (arith, most, least)) in
    subst (λ (ring : Buffer ℕ). AreAlike (record { ring = ring; latest = c.args.count; alike = c.min-self-inside.result })) (sym c.push_back.ensures.items)
    (record { within = omega (arith, most, least); alike = alike })
