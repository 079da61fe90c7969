-- Delays of which each keeps what the other does.
use Rattle.std.proofs.Common.{ℕ, Option}
use Rattle.delay_bank.specs.Kept.{DelayView, KeepSame, IsGrown}

pub same_refl : (q : ℕ) (d : Option DelayView) → KeepSame q d d
same_refl q d longest born now writer = (λ is. is, λ is. is)

pub same_after : (q : ℕ) (a b c : Option DelayView) → KeepSame q a b → KeepSame q b c → KeepSame q a c
same_after q a b c first second longest born now writer =
    let one = first longest born now writer in
    let two = second longest born now writer in
    (λ is. two.0 (one.0 is), λ is. one.1 (two.1 is))

-- ---- the same of delays that were made room for

pub grown_refl : (d : Option DelayView) → IsGrown d d
grown_refl d = record { still = λ q. same_refl q d; block = λ q is. is }

pub grown_after : (a b c : Option DelayView) → IsGrown a b → IsGrown b c → IsGrown a c
grown_after a b c first second = record {
  still = λ q. same_after q a b c (first.still q) (second.still q);
  block = λ q is. second.block q (first.block q is);
}
