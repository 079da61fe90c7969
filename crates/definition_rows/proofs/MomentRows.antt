-- What other rows go by without showing it: when a count of faults rose, and the moment at which an edit counts.
use Rattle.std.proofs.Common.{◌≡◌, inl, inr, refl, arith}
use Rattle.std.specs.Prelude.{pos, neg_ℤ}
use Rattle.io_edge.specs.Faults.{Rose}
use Rattle.param_events.specs.Edits.{moment}

-- a count that stays tells of no fault, and one that rises by 1 of one
still : Rose 5 5 → ⊥
still (inl less) = omega arith
still (inr top) = omega arith

risen : Rose 5 6
risen = inl (omega arith)

-- a time before now stands for now, and so does one below 0
moments : (moment 5 (neg_ℤ (pos 7)) ≡ 5) × (moment 5 (pos 3) ≡ 5) × (moment 5 (pos 9) ≡ 9)
moments = (refl, refl, refl)
