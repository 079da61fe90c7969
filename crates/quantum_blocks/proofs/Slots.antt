-- The places of ends, and the lanes of their outputs.
use Rattle.std.proofs.Common.{ℕ, suc, ◌≡◌, ◌+◌, ◌*◌, ◌/◌, ◌<◌, ◌≤◌, Bool, true, false, refl, ◌∙◌, ap, ap₂, arith, subst}
use Rattle.std.specs.Prelude.{if◌then◌else◌}
use Rattle.std.proofs.Math.Nat.{mul-add-div, mul-le-mul_right}
use Rattle.wa_base.specs.declared.graph_names.End.{End}
use Rattle.conn_graph.specs.Ends.{same_end}
use Rattle.conn_graph.proofs.EndLaws.{same_end-refl}
use Rattle.quantum_blocks.specs.Blocks.{slot}

-- no two ends have one place
pub slot_is : (a b : End) → slot a ≡ slot b → a ≡ b
slot_is a b same =
    let parts = by_writers a.node.0 b.node.0 a.writer b.writer same in
    ap₂ (λ (n : ℕ) (t : Bool). let x : End = record { node = record { 0 = n }; writer = t } in x) parts.0 parts.1
  where
    by_writers : (m n : ℕ) (s t : Bool) → 2 * m + (if s then 0 else 1) ≡ 2 * n + (if t then 0 else 1) → (m ≡ n) × (s ≡ t)
    by_writers m n true true e = (omega arith, refl)
    by_writers m n true false e = absurd (omega arith)
    by_writers m n false true e = absurd (omega arith)
    by_writers m n false false e = (omega arith, refl)

pub slot_apart : (a b : End) → (a ≡ b → ⊥) → slot a ≡ slot b → ⊥
slot_apart a b apart same = apart (slot_is a b same)

pub not_same : (a b : End) → same_end a b ≡ false → a ≡ b → ⊥
not_same a b other same = let t : same_end a b ≡ true = subst (λ x. same_end a x ≡ true) same (same_end-refl a) in absurd cc

-- the places of the ends of so many nodes
pub slot_low : (e : End) (nodes : ℕ) → e.node.0 < nodes → slot e < 2 * nodes
slot_low e nodes l = by_writer e.writer
  where
    by_writer : (t : Bool) → 2 * e.node.0 + (if t then 0 else 1) < 2 * nodes
    by_writer true = omega arith
    by_writer false = omega arith

-- the node of a place
pub slot-half : (e : End) → slot e / 2 ≡ e.node.0
slot-half e = mul-add-div {m = 2} (omega arith) e.node.0 (if e.writer then 0 else 1) ∙ by_writer e.writer
  where
    by_writer : (t : Bool) → e.node.0 + (if t then 0 else 1) / 2 ≡ e.node.0
    by_writer true = omega arith
    by_writer false = omega arith

pub half_low : (k nodes : ℕ) → k < 2 * nodes → k / 2 < nodes
half_low k nodes l = omega arith

-- ---- lanes

-- output o of so many has its lanes among those of all
pub output_low : (o outs n : ℕ) → o < outs → o * n + n ≤ outs * n
output_low o outs n l = let next : suc o ≤ outs = omega arith in let more : suc o * n ≤ outs * n = mul-le-mul_right n next in omega (arith, more)

pub lane_low : (o outs n c : ℕ) → o < outs → c < n → o * n + c < outs * n
lane_low o outs n c l low = let more = output_low o outs n l in omega arith

pub lane_high : (o outs n c : ℕ) → outs ≤ o → outs * n ≤ o * n + c
lane_high o outs n c l = let more : outs * n ≤ o * n = mul-le-mul_right n l in omega arith

-- of one output the lanes are the channels
pub lane-only : (o n c : ℕ) → o < 1 → o * n + c ≡ c
lane-only o n c l = ap (λ k. k * n + c) (let none : o ≡ 0 = omega arith in none) ∙ omega arith
