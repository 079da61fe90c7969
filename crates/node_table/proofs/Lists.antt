-- Lists of frames.
use Rattle.std.proofs.Common.{ℕ, add-one, List, ℤ, ◌≡◌, ◌+◌, zero, suc, ◌∷◌, ap, ap₂, ◌∙◌, arith}
use Rattle.node_table.specs.Frames.{heard, item, newest, BlockLaw}

pub heard-add : BlockLaw
heard-add block start m zero frames = ap (λ k. heard block start k frames) (let e : m + 0 ≡ m = omega arith in e)
heard-add block start m (suc n) frames =
    let next : m + suc n ≡ suc (m + n) = omega arith in
    let place : start + (m + n) ≡ start + m + n = omega arith in
    ap (λ k. heard block start k frames) next ∙ ap₂ (λ k rest. item block k ∷ rest) place (heard-add block start m n frames)

-- the newest frame of a block
pub newest-heard : (block : List ℤ) (start k : ℕ) (frames : List ℤ) → newest (heard block start (k + 1) frames) ≡ item block (start + k)
newest-heard block start k frames = ap (λ n. newest (heard block start n frames)) (add-one k)
