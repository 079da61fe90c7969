use Rattle.std.proofs.Common.{ℕ, zero, suc, ◌≤◌, [], ◌∷◌, slice_index_or, arith}
use Rattle.graph_tests.proofs.filters.begin_quantum.Goals as goal

few : (n : ℕ) → n ≤ 2 → (k : ℕ) → slice_index_or (1 ∷ 1 ∷ 1 ∷ n ∷ 1 ∷ 1 ∷ 1 ∷ 1 ∷ []) k 1 ≤ 32
few n l zero = omega arith
few n l (suc zero) = omega arith
few n l (suc (suc zero)) = omega arith
few n l (suc (suc (suc zero))) = omega arith
few n l (suc (suc (suc (suc zero)))) = omega arith
few n l (suc (suc (suc (suc (suc zero))))) = omega arith
few n l (suc (suc (suc (suc (suc (suc zero)))))) = omega arith
few n l (suc (suc (suc (suc (suc (suc (suc zero))))))) = omega arith
few n l (suc (suc (suc (suc (suc (suc (suc (suc k)))))))) = omega arith

pub grow-requires : goal.grow-requires
grow-requires c = λ k below. few c.args.channels c.requires.channels k
