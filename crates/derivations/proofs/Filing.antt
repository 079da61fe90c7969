-- What stands at a place of a list.
use Rattle.std.proofs.Common.{ℕ, zero, suc, ◌≡◌, ◌<◌, length, List, [], ◌∷◌, Some, slice_index_or, inl, inr, refl, arith}
use Rattle.std.specs.Prelude.{slice_get}
use Rattle.law_base.specs.Members.{IsIn}
use Rattle.conn_graph.specs.declared.edges.Edge.{Edge}
use Rattle.conn_graph.specs.declared.edges.Target.TheVariants.{Input}

-- stands where there is no connection
abbrev pub no_edge : Edge
no_edge = record { from = record { 0 = 0 }; output = 0; to = Input (record { 0 = 0 }) 0 }

pub IsIn-get_or : {X : Type 0} (xs : List X) (i : ℕ) (d : X) → i < length xs → IsIn (slice_index_or xs i d) xs
IsIn-get_or [] i d l = absurd (omega arith)
IsIn-get_or (x ∷ xs) zero d l = inl refl
IsIn-get_or (x ∷ xs) (suc i) d l = inr (IsIn-get_or xs i d (omega arith))

pub got_at : {X : Type 0} (xs : List X) (i : ℕ) (x d : X) → slice_get xs i ≡ Some x → slice_index_or xs i d ≡ x
got_at [] i x d h = absurd cc
got_at (y ∷ ys) zero x d h = cc
got_at (y ∷ ys) (suc i) x d h = got_at ys i x d h

pub got_low : {X : Type 0} (xs : List X) (i : ℕ) (x : X) → slice_get xs i ≡ Some x → i < length xs
got_low [] i x h = absurd cc
got_low (y ∷ ys) zero x h = omega arith
got_low (y ∷ ys) (suc i) x h = let l = got_low ys i x h in omega (arith, l)
