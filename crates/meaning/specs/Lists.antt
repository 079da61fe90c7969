-- Lists that the meaning speaks of.
use Rattle.std.specs.Prelude.{ℕ, zero, suc, ◌+◌, List, [], ◌∷◌}

-- items in order, and for how many more there is room
pub record Listed (T : Type 0) : Type 0 where
  pub items : List T
  pub room : ℕ

abbrev pub listed : {T : Type 0} → List T → Listed T
listed items = record { items = items; room = 0 }

-- what there is at so many moments from one on, the newest first
abbrev pub since : {T : Type 0} → (ℕ → T) → ℕ → ℕ → List T
since at first zero = []
since at first (suc n) = at (first + n) ∷ since at first n
