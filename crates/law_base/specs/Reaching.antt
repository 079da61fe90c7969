-- Reaching along arrows between the ends of a graph.
use Rattle.std.specs.Prelude.{ℕ, zero, suc, List, Bool, false, ◌&&◌, ◌||◌}
use Rattle.std.specs.List.{list_any}

-- whether a reaches b by one or more arrows, and by at most n
unfoldable pub reaches : {E : Type 0} → (E → E → Bool) → List E → ℕ → E → E → Bool
reaches arrow ends zero a b = false
reaches arrow ends (suc n) a b = arrow a b || list_any (λ c. arrow a c && reaches arrow ends n c b) ends
