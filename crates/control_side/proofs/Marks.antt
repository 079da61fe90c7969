-- What holds of the nodes of sources.
use Rattle.std.proofs.Common.{ℕ, List, map, All, subst, arith}
use Rattle.std.proofs.lemmas.List.{get_or-map, length-map}
use Rattle.meaning.specs.declared.scheds.Play.{Play}

-- what holds of each source's node holds at each place
pub All-nodes : (P : ℕ → Type 0) (plays : List Play) → All P (map (λ (p : Play). p.id.0) plays) → All (λ (p : Play). P p.id.0) plays
All-nodes P plays each = λ k d l. subst P (get_or-map (λ (p : Play). p.id.0) plays k d d.id.0 l) (each k d.id.0 (let long = length-map plays (λ (p : Play). p.id.0) in omega arith))
