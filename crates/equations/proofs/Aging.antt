-- A node with a history, by the world that is in force.
use Rattle.std.proofs.Common.{ℕ, ℤ, ◌≡◌, ◌+◌, ◌-◌, ◌/◌, ◌<◌, ◌≤◌, length, List, Bool, true, Option, Some, refl, ap, subst, arith}
use Rattle.node_table.specs.Nodes.{attrs_at, kind_at}
use Rattle.node_table.specs.declared.equation.Equation.{Equation}
use Rattle.node_table.specs.declared.kinds.Kind.{Kind}
use Rattle.node_table.specs.declared.kinds.Kind.TheVariants.{Shaper, Causal}
use Rattle.node_table.specs.declared.nodes.Attrs.{Attrs}
use Rattle.meaning.specs.World.{node_at, kind_of}
use Rattle.explain.specs.Facts.{has_history}
use Rattle.explain.specs.Needs.{history_needs}
use Rattle.derivations.specs.declared.places.Context.{Context}
use Rattle.derivations.specs.declared.tape.Stretch.{Stretch}
use Rattle.derivations.specs.Contexts.{tape_in, world_of, HasFrame}
use Rattle.derivations.specs.Stretches.{IsInForce}
use Rattle.derivations.proofs.Staying.{born_by}
use Rattle.equations.specs.declared.histories.Heard.{Heard}
use Rattle.equations.specs.Given.{IsGiven, meaning_of, AllKnown}
use Rattle.equations.specs.Histories.{HasPast, IsRecalled}
use Rattle.equations.proofs.InForce.{attrs, kind}

-- no other node has a history
pub no_other : (k : Kind) → ((curve : Option (List ℤ)) (was_set : Bool) → k ≡ Shaper curve was_set → ⊥) → ((equation : Equation) → k ≡ Causal equation → ⊥) → has_history k ≡ true → ⊥
no_other (Shaper curve was_set) shaper causal is = shaper curve was_set refl
no_other (Causal equation) shaper causal is = causal equation refl
no_other other shaper causal is = absurd cc

-- its birth and its age
module _ (x : Context) (given : IsGiven x) (f n : ℕ) (short : HasFrame x f) (there : n < length (world_of x f).nodes) (s : Stretch) (force : IsInForce (tape_in x) (f / x.quantum) s) (a : Attrs) (found : attrs_at s.piece.world.nodes n ≡ Some a) where
  pub birth_is : (node_at (world_of x f) n).attrs.birth ≡ a.birth
  birth_is = ap (λ (b : Attrs). b.birth) (attrs x given (f / x.quantum) s force n a there found)

  pub born_low : a.birth ≤ f
  born_low = subst (λ b. b ≤ f) birth_is (born_by x.quantum given.ready.some (tape_in x) given.ready.regular f n short there)

  pub birth_and : f ≡ (node_at (world_of x f) n).attrs.birth + (f - a.birth)
  birth_and = let low = born_low in let same = birth_is in omega (arith, low, same)

-- what is known of its history
module _ (x : Context) (given : IsGiven x) (heard : Heard) (past : HasPast x heard) (s : Stretch) (force : IsInForce (tape_in x) (heard.frame / x.quantum) s) where
  pub kind_now : (k : Kind) → kind_at s.piece.world.nodes heard.node.0 ≡ Some k → kind_of (world_of x heard.frame) heard.node.0 ≡ k
  kind_now k found = kind x given (heard.frame / x.quantum) s force heard.node.0 k past.node found

  pub recalled_now : AllKnown x (history_needs x.quantum (tape_in x) (meaning_of x) heard.frame heard.node.0 heard.channel) → (a : Attrs) → attrs_at s.piece.world.nodes heard.node.0 ≡ Some a → IsRecalled x heard (heard.frame - a.birth)
  recalled_now known a found = record { past = past; born = birth_and x given heard.frame heard.node.0 past.there past.node s force a found; known = known }
