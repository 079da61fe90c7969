-- What a node needs that is made of its input and of its parameter at the same frame.
use Rattle.std.proofs.Common.{ℕ, ℤ, ◌≡◌, List, [], ◌∷◌, ◌++◌, Bool, Option, refl, sym, ◌∙◌, ap}
use Rattle.std.specs.Prelude.{if◌then◌else◌}
use Rattle.wa_base.specs.declared.graph_names.End.{End}
use Rattle.node_table.specs.Kinds.{row}
use Rattle.node_table.specs.declared.equation.Equation.{Equation}
use Rattle.node_table.specs.declared.kinds.Kind.{Kind}
use Rattle.node_table.specs.declared.kinds.Kind.TheVariants.{Constant, Buffer, Delay, Shaper, Causal}
use Rattle.meaning.specs.declared.world.World.{World}
use Rattle.meaning.specs.Values.{taken_from}
use Rattle.explain.specs.declared.facts.Key.TheVariants.{Inlet, Hist}
use Rattle.explain.specs.Accounts.{Account}
use Rattle.explain.specs.Needs.{level_needs, play_needs, row_needs, output_by_kind}
use Rattle.derivations.specs.Heard.{IsEffect}

-- its parameter, and then a channel of its input
pub effect_needs : (q : ℕ) (tape : List World) (a : Account) (f : ℕ) (e : End) (o c : ℕ) (kind : Kind) → IsEffect kind
    → level_needs q tape a f e.node (row kind).param ++ Inlet f e (taken_from kind o c).0 (taken_from kind o c).1 ∷ [] ≡ output_by_kind q tape a f e o c kind
effect_needs q tape a f e o c kind effect =
    sym (ap (λ keeps. row_needs q tape a f e o c keeps (row kind).plays kind) effect.keeps
    ∙ ap (λ plays. play_needs q tape a f e o c plays kind) effect.plays
    ∙ ap (λ t. if t then Hist f e.node c ∷ [] else level_needs q tape a f e.node (row kind).param ++ Inlet f e (taken_from kind o c).0 (taken_from kind o c).1 ∷ []) effect.history)

-- all kinds are such but for these
pub is_effect : (k : Kind) → ((offset : ℤ) → k ≡ Constant offset → ⊥) → ((rate : ℕ) → k ≡ Buffer rate → ⊥) → ((longest time : ℤ) (capacity : ℕ) → k ≡ Delay longest time capacity → ⊥)
    → ((curve : Option (List ℤ)) (was_set : Bool) → k ≡ Shaper curve was_set → ⊥) → ((equation : Equation) → k ≡ Causal equation → ⊥) → IsEffect k
is_effect (Constant offset) constant buffer delay shaper causal = absurd (constant offset refl)
is_effect (Buffer rate) constant buffer delay shaper causal = absurd (buffer rate refl)
is_effect (Delay longest time capacity) constant buffer delay shaper causal = absurd (delay longest time capacity refl)
is_effect (Shaper curve was_set) constant buffer delay shaper causal = absurd (shaper curve was_set refl)
is_effect (Causal equation) constant buffer delay shaper causal = absurd (causal equation refl)
is_effect other constant buffer delay shaper causal = record { keeps = refl; plays = refl; history = refl }
