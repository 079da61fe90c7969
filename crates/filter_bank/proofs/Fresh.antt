-- Nodes that have heard nothing.
use Rattle.std.proofs.Common.{ℕ, ℤ, ◌≡◌, ◌-◌, [], length, Option, None, refl, arith, subst}
use Rattle.node_table.specs.declared.equation.Equation.{Equation}
use Rattle.node_table.specs.declared.equation.Equation.TheVariants as equation
use Rattle.convolve.proofs.Fronts.{born_recalls}
use Rattle.shaper_iir.proofs.Recalling.{born_stands}
use Rattle.node_table.specs.declared.kinds.Kind.{Kind}
use Rattle.node_table.specs.declared.kinds.Kind.TheVariants.{Causal}
use Rattle.meaning.specs.Lists.{since}
use Rattle.filter_bank.specs.Heard.{HeardView, IsHeard, HasOutputs, first_heard}
use Rattle.filter_bank.specs.States.{stands, first_state}

-- a node of another kind remembers nothing
pub none_for : (kind : Kind) (birth : ℕ) → ((equation : Equation) → kind ≡ Causal equation → ⊥) → (let none : Option HeardView = None in none) ≡ first_heard kind birth
none_for (Causal equation) birth not = absurd (not equation refl)
none_for other birth not = refl

-- a first state stands for no frames, and goes by its equation
first_stands : (e : Equation) (c : ℕ) → stands (first_state e) c []
first_stands (equation.Filter forward back) c = born_stands forward back
first_stands (equation.Convolution response) c = born_recalls (length response)
first_stands (equation.Processor program) c = refl

first_outputs : (e : Equation) → HasOutputs (first_state e) e
first_outputs (equation.Filter forward back) frames = refl
first_outputs (equation.Convolution response) frames = refl
first_outputs (equation.Processor program) frames = refl

pub fresh_heard : (found : Option HeardView) (e : Equation) (birth : ℕ) (at : ℕ → ℕ → ℤ) → found ≡ first_heard (Causal e) birth → IsHeard found e birth birth at
fresh_heard found e birth at is = record {
  causal = record { birth = birth; time = birth; state = first_state e };
  there = is;
  outputs = first_outputs e;
  birth = refl;
  time = refl;
  heard = λ c. subst (λ k. stands (first_state e) c (since (λ g. at g c) birth k)) (let none : 0 ≡ birth - birth = omega arith in none) (first_stands e c);
}
