-- Delays whose writers have written nothing.
use Rattle.std.proofs.Common.{ℕ, ℤ, ◌≡◌, [], Option, refl, sym, ap, arith}
use Rattle.std.specs.Prelude.{unwrap_or}
use Rattle.node_table.specs.declared.rows.Keeps.{Keeps as NodeKeeps}
use Rattle.node_table.specs.declared.rows.Keeps.TheVariants.{Nothing, Heard, Written}
use Rattle.node_table.specs.declared.kinds.Kind.TheVariants.{Delay}
use Rattle.delay_line.specs.Delays.{Writer}
use Rattle.delay_bank.proofs.Quanta.{none_of}
use Rattle.delay_bank.specs.Kept.{DelayView, IsKept, IsOf, delay_for, first_delay}

-- a first delay keeps whatever was written: nothing was
pub fresh_kept : (q : ℕ) (found : Option DelayView) (longest time : ℤ) (capacity birth : ℕ) → found ≡ first_delay q (Delay longest time capacity) birth → (writer : Writer) → IsKept q found capacity birth birth writer
fresh_kept q found longest time capacity birth is writer = record {
  delay = record { birth = birth; time = birth; most = 1; line = record { capacity = capacity; block = q; blocks = 0; counts = []; channels = [] } };
  there = is;
  has = record {
    capacity = refl;
    block = refl;
    birth = refl;
    time = refl;
    long = omega arith;
    most = refl;
    keeps = record { counts = λ g kept. let early = kept.0 in absurd (omega arith); frames = λ g c kept low. let early = kept.0 in absurd (omega arith) };
  };
}

-- and is for quanta of as many frames as it was made for
pub fresh_of : (q : ℕ) (keeps : NodeKeeps) (birth : ℕ) → IsOf q (delay_for q keeps birth)
fresh_of q (Written frames) birth d is = sym (ap (λ o. (unwrap_or o d).line.block) is)
fresh_of q Heard birth d is = none_of q d is
fresh_of q Nothing birth d is = none_of q d is
