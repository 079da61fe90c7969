-- Worked programs that are accepted, or have an error.
use Rattle.std.proofs.Common.{ℕ, zero, suc, ◌<◌, ◌≤◌, ◌≡◌, pos, List, [], ◌∷◌, refl, arith, inl, inr}
use Rattle.std.specs.Prelude.{slice_index}
use Rattle.node_table.specs.declared.code.Instr.{Instr}
use Rattle.node_table.specs.declared.code.Instr.TheVariants.{Input, Push, Load, Add, Skipz}
use Rattle.worklet.specs.declared.errors.ProgErr.TheVariants.{Uneven, BadCell, Underflow}
use Rattle.node_table.specs.Accepted.{IsAccepted}
use Rattle.worklet.specs.Errors.{HasHeight, IsError, IsFine}
use Rattle.node_table.specs.Instructions.{pops, HasCell, HasDivisor, instr_at, GoesOn, left}
use Rattle.worklet.proofs.Arriving.{height_first}

only : (P : ℕ → Type 0) → P 0 → (i : ℕ) → i < 1 → P i
only P first zero l = first
only P first (suc i) l = absurd (omega arith)

-- ---- `in` is accepted

abbrev alone : List Instr
alone = Input ∷ []

alone_follows : (i j : ℕ) → i < 1 → GoesOn alone i j → slice_index (0 ∷ 1 ∷ []) j ≡ left alone (0 ∷ 1 ∷ []) i
alone_follows zero zero l goes = let at = goes.1 in absurd (omega (arith, at))
alone_follows zero (suc zero) l goes = refl
alone_follows zero (suc (suc j)) l goes = let at = goes.1 in let none : goes.0 ≡ 0 = goes.2 in absurd (omega (arith, at, none))
alone_follows (suc i) j l goes = absurd (omega arith)

alone_inside : (i j : ℕ) → i < 1 → GoesOn alone i j → j ≤ 1
alone_inside zero j l goes = let at = goes.1 in let none : goes.0 ≡ 0 = goes.2 in omega (arith, at, none)
alone_inside (suc i) j l goes = absurd (omega arith)

alone_reached : (j : ℕ) → 0 < j → j ≤ 1 → (i : ℕ) × (i < j) × GoesOn alone i j
alone_reached zero some l = absurd (omega arith)
alone_reached (suc zero) some l = (0, omega arith, (0, refl, refl))
alone_reached (suc (suc j)) some l = absurd (omega arith)

input_is_accepted : IsAccepted alone
input_is_accepted = record {
  some = omega arith;
  most = omega arith;
  heights = 0 ∷ 1 ∷ [];
  fit = record {
    count = refl;
    start = refl;
    enough = only (λ i. pops (instr_at alone i) ≤ slice_index (0 ∷ 1 ∷ []) i) (omega arith);
    inside = alone_inside;
    follows = alone_follows;
    low = only (λ i. left alone (0 ∷ 1 ∷ []) i ≤ 32) (omega arith);
    cells = only (λ i. HasCell (instr_at alone i)) tt;
    divisors = only (λ i. HasDivisor (instr_at alone i)) tt;
    reached = alone_reached;
    end = refl;
  };
}

-- ---- `add` lacks a value

add_alone : IsError (Add ∷ []) (Underflow 0)
add_alone = (
  omega arith,
  record {
    long = record { some = omega arith; most = omega arith };
    there = omega arith;
    heights = [];
    before = record { count = refl; height = λ i l. absurd (omega arith); fine = λ i l. absurd (omega arith) };
    fault = (
      0,
      height_first (Add ∷ []) [] 0 refl,
      (
        record {
          cell = tt;
          divisor = tt;
          inside = λ j goes. let at = goes.1 in let none : goes.0 ≡ 0 = goes.2 in omega (arith, at, none);
        },
        omega arith,
      ),
    );
  },
)

-- ---- `in`, `load 16`, `add`: there is no cell 16

abbrev far_cell : List Instr
far_cell = Input ∷ Load 16 ∷ Add ∷ []

far_height : (i : ℕ) → i < 1 → HasHeight far_cell (0 ∷ []) i (slice_index (0 ∷ []) i)
far_height zero l = height_first far_cell (0 ∷ []) 0 refl
far_height (suc i) l = absurd (omega arith)

far_fine : (i : ℕ) → i < 1 → IsFine far_cell i (slice_index (0 ∷ []) i)
far_fine zero l = record {
  cell = tt;
  divisor = tt;
  inside = λ j goes. let at = goes.1 in let none : goes.0 ≡ 0 = goes.2 in omega (arith, at, none);
  enough = omega arith;
  low = omega arith;
}
far_fine (suc i) l = absurd (omega arith)

far_even : (i : ℕ) → i < 1 → GoesOn far_cell i 1 → left far_cell (0 ∷ []) i ≡ 1
far_even zero l goes = refl
far_even (suc i) l goes = absurd (omega arith)

load_16 : IsError far_cell (BadCell 1)
load_16 = (
  omega arith,
  record {
    long = record { some = omega arith; most = omega arith };
    there = omega arith;
    heights = 0 ∷ [];
    before = record { count = refl; height = far_height; fine = far_fine };
    fault = (
      1,
      record { start = λ none. absurd (omega (arith, none)); reached = λ l. (0, omega arith, (0, refl, refl)); even = far_even },
      λ l. absurd (omega (arith, l)),
    );
  },
)

-- ---- `in`, `skipz 1`, `push 5`: the end is reached at the heights 0 and 1

abbrev two_ways : List Instr
two_ways = Input ∷ Skipz 1 ∷ Push (pos 5) ∷ []

abbrev two_heights : List ℕ
two_heights = 0 ∷ 1 ∷ 0 ∷ []

two_even : (i : ℕ) → i < 1 → GoesOn two_ways i 1 → left two_ways two_heights i ≡ 1
two_even zero l goes = refl
two_even (suc i) l goes = absurd (omega arith)

two_even_later : (i : ℕ) → i < 2 → GoesOn two_ways i 2 → left two_ways two_heights i ≡ 0
two_even_later zero l goes = let at = goes.1 in let none : goes.0 ≡ 0 = goes.2 in absurd (omega (arith, at, none))
two_even_later (suc zero) l goes = refl
two_even_later (suc (suc i)) l goes = absurd (omega arith)

two_height : (i : ℕ) → i < 3 → HasHeight two_ways two_heights i (slice_index two_heights i)
two_height zero l = height_first two_ways two_heights 0 refl
two_height (suc zero) l =
    record { start = λ none. absurd (omega (arith, none)); reached = λ some. (0, omega arith, (0, refl, refl)); even = two_even }
two_height (suc (suc zero)) l =
    record { start = λ none. absurd (omega (arith, none)); reached = λ some. (1, omega arith, (0, refl, inl refl)); even = two_even_later }
two_height (suc (suc (suc i))) l = absurd (omega arith)

two_fine : (i : ℕ) → i < 3 → IsFine two_ways i (slice_index two_heights i)
two_fine zero l = record {
  cell = tt;
  divisor = tt;
  inside = λ j goes. let at = goes.1 in let none : goes.0 ≡ 0 = goes.2 in omega (arith, at, none);
  enough = omega arith;
  low = omega arith;
}
two_fine (suc zero) l = record {
  cell = tt;
  divisor = tt;
  inside = λ j goes. let at = goes.1 in elim goes.2 [ inl none ↦ omega (arith, at, none) | inr one ↦ omega (arith, at, one) ];
  enough = omega arith;
  low = omega arith;
}
two_fine (suc (suc zero)) l = record {
  cell = tt;
  divisor = tt;
  inside = λ j goes. let at = goes.1 in let none : goes.0 ≡ 0 = goes.2 in omega (arith, at, none);
  enough = omega arith;
  low = omega arith;
}
two_fine (suc (suc (suc i))) l = absurd (omega arith)

skipz_over_push : IsError two_ways (Uneven 3)
skipz_over_push = record {
  long = record { some = omega arith; most = omega arith };
  there = omega arith;
  heights = two_heights;
  before = record { count = refl; height = two_height; fine = two_fine };
  fault = (1, 2, omega arith, omega arith, (1, refl, inr refl), (0, refl, refl), λ same. absurd (omega (arith, same)));
}
