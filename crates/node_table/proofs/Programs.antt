-- Programs that push Fixes put out Fixes, where they hear Fixes.
use Rattle.std.proofs.Common.{ℕ, zero, suc, ℤ, pos, negsuc, neg_ℤ, ◌+ℤ◌, ◌-ℤ◌, ◌*ℤ◌, ◌^◌, List, [], ◌∷◌, length, set, replicate, All, Bool, true, false, Option, Some, None, arith}
use Rattle.std.proofs.lemmas.Int.{ints}
use Rattle.std.proofs.lemmas.List.Elements.{All-head, All-tail}
use Rattle.std.specs.Prelude.{if◌then◌else◌, nat_lt, nat_le, int_lt, IfSome, option_and_then, unwrap_or}
use Rattle.std.specs.Int.{int_min, int_max}
use Rattle.wa_base.specs.Numbers.{IsFix, sat, rnd, scale}
use Rattle.node_table.specs.Frames.{item}
use Rattle.node_table.specs.Instructions.{HasFixValue}
use Rattle.node_table.specs.Machine.{Machine, Frame, of_two, of_one, swapped, effect, finish, run, frame_of, played, cells_after, program_value}
use Rattle.node_table.specs.declared.code.Instr.{Instr}
use Rattle.node_table.specs.declared.code.Instr.TheVariants.{Input, Push, Load, Store, Add, Sub, Min, Max, Mul, Neg, Div, Dup, Swap, Discard, Skip, Skipz}

-- all of a list are Fixes, whatever the place
abbrev pub AreFixesAt : List ℤ → Type 0
AreFixesAt xs = (i : ℕ) → IsFix (item xs i)

zero_fix : IsFix (pos 0)
zero_fix = omega arith

sat_fix : (x : ℤ) → IsFix (sat x)
sat_fix (pos n) = omega (arith, ints)
sat_fix (negsuc n) = omega (arith, ints)

either_fix : (b : Bool) (x y : ℤ) → IsFix x → IsFix y → IsFix (if b then x else y)
either_fix true x y left right = left
either_fix false x y left right = right

cons_at : (x : ℤ) (xs : List ℤ) → IsFix x → AreFixesAt xs → AreFixesAt (x ∷ xs)
cons_at x xs first rest zero = first
cons_at x xs first rest (suc i) = rest i

zeros_at : (n : ℕ) → AreFixesAt (replicate n (pos 0))
zeros_at zero i = zero_fix
zeros_at (suc n) zero = zero_fix
zeros_at (suc n) (suc i) = zeros_at n i

set_at : (xs : List ℤ) (k : ℕ) (x : ℤ) → AreFixesAt xs → IsFix x → AreFixesAt (set xs k x)
set_at [] k x at is i = zero_fix
set_at (y ∷ ys) zero x at is zero = is
set_at (y ∷ ys) zero x at is (suc i) = at (suc i)
set_at (y ∷ ys) (suc k) x at is zero = at zero
set_at (y ∷ ys) (suc k) x at is (suc i) = set_at ys k x (λ j. at (suc j)) is i

-- ---- the machine

-- what is on the stack, and in the cells, are Fixes
record HoldsFixes (m : Machine) : Type 0 where
  stack : AreFixesAt m.stack
  cells : AreFixesAt m.cells

record GivesFixes (frame : Frame) : Type 0 where
  output : IsFix frame.output
  cells : AreFixesAt frame.cells

if_some : (b : Bool) (m : Option Machine) → IfSome m HoldsFixes → IfSome (if b then m else None) HoldsFixes
if_some true m is = is
if_some false m is = tt

two_fix : (f : ℤ → ℤ → ℤ) → ((a b : ℤ) → IsFix a → IsFix b → IsFix (f a b)) → (stack cells : List ℤ) → AreFixesAt stack → AreFixesAt cells → IfSome (of_two f stack cells) HoldsFixes
two_fix f each [] cells at held = tt
two_fix f each (b ∷ []) cells at held = tt
two_fix f each (b ∷ (a ∷ rest)) cells at held = record { stack = cons_at (f a b) rest (each a b (at 1) (at 0)) (λ i. at (suc (suc i))); cells = held }

one_fix : (f : ℤ → List ℤ → Machine) → ((a : ℤ) (rest : List ℤ) → IsFix a → AreFixesAt rest → HoldsFixes (f a rest)) → (stack : List ℤ) → AreFixesAt stack → IfSome (of_one f stack) HoldsFixes
one_fix f each [] at = tt
one_fix f each (a ∷ rest) at = each a rest (at 0) (λ i. at (suc i))

swapped_fix : (stack cells : List ℤ) → AreFixesAt stack → AreFixesAt cells → IfSome (swapped stack cells) HoldsFixes
swapped_fix [] cells at held = tt
swapped_fix (b ∷ []) cells at held = tt
swapped_fix (b ∷ (a ∷ rest)) cells at held = record { stack = cons_at a (b ∷ rest) (at 1) (cons_at b rest (at 0) (λ i. at (suc (suc i)))); cells = held }

effect_fix : (instr : Instr) (x : ℤ) (stack cells : List ℤ) → HasFixValue instr → IsFix x → AreFixesAt stack → AreFixesAt cells → IfSome (effect instr x stack cells) HoldsFixes
effect_fix Input x stack cells told is at held = record { stack = cons_at x stack is at; cells = held }
effect_fix (Push v) x stack cells told is at held = record { stack = cons_at v stack told at; cells = held }
effect_fix (Load k) x stack cells told is at held = if_some (nat_lt k (length cells)) _ (record { stack = cons_at (item cells k) stack (held k) at; cells = held })
effect_fix (Store k) x stack cells told is at held = if_some (nat_lt k (length cells)) _ (one_fix _ (λ a rest fix left. record { stack = left; cells = set_at cells k a held fix }) stack at)
effect_fix Add x stack cells told is at held = two_fix _ (λ a b left right. sat_fix (a +ℤ b)) stack cells at held
effect_fix Sub x stack cells told is at held = two_fix _ (λ a b left right. sat_fix (a -ℤ b)) stack cells at held
effect_fix Min x stack cells told is at held = two_fix int_min (λ a b left right. either_fix (int_lt b a) b a right left) stack cells at held
effect_fix Max x stack cells told is at held = two_fix int_max (λ a b left right. either_fix (int_lt b a) a b left right) stack cells at held
effect_fix Mul x stack cells told is at held = two_fix scale (λ a b left right. sat_fix (rnd (a *ℤ b) (pos (2 ^ 24)))) stack cells at held
effect_fix Neg x stack cells told is at held = one_fix _ (λ a rest fix left. record { stack = cons_at (sat (neg_ℤ a)) rest (sat_fix (neg_ℤ a)) left; cells = held }) stack at
effect_fix (Div d) x stack cells told is at held = if_some (nat_le 1 d) _ (one_fix _ (λ a rest fix left. record { stack = cons_at (sat (rnd a (pos d))) rest (sat_fix (rnd a (pos d))) left; cells = held }) stack at)
effect_fix Dup x stack cells told is at held = one_fix _ (λ a rest fix left. record { stack = cons_at a (a ∷ rest) fix (cons_at a rest fix left); cells = held }) stack at
effect_fix Swap x stack cells told is at held = swapped_fix stack cells at held
effect_fix Discard x stack cells told is at held = one_fix _ (λ a rest fix left. record { stack = left; cells = held }) stack at
effect_fix (Skip k) x stack cells told is at held = record { stack = at; cells = held }
effect_fix (Skipz k) x stack cells told is at held = one_fix _ (λ a rest fix left. record { stack = left; cells = held }) stack at

finish_fix : (stack cells : List ℤ) → AreFixesAt stack → AreFixesAt cells → IfSome (finish stack cells) GivesFixes
finish_fix [] cells at held = tt
finish_fix (y ∷ []) cells at held = record { output = at 0; cells = held }
finish_fix (y ∷ (z ∷ rest)) cells at held = tt

then_fix : (m : Option Machine) (next : Machine → Option Frame) → IfSome m HoldsFixes → ((m : Machine) → HoldsFixes m → IfSome (next m) GivesFixes) → IfSome (option_and_then next m) GivesFixes
then_fix None next is each = tt
then_fix (Some m) next is each = each m is

run_fix : (code : List Instr) (x : ℤ) (stack cells : List ℤ) (passing : ℕ) → All HasFixValue code → IsFix x → AreFixesAt stack → AreFixesAt cells → IfSome (run code x stack cells passing) GivesFixes
run_fix [] x stack cells passing told is at held = finish_fix stack cells at held
run_fix (instr ∷ rest) x stack cells zero told is at held =
    then_fix (effect instr x stack cells) _ (effect_fix instr x stack cells (All-head HasFixValue instr rest told) is at held)
    (λ m holds. run_fix rest x m.stack m.cells m.passing (All-tail HasFixValue instr rest told) is holds.stack holds.cells)
run_fix (instr ∷ rest) x stack cells (suc passing) told is at held = run_fix rest x stack cells passing (All-tail HasFixValue instr rest told) is at held

or_fix : (frame : Option Frame) (other : Frame) → IfSome frame GivesFixes → GivesFixes other → GivesFixes (unwrap_or frame other)
or_fix None other is fix = fix
or_fix (Some frame) other is fix = is

played_fix : (code : List Instr) (cells : List ℤ) (x : ℤ) → All HasFixValue code → AreFixesAt cells → IsFix x → GivesFixes (played code cells x)
played_fix code cells x told held is = or_fix (frame_of code cells x) _ (run_fix code x [] cells 0 told is (λ i. zero_fix) held) (record { output = zero_fix; cells = held })

cells_fix : (code : List Instr) (frames : List ℤ) → All HasFixValue code → AreFixesAt frames → AreFixesAt (cells_after code frames)
cells_fix code [] told heard = zeros_at 16
cells_fix code (x ∷ xs) told heard = (played_fix code (cells_after code xs) x told (cells_fix code xs told (λ i. heard (suc i))) (heard 0)).cells

pub program_fix : (code : List Instr) (frames : List ℤ) → All HasFixValue code → AreFixesAt frames → IsFix (program_value code frames)
program_fix code [] told heard = zero_fix
program_fix code (x ∷ xs) told heard = (played_fix code (cells_after code xs) x told (cells_fix code xs told (λ i. heard (suc i))) (heard 0)).output
