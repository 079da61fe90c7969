-- Trying a program place by place tells whether it is accepted.
use Rattle.std.proofs.Common.{ℕ, zero, suc, ◌≡◌, ◌+◌, ◌-◌, ◌<◌, ◌≤◌, ◌&&◌, ◌||◌, Bool, true, false, List, [], ◌∷◌, ◌++◌, length, ap, sym, refl, ◌∙◌, arith, below_more, inl, inr, length-append}
use Rattle.std.specs.Prelude.{◌==◌, ◌↔◌, ◌⊎◌, nat_le, slice_index}
use Rattle.std.proofs.lemmas.Bool.{and_parts, and_from, or_cases, or_left, or_right, leb-true, le-leb, eqb-true, eq-eqb, cases_Bool, cond-true, cond-false, not_from_false, not-true, true≢false, false_from_ne_true}
use Rattle.std.proofs.lemmas.List.{get_or_append_left}
use Rattle.std.proofs.Math.Seq.{get_or-append_seam}
use Rattle.node_table.specs.declared.code.Instr.{Instr}
use Rattle.node_table.specs.declared.code.Instr.TheVariants.{Input, Push, Load, Store, Add, Sub, Min, Max, Mul, Neg, Div, Dup, Swap, Discard, Skip, Skipz}
use Rattle.node_table.specs.Accepted.{AreHeights, IsAccepted}
use Rattle.node_table.specs.Instructions.{pops, pushes, MayPass, HasCell, HasDivisor, GoesOn, IsReached, instr_at, left}
use Rattle.worklet.specs.Decision.{each_below, some_below, may_pass, most_passed, has_cell, has_divisor, goes_on, arrival, heights_of, is_placed, is_met, do_fit, is_accepted, AcceptedLaw}
use Rattle.worklet.proofs.Arriving.{goes_from, goes_back}

-- ---- tests at all numbers below one

each_at : (test : ℕ → Bool) (n : ℕ) → each_below test n ≡ true → (i : ℕ) → i < n → test i ≡ true
each_at test zero all i l = absurd (omega arith)
each_at test (suc n) all i l =
    let parts = and_parts (each_below test n) (test n) all in
    below_more (λ k. test k ≡ true) n (each_at test n parts.0) parts.1 i (omega arith)

each_from : (test : ℕ → Bool) (n : ℕ) → ((i : ℕ) → i < n → test i ≡ true) → each_below test n ≡ true
each_from test zero all = refl
each_from test (suc n) all = and_from (each_below test n) (test n) (each_from test n (λ i l. all i (omega arith))) (all n (omega arith))

some_at : (test : ℕ → Bool) (n : ℕ) → some_below test n ≡ true → (i : ℕ) × (i < n) × (test i ≡ true)
some_at test zero one = absurd (true≢false (sym one))
some_at test (suc n) one = elim (or_cases (some_below test n) (test n) one) [
  | inl before ↦ let w = some_at test n before in let l = w.1 in (w.0, omega (arith, l), w.2)
  | inr here ↦ (n, omega arith, here)
]

some_from : (test : ℕ → Bool) (n i : ℕ) → i < n → test i ≡ true → some_below test n ≡ true
some_from test zero i l here = absurd (omega arith)
some_from test (suc n) i l here =
    below_more (λ k. test k ≡ true → some_below test (suc n) ≡ true) n
    (λ k lt is. or_left (some_below test n) (test n) (some_from test n k lt is))
    (λ is. or_right (some_below test n) (test n) is)
    i (omega arith) here

-- ---- an instruction

passes_one : (n k : ℕ) → (n == k) ≡ true ↔ (n ≡ k)
passes_one n k = (eqb-true n k, eq-eqb n k)

passes_two : (n k : ℕ) → ((n == 0) || (n == k)) ≡ true ↔ ((n ≡ 0) ⊎ (n ≡ k))
passes_two n k = (
  λ one. elim (or_cases (n == 0) (n == k) one) [ inl none ↦ inl (eqb-true n 0 none) | inr all ↦ inr (eqb-true n k all) ],
  λ one. elim one [ inl none ↦ or_left (n == 0) (n == k) (eq-eqb n 0 none) | inr all ↦ or_right (n == 0) (n == k) (eq-eqb n k all) ],
)

passing_tried : (instr : Instr) (n : ℕ) → (may_pass instr n ≡ true) ↔ MayPass instr n
passing_tried Input n = passes_one n 0
passing_tried (Push v) n = passes_one n 0
passing_tried (Load k) n = passes_one n 0
passing_tried (Store k) n = passes_one n 0
passing_tried Add n = passes_one n 0
passing_tried Sub n = passes_one n 0
passing_tried Min n = passes_one n 0
passing_tried Max n = passes_one n 0
passing_tried Mul n = passes_one n 0
passing_tried Neg n = passes_one n 0
passing_tried (Div d) n = passes_one n 0
passing_tried Dup n = passes_one n 0
passing_tried Swap n = passes_one n 0
passing_tried Discard n = passes_one n 0
passing_tried (Skip k) n = passes_one n k
passing_tried (Skipz k) n = passes_two n k

-- the most that an instruction may pass over
most_is : (instr : Instr) → MayPass instr (most_passed instr) × ((n : ℕ) → MayPass instr n → n ≤ most_passed instr)
most_is Input = (refl, λ n is. omega (arith, is))
most_is (Push v) = (refl, λ n is. omega (arith, is))
most_is (Load k) = (refl, λ n is. omega (arith, is))
most_is (Store k) = (refl, λ n is. omega (arith, is))
most_is Add = (refl, λ n is. omega (arith, is))
most_is Sub = (refl, λ n is. omega (arith, is))
most_is Min = (refl, λ n is. omega (arith, is))
most_is Max = (refl, λ n is. omega (arith, is))
most_is Mul = (refl, λ n is. omega (arith, is))
most_is Neg = (refl, λ n is. omega (arith, is))
most_is (Div d) = (refl, λ n is. omega (arith, is))
most_is Dup = (refl, λ n is. omega (arith, is))
most_is Swap = (refl, λ n is. omega (arith, is))
most_is Discard = (refl, λ n is. omega (arith, is))
most_is (Skip k) = (refl, λ n is. omega (arith, is))
most_is (Skipz k) = (inr refl, λ n is. elim is [ inl none ↦ omega (arith, none) | inr all ↦ omega (arith, all) ])

no_cell : (true ≡ true) ↔ Unit {0}
no_cell = (λ is. tt, λ none. refl)

a_cell : (k : ℕ) → (nat_le (k + 1) 16 ≡ true) ↔ (k < 16)
a_cell k = (λ is. let l = leb-true (k + 1) 16 is in omega (arith, l), λ l. le-leb (k + 1) 16 (omega (arith, l)))

cell_tried : (instr : Instr) → (has_cell instr ≡ true) ↔ HasCell instr
cell_tried Input = no_cell
cell_tried (Push v) = no_cell
cell_tried (Load k) = a_cell k
cell_tried (Store k) = a_cell k
cell_tried Add = no_cell
cell_tried Sub = no_cell
cell_tried Min = no_cell
cell_tried Max = no_cell
cell_tried Mul = no_cell
cell_tried Neg = no_cell
cell_tried (Div d) = no_cell
cell_tried Dup = no_cell
cell_tried Swap = no_cell
cell_tried Discard = no_cell
cell_tried (Skip k) = no_cell
cell_tried (Skipz k) = no_cell

divisor_tried : (instr : Instr) → (has_divisor instr ≡ true) ↔ HasDivisor instr
divisor_tried Input = no_cell
divisor_tried (Push v) = no_cell
divisor_tried (Load k) = no_cell
divisor_tried (Store k) = no_cell
divisor_tried Add = no_cell
divisor_tried Sub = no_cell
divisor_tried Min = no_cell
divisor_tried Max = no_cell
divisor_tried Mul = no_cell
divisor_tried Neg = no_cell
divisor_tried (Div d) = (leb-true 1 d, le-leb 1 d)
divisor_tried Dup = no_cell
divisor_tried Swap = no_cell
divisor_tried Discard = no_cell
divisor_tried (Skip k) = no_cell
divisor_tried (Skipz k) = no_cell

-- ---- going on

goes_true : (code : List Instr) (i j : ℕ) → i < j → GoesOn code i j → goes_on code j i ≡ true
goes_true code i j l goes = (passing_tried (instr_at code i) (j - i - 1)).1 (goes_back code i j l goes)

true_goes : (code : List Instr) (i j : ℕ) → i < j → goes_on code j i ≡ true → GoesOn code i j
true_goes code i j l is = goes_from code i j l ((passing_tried (instr_at code i) (j - i - 1)).0 is)

later : (code : List Instr) (i j : ℕ) → GoesOn code i j → i < j
later code i j goes = let at = goes.1 in omega (arith, at)

-- ---- the heights

heights_count : (code : List Instr) (n : ℕ) → length (heights_of code n) ≡ suc n
heights_count code zero = refl
heights_count code (suc n) =
    let before = heights_count code n in
    let longer = length-append (heights_of code n) (arrival code (heights_of code n) (suc n) (suc n) ∷ []) in
    omega (arith, before, longer)

heights_before : (code : List Instr) (n i : ℕ) → i < suc n → slice_index (heights_of code (suc n)) i ≡ slice_index (heights_of code n) i
heights_before code n i l =
    let count = heights_count code n in
    get_or_append_left (heights_of code n) (arrival code (heights_of code n) (suc n) (suc n) ∷ []) 0 i (omega (arith, count))

heights_here : (code : List Instr) (n : ℕ) → slice_index (heights_of code (suc n)) (suc n) ≡ arrival code (heights_of code n) (suc n) (suc n)
heights_here code n =
    let height = arrival code (heights_of code n) (suc n) (suc n) in
    ap (slice_index (heights_of code n ++ height ∷ [])) (sym (heights_count code n)) ∙ get_or-append_seam (heights_of code n) height [] 0

heights_start : (code : List Instr) (n : ℕ) → slice_index (heights_of code n) 0 ≡ 0
heights_start code zero = refl
heights_start code (suc n) = heights_before code n 0 (omega arith) ∙ heights_start code n

-- a place has the height that each place leaves it, if one does
arrival_is : (code : List Instr) (heights : List ℕ) (j height n : ℕ) → ((i : ℕ) → i < n → goes_on code j i ≡ true → left code heights i ≡ height)
    → some_below (goes_on code j) n ≡ true → arrival code heights j n ≡ height
arrival_is code heights j height zero leave one = absurd (true≢false (sym one))
arrival_is code heights j height (suc n) leave one = elim (cases_Bool (goes_on code j n)) [
  | inl goes ↦ cond-true (goes_on code j n) (left code heights n) (arrival code heights j n) goes ∙ leave n (omega arith) goes
  | inr not_here ↦
      let before : some_below (goes_on code j) n ≡ true = elim (or_cases (some_below (goes_on code j) n) (goes_on code j n) one) [
        | inl is ↦ is
        | inr here ↦ absurd (true≢false (sym here ∙ not_here))
      ] in
      cond-false (goes_on code j n) (left code heights n) (arrival code heights j n) not_here
      ∙ arrival_is code heights j height n (λ i l. leave i (omega arith)) before
]

same_left : (code : List Instr) (heights others : List ℕ) (i : ℕ) → slice_index heights i ≡ slice_index others i → left code heights i ≡ left code others i
same_left code heights others i same = ap (λ (h : ℕ). h - pops (instr_at code i) + pushes (instr_at code i)) same

-- heights that fit are those that the places leave one another
heights_agree : (code : List Instr) (others : List ℕ) → AreHeights code others → (n : ℕ) → n ≤ length code → (i : ℕ) → i < suc n
    → slice_index (heights_of code n) i ≡ slice_index others i
heights_agree code others fit zero there i l =
    let first : i ≡ 0 = omega arith in
    ap (slice_index (0 ∷ [])) first ∙ sym fit.start ∙ ap (slice_index others) (sym first)
heights_agree code others fit (suc n) there i l =
    let agree = heights_agree code others fit n (omega arith) in
    let from = fit.reached (suc n) (omega arith) there in
    let leave : (k : ℕ) → k < suc n → goes_on code (suc n) k ≡ true → left code (heights_of code n) k ≡ slice_index others (suc n) =
    λ k lt goes. same_left code (heights_of code n) others k (agree k lt) ∙ sym (fit.follows k (suc n) (omega arith) (true_goes code k (suc n) lt goes)) in
    let one = some_from (goes_on code (suc n)) (suc n) from.0 from.1 (goes_true code from.0 (suc n) from.1 from.2) in
    below_more (λ k. slice_index (heights_of code (suc n)) k ≡ slice_index others k) (suc n)
    (λ k lt. heights_before code n k lt ∙ agree k lt)
    (heights_here code n ∙ arrival_is code (heights_of code n) (suc n) (slice_index others (suc n)) (suc n) leave one)
    i (omega arith)

-- ---- the two trials of a place

-- what the trial of an instruction at its place tells
record IsPlaced (code : List Instr) (heights : List ℕ) (i : ℕ) : Type 0 where
  cell : HasCell (instr_at code i)
  divisor : HasDivisor (instr_at code i)
  inside : i + 1 + most_passed (instr_at code i) ≤ length code
  enough : pops (instr_at code i) ≤ slice_index heights i
  low : left code heights i ≤ 32

-- what the trial of a place that others go on at tells
record IsMet (code : List Instr) (heights : List ℕ) (j : ℕ) : Type 0 where
  reached : IsReached code j
  leave : (i : ℕ) → i < j → GoesOn code i j → left code heights i ≡ slice_index heights j

placed_at : (code : List Instr) (heights : List ℕ) (i : ℕ) → is_placed code heights i ≡ true → IsPlaced code heights i
placed_at code heights i all =
    let low = and_parts _ _ all in
    let enough = and_parts _ _ low.0 in
    let inside = and_parts _ _ enough.0 in
    let both = and_parts _ _ inside.0 in
    record {
      cell = (cell_tried (instr_at code i)).0 both.0;
      divisor = (divisor_tried (instr_at code i)).0 both.1;
      inside = leb-true _ _ inside.1;
      enough = leb-true _ _ enough.1;
      low = leb-true _ _ low.1;
    }

placed_from : (code : List Instr) (heights : List ℕ) (i : ℕ) → IsPlaced code heights i → is_placed code heights i ≡ true
placed_from code heights i is =
    and_from _ _
    (and_from _ _
    (and_from _ _
    (and_from _ _ ((cell_tried (instr_at code i)).1 is.cell) ((divisor_tried (instr_at code i)).1 is.divisor))
    (le-leb _ _ is.inside))
    (le-leb _ _ is.enough))
    (le-leb _ _ is.low)

met_at : (code : List Instr) (heights : List ℕ) (j : ℕ) → is_met code heights j ≡ true → IsMet code heights j
met_at code heights j all =
    let parts = and_parts _ _ all in
    let one = some_at (goes_on code j) j parts.0 in
    record {
      reached = (one.0, one.1, true_goes code one.0 j one.1 one.2);
      leave = λ i l goes. elim (or_cases _ _ (each_at _ j parts.1 i l)) [
        | inl never ↦ absurd (true≢false (sym (goes_true code i j l goes) ∙ not-true (goes_on code j i) never))
        | inr same ↦ eqb-true _ _ same
      ];
    }

met_from : (code : List Instr) (heights : List ℕ) (j : ℕ) → IsMet code heights j → is_met code heights j ≡ true
met_from code heights j is =
    let one = is.reached in
    and_from _ _
    (some_from (goes_on code j) j one.0 one.1 (goes_true code one.0 j one.1 one.2))
    (each_from _ j (λ i l. elim (cases_Bool (goes_on code j i)) [
      | inl goes ↦ or_right _ _ (eq-eqb _ _ (is.leave i l (true_goes code i j l goes)))
      | inr not_here ↦ or_left _ _ (not_from_false (goes_on code j i) not_here)
    ]))

met_later : (code : List Instr) (heights : List ℕ) (n : ℕ) → each_below (λ i. is_met code heights (suc i)) n ≡ true → (j : ℕ) → 0 < j → j ≤ n → IsMet code heights j
met_later code heights n all zero some l = absurd (omega arith)
met_later code heights n all (suc j) some l = met_at code heights (suc j) (each_at (λ i. is_met code heights (suc i)) n all j (omega arith))

fits : (code : List Instr) (heights : List ℕ) → length heights ≡ length code + 1 → slice_index heights 0 ≡ 0 → do_fit code heights ≡ true → AreHeights code heights
fits code heights count start all =
    let end = and_parts (each_below (is_placed code heights) (length code) && each_below (λ i. is_met code heights (suc i)) (length code)) (slice_index heights (length code) == 1) all in
    let both = and_parts (each_below (is_placed code heights) (length code)) (each_below (λ i. is_met code heights (suc i)) (length code)) end.0 in
    let placed : (i : ℕ) → i < length code → IsPlaced code heights i = λ i l. placed_at code heights i (each_at (is_placed code heights) (length code) both.0 i l) in
    let met : (j : ℕ) → 0 < j → j ≤ length code → IsMet code heights j = λ j some l. met_later code heights (length code) both.1 j some l in
    let inside : (i j : ℕ) → i < length code → GoesOn code i j → j ≤ length code =
    λ i j l goes. let at = goes.1 in let most = (most_is (instr_at code i)).1 goes.0 goes.2 in let far = (placed i l).inside in omega (arith, at, most, far) in
    record {
      count = count;
      start = start;
      enough = λ i l. (placed i l).enough;
      inside = inside;
      follows = λ i j l goes. let before = later code i j goes in sym ((met j (omega (arith, before)) (inside i j l goes)).leave i before goes);
      low = λ i l. (placed i l).low;
      cells = λ i l. (placed i l).cell;
      divisors = λ i l. (placed i l).divisor;
      reached = λ j some l. (met j some l).reached;
      end = eqb-true _ _ end.1;
    }

true_accepted : (code : List Instr) → is_accepted code ≡ true → IsAccepted code
true_accepted code all =
    let fit = and_parts _ _ all in
    let long = and_parts _ _ fit.0 in
    let heights = heights_of code (length code) in
    let count = heights_count code (length code) in
    record {
      some = leb-true _ _ long.0;
      most = leb-true _ _ long.1;
      heights = heights;
      fit = fits code heights (omega (arith, count)) (heights_start code (length code)) fit.1;
    }

-- ---- a program that is accepted

tried : (code : List Instr) (heights others : List ℕ) → AreHeights code others → ((i : ℕ) → i < suc (length code) → slice_index heights i ≡ slice_index others i)
    → do_fit code heights ≡ true
tried code heights others fit agree =
    and_from _ _
    (and_from _ _
    (each_from _ (length code) (λ i l.
    let same = agree i (omega arith) in
    let enough = fit.enough i l in
    let far = fit.inside i (i + 1 + most_passed (instr_at code i)) l (most_passed (instr_at code i), refl, (most_is (instr_at code i)).0) in
    let left_is = same_left code heights others i same in
    let low = fit.low i l in
    placed_from code heights i (record {
      cell = fit.cells i l;
      divisor = fit.divisors i l;
      inside = far;
      enough = omega (arith, same, enough);
      low = omega (arith, left_is, low);
    })))
    (each_from _ (length code) (λ k m. met_from code heights (suc k) (record {
      reached = fit.reached (suc k) (omega arith) (omega arith);
      leave = λ i l goes. same_left code heights others i (agree i (omega arith)) ∙ sym (fit.follows i (suc k) (omega arith) goes) ∙ sym (agree (suc k) (omega arith));
    }))))
    (eq-eqb _ _ (agree (length code) (omega arith) ∙ fit.end))

pub accepted_true : (code : List Instr) → IsAccepted code → is_accepted code ≡ true
accepted_true code is =
    and_from _ _
    (and_from _ _ (le-leb _ _ is.some) (le-leb _ _ is.most))
    (tried code (heights_of code (length code)) is.heights is.fit (heights_agree code is.heights is.fit (length code) (omega arith)))

pub accepted_false : (code : List Instr) → (IsAccepted code → ⊥) → is_accepted code ≡ false
accepted_false code never = false_from_ne_true (is_accepted code) (λ is. never (true_accepted code is))

pub decided : AcceptedLaw
decided code = (true_accepted code, accepted_true code)
