-- A program has one error alone.
use Rattle.std.proofs.Common.{ℕ, zero, suc, ◌≡◌, ◌+◌, ◌-◌, ◌<◌, ◌≤◌, List, length, ap, sym, subst, refl, ◌∙◌, arith, below_more, inl, inr}
use Rattle.std.specs.Prelude.{slice_index, ◌⊎◌}
use Rattle.std.proofs.lemmas.Bool.{cases_lt, cases_order}
use Rattle.node_table.specs.declared.code.Instr.{Instr}
use Rattle.worklet.specs.declared.errors.ProgErr.{ProgErr}
use Rattle.worklet.specs.declared.errors.ProgErr.TheVariants.{BadLength, Unreached, Uneven, BadCell, BadDivisor, BadJump, Underflow, TooDeep, BadEnd, NoMemory}
use Rattle.node_table.specs.Instructions.{pops, pushes, HasCell, HasDivisor, IsReached, instr_at, left}
use Rattle.worklet.specs.Errors.{AreFine, HasHeight, IsError, IsFine, IsLong, IsPlaced, IsUneven, StaysInside, OneErrorLaw}

-- ---- heights that agree below a place

abbrev Agree : (heights others : List ℕ) (place : ℕ) → Type 0
Agree heights others place = (i : ℕ) → i < place → slice_index heights i ≡ slice_index others i

same_left : (code : List Instr) (heights others : List ℕ) (i : ℕ) → slice_index heights i ≡ slice_index others i → left code heights i ≡ left code others i
same_left code heights others i same = ap (λ (h : ℕ). h - pops (instr_at code i) + pushes (instr_at code i)) same

has_same : (code : List Instr) (heights others : List ℕ) (place height : ℕ) → Agree heights others place → HasHeight code heights place height → HasHeight code others place height
has_same code heights others place height agree has = record {
  start = has.start;
  reached = has.reached;
  even = λ i l goes. sym (same_left code heights others i (agree i l)) ∙ has.even i l goes;
}

one_height : (code : List Instr) (heights : List ℕ) (place height other : ℕ) → HasHeight code heights place height → HasHeight code heights place other → height ≡ other
one_height code heights zero height other has again = has.start refl ∙ sym (again.start refl)
one_height code heights (suc p) height other has again =
    let from = has.reached (omega arith) in
    sym (has.even from.0 from.1 from.2) ∙ again.even from.0 from.1 from.2

agree_below : (code : List Instr) (heights others : List ℕ) (p q n : ℕ) → AreFine code heights p → AreFine code others q → n ≤ p → n ≤ q → Agree heights others n
agree_below code heights others p q zero fine again l m i h = absurd (omega arith)
agree_below code heights others p q (suc n) fine again l m i h =
    let before = agree_below code heights others p q n fine again (omega arith) (omega arith) in
    below_more (λ k. slice_index heights k ≡ slice_index others k) n before
    (one_height code others n (slice_index heights n) (slice_index others n)
    (has_same code heights others n (slice_index heights n) before (fine.height n (omega arith)))
    (again.height n (omega arith)))
    i (omega arith)

-- ---- the trials of a place, in order

-- what the trials of a place are, of which the first that fails gives the error
abbrev Passes : (code : List Instr) (heights : List ℕ) (place : ℕ) → ℕ → Type 0
Passes code heights place zero = 0 < place → IsReached code place
Passes code heights place (suc zero) = IsUneven code heights place → ⊥
Passes code heights place (suc (suc zero)) = place < length code → HasCell (instr_at code place)
Passes code heights place (suc (suc (suc zero))) = place < length code → HasDivisor (instr_at code place)
Passes code heights place (suc (suc (suc (suc zero)))) = place < length code → StaysInside code place
Passes code heights place (suc (suc (suc (suc (suc zero))))) = place < length code → (h : ℕ) → HasHeight code heights place h → pops (instr_at code place) ≤ h
Passes code heights place (suc (suc (suc (suc (suc (suc zero)))))) = place < length code → (h : ℕ) → HasHeight code heights place h → h - pops (instr_at code place) + pushes (instr_at code place) ≤ 32
Passes code heights place (suc (suc (suc (suc (suc (suc (suc n))))))) = place ≡ length code → (h : ℕ) → HasHeight code heights place h → h ≡ 1

-- the error of a trial
abbrev named : (trial place height : ℕ) → ProgErr
named zero place height = Unreached place
named (suc zero) place height = Uneven place
named (suc (suc zero)) place height = BadCell place
named (suc (suc (suc zero))) place height = BadDivisor place
named (suc (suc (suc (suc zero)))) place height = BadJump place
named (suc (suc (suc (suc (suc zero))))) place height = Underflow place
named (suc (suc (suc (suc (suc (suc zero)))))) place height = TooDeep place
named (suc (suc (suc (suc (suc (suc (suc n))))))) place height = BadEnd height

uneven_same : (code : List Instr) (heights others : List ℕ) (place : ℕ) → Agree heights others place → IsUneven code heights place → IsUneven code others place
uneven_same code heights others place agree w = (
  w.0,
  w.1,
  w.2,
  w.3,
  w.4,
  w.5,
  λ same. w.6 (same_left code heights others w.0 (agree w.0 w.2) ∙ same ∙ sym (same_left code heights others w.1 (agree w.1 w.3))),
)

flip : (heights others : List ℕ) (place : ℕ) → Agree heights others place → Agree others heights place
flip heights others place agree = λ i l. sym (agree i l)

passes_same : (code : List Instr) (heights others : List ℕ) (place : ℕ) → Agree heights others place → (trial : ℕ) → Passes code heights place trial → Passes code others place trial
passes_same code heights others place agree zero passes = passes
passes_same code heights others place agree (suc zero) passes = λ w. passes (uneven_same code others heights place (flip heights others place agree) w)
passes_same code heights others place agree (suc (suc zero)) passes = passes
passes_same code heights others place agree (suc (suc (suc zero))) passes = passes
passes_same code heights others place agree (suc (suc (suc (suc zero)))) passes = passes
passes_same code heights others place agree (suc (suc (suc (suc (suc zero))))) passes = λ l h has. passes l h (has_same code others heights place h (flip heights others place agree) has)
passes_same code heights others place agree (suc (suc (suc (suc (suc (suc zero)))))) passes = λ l h has. passes l h (has_same code others heights place h (flip heights others place agree) has)
passes_same code heights others place agree (suc (suc (suc (suc (suc (suc (suc n))))))) passes = λ at h has. passes at h (has_same code others heights place h (flip heights others place agree) has)

not_uneven : (code : List Instr) (heights : List ℕ) (place height : ℕ) → HasHeight code heights place height → IsUneven code heights place → ⊥
not_uneven code heights place height has w = w.6 (has.even w.0 w.2 w.4 ∙ sym (has.even w.1 w.3 w.5))

-- a place that is without an error passes all its trials
fine_passes : (code : List Instr) (heights : List ℕ) (place height : ℕ) → HasHeight code heights place height → IsFine code place height → place < length code
    → (trial : ℕ) → Passes code heights place trial
fine_passes code heights place height has fine there zero = has.reached
fine_passes code heights place height has fine there (suc zero) = not_uneven code heights place height has
fine_passes code heights place height has fine there (suc (suc zero)) = λ l. fine.cell
fine_passes code heights place height has fine there (suc (suc (suc zero))) = λ l. fine.divisor
fine_passes code heights place height has fine there (suc (suc (suc (suc zero)))) = λ l. fine.inside
fine_passes code heights place height has fine there (suc (suc (suc (suc (suc zero))))) =
    λ l h again. let same = one_height code heights place h height again has in let enough = fine.enough in omega (arith, same, enough)
fine_passes code heights place height has fine there (suc (suc (suc (suc (suc (suc zero)))))) =
    λ l h again.
    let same = ap (λ (n : ℕ). n - pops (instr_at code place) + pushes (instr_at code place)) (one_height code heights place h height again has) in
    let low = fine.low in
    omega (arith, same, low)
fine_passes code heights place height has fine there (suc (suc (suc (suc (suc (suc (suc n))))))) = λ at h again. absurd (omega (arith, at))

-- ---- the first trial that fails

record First (code : List Instr) (error : ProgErr) : Type 0 where
  place : ℕ
  trial : ℕ
  height : ℕ
  heights : List ℕ
  there : place ≤ length code
  fine : AreFine code heights place
  before : (i : ℕ) → i < trial → Passes code heights place i
  fails : Passes code heights place trial → ⊥
  has : 7 ≤ trial → HasHeight code heights place height
  is : error ≡ named trial place height

no_earlier : (code : List Instr) (error other : ProgErr) (a : First code error) (b : First code other) → a.place < b.place → ⊥
no_earlier code error other a b l =
    let agree = agree_below code b.heights a.heights b.place a.place a.place b.fine a.fine (omega arith) (omega arith) in
    let there = b.there in
    let passes = fine_passes code b.heights a.place (slice_index b.heights a.place) (b.fine.height a.place l) (b.fine.fine a.place l) (omega (arith, there)) a.trial in
    a.fails (passes_same code b.heights a.heights a.place agree a.trial passes)

one_place : (code : List Instr) (error other : ProgErr) (a : First code error) (b : First code other) → a.place ≡ b.place
one_place code error other a b = elim (cases_order a.place b.place) [
  | inl same ↦ same
  | inr differ ↦ elim differ [
    | inl less ↦ absurd (no_earlier code error other a b less)
    | inr more ↦ absurd (no_earlier code other error b a more)
  ]
]

all_agree : (code : List Instr) (error other : ProgErr) (a : First code error) (b : First code other) → Agree b.heights a.heights a.place
all_agree code error other a b =
    let same = one_place code error other a b in
    agree_below code b.heights a.heights b.place a.place a.place b.fine a.fine (omega (arith, same)) (omega arith)

no_lesser : (code : List Instr) (error other : ProgErr) (a : First code error) (b : First code other) → a.trial < b.trial → ⊥
no_lesser code error other a b l =
    let same = one_place code error other a b in
    let passes : Passes code b.heights a.place a.trial = subst (λ (p : ℕ). Passes code b.heights p a.trial) (sym same) (b.before a.trial l) in
    a.fails (passes_same code b.heights a.heights a.place (all_agree code error other a b) a.trial passes)

one_trial : (code : List Instr) (error other : ProgErr) (a : First code error) (b : First code other) → a.trial ≡ b.trial
one_trial code error other a b = elim (cases_order a.trial b.trial) [
  | inl same ↦ same
  | inr differ ↦ elim differ [
    | inl less ↦ absurd (no_lesser code error other a b less)
    | inr more ↦ absurd (no_lesser code other error b a more)
  ]
]

-- the height is named by the last trial alone
one_name : (trial place height other : ℕ) → (7 ≤ trial → height ≡ other) → named trial place height ≡ named trial place other
one_name zero place height other same = refl
one_name (suc zero) place height other same = refl
one_name (suc (suc zero)) place height other same = refl
one_name (suc (suc (suc zero))) place height other same = refl
one_name (suc (suc (suc (suc zero)))) place height other same = refl
one_name (suc (suc (suc (suc (suc zero))))) place height other same = refl
one_name (suc (suc (suc (suc (suc (suc zero)))))) place height other same = refl
one_name (suc (suc (suc (suc (suc (suc (suc n))))))) place height other same = ap BadEnd (same (omega arith))

first_alone : (code : List Instr) (error other : ProgErr) (a : First code error) (b : First code other) → error ≡ other
first_alone code error other a b =
    let place = one_place code error other a b in
    let trial = one_trial code error other a b in
    let same : 7 ≤ a.trial → a.height ≡ b.height = λ l.
    let has : HasHeight code b.heights a.place b.height = subst (λ (p : ℕ). HasHeight code b.heights p b.height) (sym place) (b.has (omega (arith, trial))) in
    one_height code a.heights a.place a.height b.height (a.has l) (has_same code b.heights a.heights a.place b.height (all_agree code error other a b) has) in
    a.is ∙ one_name a.trial a.place a.height b.height same ∙ ap (λ (n : ℕ). named n a.place b.height) trial
    ∙ ap (λ (p : ℕ). named b.trial p b.height) place ∙ sym b.is

-- ---- each error is that of the first trial that fails

abbrev All : (code : List Instr) (heights : List ℕ) (place n : ℕ) → Type 0
All code heights place n = (i : ℕ) → i < n → Passes code heights place i

passed_none : (code : List Instr) (heights : List ℕ) (place : ℕ) → All code heights place 0
passed_none code heights place i l = absurd (omega arith)

passed_one : (code : List Instr) (heights : List ℕ) (place : ℕ) → (0 < place → IsReached code place) → All code heights place 1
passed_one code heights place reached = below_more (Passes code heights place) 0 (passed_none code heights place) reached

passed_two : (code : List Instr) (heights : List ℕ) (place height : ℕ) → HasHeight code heights place height → All code heights place 2
passed_two code heights place height has =
    below_more (Passes code heights place) 1 (passed_one code heights place has.reached) (not_uneven code heights place height has)

passed_three : (code : List Instr) (heights : List ℕ) (place height : ℕ) → HasHeight code heights place height → (place < length code → HasCell (instr_at code place)) → All code heights place 3
passed_three code heights place height has cell = below_more (Passes code heights place) 2 (passed_two code heights place height has) cell

passed_four : (code : List Instr) (heights : List ℕ) (place height : ℕ) → HasHeight code heights place height → (place < length code → HasCell (instr_at code place))
    → (place < length code → HasDivisor (instr_at code place)) → All code heights place 4
passed_four code heights place height has cell divisor = below_more (Passes code heights place) 3 (passed_three code heights place height has cell) divisor

passed_five : (code : List Instr) (heights : List ℕ) (place height : ℕ) → HasHeight code heights place height → (place < length code → IsPlaced code place) → All code heights place 5
passed_five code heights place height has placed =
    below_more (Passes code heights place) 4
    (passed_four code heights place height has (λ l. (placed l).cell) (λ l. (placed l).divisor))
    (λ l. (placed l).inside)

passed_six : (code : List Instr) (heights : List ℕ) (place height : ℕ) → HasHeight code heights place height → (place < length code → IsPlaced code place)
    → (place < length code → pops (instr_at code place) ≤ height) → All code heights place 6
passed_six code heights place height has placed enough =
    below_more (Passes code heights place) 5 (passed_five code heights place height has placed)
    (λ l h again. let same = one_height code heights place h height again has in let least = enough l in omega (arith, same, least))

passed_end : (code : List Instr) (heights : List ℕ) (height : ℕ) → HasHeight code heights (length code) height → All code heights (length code) 7
passed_end code heights height has =
    below_more (Passes code heights (length code)) 6
    (passed_six code heights (length code) height has (λ l. absurd (omega (arith, l))) (λ l. absurd (omega (arith, l))))
    (λ l h again. absurd (omega (arith, l)))

first_of_error : (code : List Instr) (error : ProgErr) → IsLong code → IsError code error → First code error
first_of_error code (BadLength n) long error = absurd (error.1 long)
first_of_error code (Unreached place) long error = record {
  place = place;
  trial = 0;
  height = 0;
  heights = error.heights;
  there = error.there;
  fine = error.before;
  before = passed_none code error.heights place;
  fails = λ passes. error.fault.1 (passes error.fault.0);
  has = λ l. absurd (omega (arith, l));
  is = refl;
}
first_of_error code (Uneven place) long error = record {
  place = place;
  trial = 1;
  height = 0;
  heights = error.heights;
  there = error.there;
  fine = error.before;
  before = passed_one code error.heights place (λ l. let w = error.fault in (w.0, w.2, w.4));
  fails = λ passes. passes error.fault;
  has = λ l. absurd (omega (arith, l));
  is = refl;
}
first_of_error code (BadCell place) long error = record {
  place = place;
  trial = 2;
  height = 0;
  heights = error.1.heights;
  there = error.1.there;
  fine = error.1.before;
  before = passed_two code error.1.heights place error.1.fault.0 error.1.fault.1;
  fails = λ passes. error.1.fault.2 (passes error.0);
  has = λ l. absurd (omega (arith, l));
  is = refl;
}
first_of_error code (BadDivisor place) long error = record {
  place = place;
  trial = 3;
  height = 0;
  heights = error.1.heights;
  there = error.1.there;
  fine = error.1.before;
  before = passed_three code error.1.heights place error.1.fault.0 error.1.fault.1 (λ l. error.1.fault.2.0);
  fails = λ passes. error.1.fault.2.1 (passes error.0);
  has = λ l. absurd (omega (arith, l));
  is = refl;
}
first_of_error code (BadJump place) long error = record {
  place = place;
  trial = 4;
  height = 0;
  heights = error.1.heights;
  there = error.1.there;
  fine = error.1.before;
  before = passed_four code error.1.heights place error.1.fault.0 error.1.fault.1 (λ l. error.1.fault.2.0) (λ l. error.1.fault.2.1);
  fails = λ passes. error.1.fault.2.2 (passes error.0);
  has = λ l. absurd (omega (arith, l));
  is = refl;
}
first_of_error code (Underflow place) long error =
    let few = error.1.fault.2.1 in
    record {
      place = place;
      trial = 5;
      height = 0;
      heights = error.1.heights;
      there = error.1.there;
      fine = error.1.before;
      before = passed_five code error.1.heights place error.1.fault.0 error.1.fault.1 (λ l. error.1.fault.2.0);
      fails = λ passes. let enough = passes error.0 error.1.fault.0 error.1.fault.1 in absurd (omega (arith, few, enough));
      has = λ l. absurd (omega (arith, l));
      is = refl;
    }
first_of_error code (TooDeep place) long error =
    let deep = error.1.fault.2.2 in
    record {
      place = place;
      trial = 6;
      height = 0;
      heights = error.1.heights;
      there = error.1.there;
      fine = error.1.before;
      before = passed_six code error.1.heights place error.1.fault.0 error.1.fault.1 (λ l. error.1.fault.2.0) (λ l. error.1.fault.2.1);
      fails = λ passes. let low = passes error.0 error.1.fault.0 error.1.fault.1 in absurd (omega (arith, deep, low));
      has = λ l. absurd (omega (arith, l));
      is = refl;
    }
first_of_error code (BadEnd height) long error = record {
  place = length code;
  trial = 7;
  height = height;
  heights = error.heights;
  there = error.there;
  fine = error.before;
  before = passed_end code error.heights height error.fault.0;
  fails = λ passes. error.fault.1 (passes refl height error.fault.0);
  has = λ l. error.fault.0;
  is = refl;
}
first_of_error code NoMemory long error = absurd error

-- ---- the length

-- an error of the length is the only one that a code of another length has
long_or : (code : List Instr) (error : ProgErr) → IsError code error → (IsLong code → ⊥) → error ≡ BadLength (length code)
long_or code (BadLength n) error short = ap BadLength error.0
long_or code (Unreached place) error short = absurd (short error.long)
long_or code (Uneven place) error short = absurd (short error.long)
long_or code (BadCell place) error short = absurd (short error.1.long)
long_or code (BadDivisor place) error short = absurd (short error.1.long)
long_or code (BadJump place) error short = absurd (short error.1.long)
long_or code (Underflow place) error short = absurd (short error.1.long)
long_or code (TooDeep place) error short = absurd (short error.1.long)
long_or code (BadEnd height) error short = absurd (short error.long)
long_or code NoMemory error short = absurd error

-- whether a code has 1 to 256 instructions is decided
is_long : (code : List Instr) → IsLong code ⊎ (IsLong code → ⊥)
is_long code = elim (cases_lt 0 (length code)) [
  | inl some ↦ elim (cases_lt 256 (length code)) [
    | inl more ↦ inr (λ long. let most = long.most in omega (arith, most))
    | inr most ↦ inl (record { some = omega arith; most = most })
  ]
  | inr none ↦ inr (λ long. let some = long.some in omega (arith, some))
]

pub one_error : OneErrorLaw
one_error code error other is again = elim (is_long code) [
  | inl long ↦ first_alone code error other (first_of_error code error long is) (first_of_error code other long again)
  | inr short ↦ long_or code error is short ∙ sym (long_or code other again short)
]
