-- A program with an error is not accepted.
use Rattle.std.proofs.Common.{ℕ, zero, suc, ◌≡◌, ◌+◌, ◌-◌, ◌<◌, ◌≤◌, List, length, ap, sym, refl, ◌∙◌, arith, below_more}
use Rattle.std.specs.Prelude.{slice_index}
use Rattle.node_table.specs.declared.code.Instr.{Instr}
use Rattle.worklet.specs.declared.errors.ProgErr.TheVariants.{BadLength, Unreached, Uneven, BadCell, BadDivisor, BadJump, Underflow, TooDeep, BadEnd, NoMemory}
use Rattle.node_table.specs.Accepted.{AreHeights, IsAccepted}
use Rattle.worklet.specs.Errors.{AreFine, FailsAt, HasHeight, ErrorLaw}
use Rattle.node_table.specs.Instructions.{pops, pushes, GoesOn, instr_at, left}

-- two lists of heights agree below a place
abbrev Agree : (heights others : List ℕ) (place : ℕ) → Type 0
Agree heights others place = (i : ℕ) → i < place → slice_index heights i ≡ slice_index others i

same_left : (code : List Instr) (heights others : List ℕ) (i : ℕ) → slice_index heights i ≡ slice_index others i → left code heights i ≡ left code others i
same_left code heights others i same = ap (λ (h : ℕ). h - pops (instr_at code i) + pushes (instr_at code i)) same

-- the height of a place is the one that an accepted program has there
same_height : (code : List Instr) (heights others : List ℕ) (place height : ℕ) → AreHeights code others → place ≤ length code → Agree heights others place
    → HasHeight code heights place height → height ≡ slice_index others place
same_height code heights others zero height fit there agree has = has.start refl ∙ sym fit.start
same_height code heights others (suc p) height fit there agree has =
    let from = has.reached (omega arith) in
    sym (has.even from.0 from.1 from.2) ∙ same_left code heights others from.0 (agree from.0 from.1)
    ∙ sym (fit.follows from.0 (suc p) (let l = from.1 in omega (arith, l)) from.2)

agree_below : (code : List Instr) (heights others : List ℕ) (place n : ℕ) → AreHeights code others → place ≤ length code → AreFine code heights place → n ≤ place → Agree heights others n
agree_below code heights others place zero fit there fine l i h = absurd (omega arith)
agree_below code heights others place (suc n) fit there fine l i h =
    let before = agree_below code heights others place n fit there fine (omega arith) in
    below_more (λ k. slice_index heights k ≡ slice_index others k) n before
    (same_height code heights others n (slice_index heights n) fit (omega arith) before (fine.height n (omega arith)))
    i (omega arith)

-- what an accepted program says of a place up to which another one was judged
agrees : (code : List Instr) (place : ℕ) (Fault : List ℕ → Type 0) (fails : FailsAt code place Fault) (accepted : IsAccepted code) → Agree fails.heights accepted.heights place
agrees code place Fault fails accepted = agree_below code fails.heights accepted.heights place place accepted.fit fails.there fails.before (omega arith)

height_of : (code : List Instr) (place height : ℕ) (Fault : List ℕ → Type 0) (fails : FailsAt code place Fault) (accepted : IsAccepted code)
    → HasHeight code fails.heights place height → height ≡ slice_index accepted.heights place
height_of code place height Fault fails accepted has =
    same_height code fails.heights accepted.heights place height accepted.fit fails.there (agrees code place Fault fails accepted) has

pub not_accepted : ErrorLaw
not_accepted code (BadLength n) error accepted = error.1 (record { some = accepted.some; most = accepted.most })
not_accepted code (Unreached place) error accepted = error.fault.1 (accepted.fit.reached place error.fault.0 error.there)
not_accepted code (Uneven place) error accepted =
    let fault = error.fault in
    let same = agrees code place _ error accepted in
    let below : (k : ℕ) → k < place → k < length code = λ k l. let there = error.there in omega arith in
    let at : (k : ℕ) → k < place → GoesOn code k place → left code error.heights k ≡ slice_index accepted.heights place =
    λ k l goes. same_left code error.heights accepted.heights k (same k l) ∙ sym (accepted.fit.follows k place (below k l) goes) in
    fault.6 (at fault.0 fault.2 fault.4 ∙ sym (at fault.1 fault.3 fault.5))
not_accepted code (BadCell place) error accepted = error.1.fault.2 (accepted.fit.cells place error.0)
not_accepted code (BadDivisor place) error accepted = error.1.fault.2.1 (accepted.fit.divisors place error.0)
not_accepted code (BadJump place) error accepted = error.1.fault.2.2 (λ j goes. accepted.fit.inside place j error.0 goes)
not_accepted code (Underflow place) error accepted =
    let fault = error.1.fault in
    let is = height_of code place fault.0 _ error.1 accepted fault.1 in
    let enough = accepted.fit.enough place error.0 in
    let few = fault.2.1 in
    omega (arith, is, enough, few)
not_accepted code (TooDeep place) error accepted =
    let fault = error.1.fault in
    let is = height_of code place fault.0 _ error.1 accepted fault.1 in
    let low = accepted.fit.low place error.0 in
    let deep = fault.2.2 in
    let same = ap (λ (h : ℕ). h - pops (instr_at code place) + pushes (instr_at code place)) is in
    omega (arith, low, deep, same)
not_accepted code (BadEnd height) error accepted =
    error.fault.1 (height_of code (length code) height _ error accepted error.fault.0 ∙ accepted.fit.end)
not_accepted code NoMemory error accepted = error
