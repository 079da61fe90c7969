-- Places that are judged one after the other.
use Rattle.std.proofs.Common.{ℕ, ◌≡◌, ◌+◌, ◌-◌, ◌<◌, ◌≤◌, List, [], ◌∷◌, ◌++◌, length, ap, sym, subst, refl, ◌∙◌, arith, below_more, length-append}
use Rattle.std.specs.Prelude.{slice_index}
use Rattle.std.proofs.lemmas.List.{get_or_append_left}
use Rattle.std.proofs.Math.Seq.{get_or-append_seam}
use Rattle.node_table.specs.declared.code.Instr.{Instr}
use Rattle.node_table.specs.Accepted.{IsAccepted}
use Rattle.worklet.specs.Errors.{AreFine, FailsAt, HasHeight, IsFine, StaysInside}
use Rattle.node_table.specs.Instructions.{MayPass, instr_at, pops, pushes}

-- a place stays inside just where the furthest place is inside
pub inside_from : (code : List Instr) (place far : ℕ) → ((n : ℕ) → MayPass (instr_at code place) n → n ≤ far) → place + 1 + far ≤ length code → StaysInside code place
inside_from code place far most fits j goes = let at = goes.1 in let low = most goes.0 goes.2 in omega (arith, at, low)

pub inside_back : (code : List Instr) (place far : ℕ) → MayPass (instr_at code place) far → StaysInside code place → place + 1 + far ≤ length code
inside_back code place far some inside = inside (place + 1 + far) (far, refl, some)

-- ---- one more height

pushed_before : (heights : List ℕ) (height i : ℕ) → i < length heights → slice_index (heights ++ height ∷ []) i ≡ slice_index heights i
pushed_before heights height i l = get_or_append_left heights (height ∷ []) 0 i l

pushed_here : (heights : List ℕ) (height place : ℕ) → length heights ≡ place → slice_index (heights ++ height ∷ []) place ≡ height
pushed_here heights height place count =
    ap (slice_index (heights ++ height ∷ [])) (sym count) ∙ get_or-append_seam heights height [] 0

-- heights that agree below a place give it the same height
has_same : (code : List Instr) (heights others : List ℕ) (place height other : ℕ) → ((i : ℕ) → i < place → slice_index others i ≡ slice_index heights i) → other ≡ height
    → HasHeight code heights place height → HasHeight code others place other
has_same code heights others place height other agree same has = record {
  start = λ none. same ∙ has.start none;
  reached = has.reached;
  even = λ i l goes. ap (λ (h : ℕ). h - pops (instr_at code i) + pushes (instr_at code i)) (agree i l) ∙ has.even i l goes ∙ sym same;
}

pub fine_none : (code : List Instr) (heights : List ℕ) → heights ≡ [] → AreFine code heights 0
fine_none code heights none = record {
  count = ap length none;
  height = λ i l. absurd (omega arith);
  fine = λ i l. absurd (omega arith);
}

pub fine_more : (code : List Instr) (heights : List ℕ) (place height : ℕ) → AreFine code heights place → HasHeight code heights place height → IsFine code place height
    → AreFine code (heights ++ height ∷ []) (place + 1)
fine_more code heights place height before has fine =
    let count = before.count in
    let same : (i : ℕ) → i < place → slice_index (heights ++ height ∷ []) i ≡ slice_index heights i = λ i l. pushed_before heights height i (omega arith) in
    let here = pushed_here heights height place count in
    let longer = length-append heights (height ∷ []) in
    record {
      count = omega (arith, longer);
      height = λ i l. below_more (λ k. HasHeight code (heights ++ height ∷ []) k (slice_index (heights ++ height ∷ []) k)) place
          (λ k lt. has_same code heights (heights ++ height ∷ []) k (slice_index heights k) (slice_index (heights ++ height ∷ []) k) (λ j m. same j (omega arith)) (same k lt) (before.height k lt))
          (has_same code heights (heights ++ height ∷ []) place height (slice_index (heights ++ height ∷ []) place) same here has)
          i l;
      fine = λ i l. below_more (λ k. IsFine code k (slice_index (heights ++ height ∷ []) k)) place
          (λ k lt. subst (λ (h : ℕ). IsFine code k h) (sym (same k lt)) (before.fine k lt))
          (subst (λ (h : ℕ). IsFine code place h) (sym here) fine)
          i l;
    }

-- ---- the end

-- a program without an error is accepted
pub accepted_at_end : (code : List Instr) (height : ℕ) → FailsAt code (length code) (λ heights. HasHeight code heights (length code) height) → height ≡ 1 → IsAccepted code
accepted_at_end code height judged one =
    let before = judged.before in
    let has = judged.fault in
    let all = judged.heights ++ height ∷ [] in
    let count = before.count in
    let longer = length-append judged.heights (height ∷ []) in
    let same : (i : ℕ) → i < length code → slice_index all i ≡ slice_index judged.heights i = λ i l. pushed_before judged.heights height i (omega arith) in
    let here = pushed_here judged.heights height (length code) count in
    let have : (j : ℕ) → j < length code + 1 → HasHeight code all j (slice_index all j) =
    λ j l. below_more (λ k. HasHeight code all k (slice_index all k)) (length code)
    (λ k lt. has_same code judged.heights all k (slice_index judged.heights k) (slice_index all k) (λ i m. same i (omega arith)) (same k lt) (before.height k lt))
    (has_same code judged.heights all (length code) height (slice_index all (length code)) same here has)
    j l in
    let fine : (i : ℕ) → i < length code → IsFine code i (slice_index all i) = λ i l. subst (λ (h : ℕ). IsFine code i h) (sym (same i l)) (before.fine i l) in
    record {
      some = judged.long.some;
      most = judged.long.most;
      heights = all;
      fit = record {
        count = omega (arith, longer);
        start = (have 0 (omega arith)).start refl;
        enough = λ i l. (fine i l).enough;
        inside = λ i j l goes. (fine i l).inside j goes;
        follows = λ i j l goes. let inside = (fine i l).inside j goes in let at = goes.1 in sym ((have j (omega (arith, inside))).even i (omega (arith, at)) goes);
        low = λ i l. (fine i l).low;
        cells = λ i l. (fine i l).cell;
        divisors = λ i l. (fine i l).divisor;
        reached = λ j some l. (have j (omega arith)).reached some;
        end = here ∙ one;
      };
    }
