-- Where a quantum lies among the pieces of a tape.
use Rattle.std.proofs.Common.{ℕ, zero, suc, ◌≡◌, ◌+◌, ◌-◌, ◌<◌, ◌≤◌, length, List, [], ◌∷◌, ◌++◌, Some, slice_index_or, refl, sym, ◌∙◌, ap, subst, arith}
use Rattle.std.specs.Prelude.{replicate, slice_get}
use Rattle.std.proofs.Common.{leb, true, false}
use Rattle.std.specs.List.Sorted.{IsNonDecreasingBy}
use Rattle.std.proofs.lemmas.Bool.Decides.{nat_tests}
use Rattle.std.proofs.lemmas.List.{length-append, length-replicate}
use Rattle.derivations.specs.declared.tape.Stretch.{Stretch}
use Rattle.derivations.specs.Tapes.{worlds}
use Rattle.derivations.specs.Marks.{AreMarks}
use Rattle.derivations.specs.Stretches.{pieces_of, AreStretches, IsInForce}

abbrev pub end_of : Stretch → ℕ
end_of s = s.end

-- a list of items of which each is the same, and what stands behind it
get_first : {X : Type 0} (n k : ℕ) (x : X) (xs : List X) → k < n → slice_get (replicate n x ++ xs) k ≡ Some x
get_first zero k x xs l = absurd (omega arith)
get_first (suc n) zero x xs l = refl
get_first (suc n) (suc k) x xs l = get_first n k x xs (omega arith)

get_behind : {X : Type 0} (n k : ℕ) (x : X) (xs : List X) → slice_get (replicate n x ++ xs) (n + k) ≡ slice_get xs k
get_behind zero k x xs = ap (slice_get xs) (omega arith)
get_behind (suc n) k x xs = ap (slice_get (x ∷ (replicate n x ++ xs))) (let e : suc n + k ≡ suc (n + k) = omega arith in e) ∙ get_behind n k x xs

-- a tape has as many worlds as its stretches have quanta
pub quanta_are : (start : ℕ) (ss : List Stretch) (quanta : ℕ) → AreStretches start ss quanta → start + length (worlds (pieces_of ss)) ≡ quanta
quanta_are start [] quanta h = omega (arith, h)
quanta_are start (s ∷ ss) quanta h =
    let more = quanta_are s.end ss quanta h.2 in
    let here = h.0 in
    let both = length-append (replicate s.piece.quanta s.piece.world) (worlds (pieces_of ss)) in
    let first = length-replicate s.piece.quanta s.piece.world in
    omega (arith, more, here, both, first)

-- one piece more
pub AreStretches-more : (start : ℕ) (ss : List Stretch) (quanta : ℕ) (s : Stretch) → AreStretches start ss quanta → s.end ≡ quanta + s.piece.quanta → AreMarks s.piece.world.graph.value s.marks
    → AreStretches start (ss ++ s ∷ []) s.end
AreStretches-more start [] quanta s h end marks = (end ∙ ap (λ n. n + s.piece.quanta) (sym h), marks, refl)
AreStretches-more start (x ∷ xs) quanta s h end marks = (h.0, h.1, AreStretches-more x.end xs quanta s h.2 end marks)

pub pieces-more : (ss : List Stretch) (s : Stretch) → pieces_of (ss ++ s ∷ []) ≡ pieces_of ss ++ s.piece ∷ []
pieces-more [] s = refl
pieces-more (x ∷ xs) s = ap (λ ps. x.piece ∷ ps) (pieces-more xs s)

-- the stretch behind all that end by a quantum has it
pub in_force : (start : ℕ) (ss : List Stretch) (quanta quantum i : ℕ) (d : Stretch) → AreStretches start ss quanta → i < length ss
    → ((k : ℕ) → k < i → (slice_index_or ss k d).end ≤ start + quantum) → start + quantum < (slice_index_or ss i d).end
    → IsInForce (worlds (pieces_of ss)) quantum (slice_index_or ss i d)
in_force start [] quanta quantum i d h l before here = absurd (omega arith)
in_force start (s ∷ ss) quanta quantum zero d h l before here =
    record { there = get_first s.piece.quanta quantum s.piece.world (worlds (pieces_of ss)) (let e = h.0 in omega (arith, e, here)); marks = h.1 }
in_force start (s ∷ ss) quanta quantum (suc i) d h l before here =
    let e = h.0 in
    let first : s.end ≤ start + quantum = before 0 (omega arith) in
    let rest : ℕ = quantum - s.piece.quanta in
    let whole : quantum ≡ s.piece.quanta + rest = omega (arith, e, first) in
    let same : s.end + rest ≡ start + quantum = omega (arith, e, first) in
    let found = in_force s.end ss quanta rest i d h.2 (omega arith) (λ k lower. subst (λ n. (slice_index_or ss k d).end ≤ n) (sym same) (before (suc k) (omega arith))) (subst (λ n. n < (slice_index_or ss i d).end) (sym same) here) in
    record {
      there = ap (slice_get (worlds (pieces_of (s ∷ ss)))) whole ∙ get_behind s.piece.quanta rest s.piece.world (worlds (pieces_of ss)) ∙ found.there;
      marks = found.marks;
    }

-- where all end by a quantum, it is past the tape
pub past_all : (start : ℕ) (ss : List Stretch) (quanta quantum : ℕ) → AreStretches start ss quanta → start ≤ quantum → ((k : ℕ) (d : Stretch) → k < length ss → (slice_index_or ss k d).end ≤ quantum) → quanta ≤ quantum
past_all start [] quanta quantum h low each = omega (arith, h, low)
past_all start (s ∷ ss) quanta quantum h low each = past_all s.end ss quanta quantum h.2 (each 0 s (omega arith)) (λ k d l. each (suc k) d (omega arith))

-- ends do not fall
ends_high : (start : ℕ) (ss : List Stretch) (quanta i : ℕ) (d : Stretch) → AreStretches start ss quanta → i < length ss → start ≤ (slice_index_or ss i d).end
ends_high start [] quanta i d h l = absurd (omega arith)
ends_high start (s ∷ ss) quanta zero d h l = let e = h.0 in omega (arith, e)
ends_high start (s ∷ ss) quanta (suc i) d h l = let e = h.0 in let more = ends_high s.end ss quanta i d h.2 (omega arith) in omega (arith, e, more)

pub ends_rise : (start : ℕ) (ss : List Stretch) (quanta : ℕ) → AreStretches start ss quanta → IsNonDecreasingBy end_of ss
ends_rise start [] quanta h i j d l m = absurd (omega arith)
ends_rise start (s ∷ ss) quanta h zero zero d l m = omega arith
ends_rise start (s ∷ ss) quanta h zero (suc j) d l m = ends_high s.end ss quanta j d h.2 (omega arith)
ends_rise start (s ∷ ss) quanta h (suc i) zero d l m = absurd (omega arith)
ends_rise start (s ∷ ss) quanta h (suc i) (suc j) d l m = ends_rise s.end ss quanta h.2 i j d (omega arith) (omega arith)

-- ---- the piece at which a search that halves the list ends

below_test : (a b : ℕ) → leb a b ≡ true → a ≤ b
below_test a b t = grind (arith, nat_tests)

above_test : (a b : ℕ) → leb a b ≡ false → b < a
above_test a b t = grind (arith, nat_tests)

module _ (ss : List Stretch) (quanta quantum i : ℕ) (are : AreStretches 0 ss quanta)
    (before : (k : ℕ) (e : Stretch) → 0 ≤ k → k < i → leb (end_of (slice_index_or ss k e)) quantum ≡ true)
    (behind : (k : ℕ) (e : Stretch) → i ≤ k → k < length ss → leb (end_of (slice_index_or ss k e)) quantum ≡ false) where
  pub at_found : (d : Stretch) → i < length ss → IsInForce (worlds (pieces_of ss)) quantum (slice_index_or ss i d)
  at_found d l =
      in_force 0 ss quanta quantum i d are l
      (λ k low. let e = below_test (slice_index_or ss k d).end quantum (before k d (omega arith) low) in omega (arith, e))
      (let e = above_test (slice_index_or ss i d).end quantum (behind i d (omega arith) l) in omega (arith, e))

  pub at_past : length ss ≤ i → length (worlds (pieces_of ss)) ≤ quantum
  at_past l =
      let most = past_all 0 ss quanta quantum are (omega arith) (λ k d low. below_test (slice_index_or ss k d).end quantum (before k d (omega arith) (omega arith))) in
      let all = quanta_are 0 ss quanta are in
      omega (arith, most, all)
