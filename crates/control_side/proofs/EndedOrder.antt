-- The order of the lines of ends.
use Rattle.std.proofs.Common.{ℕ, zero, suc, ◌+◌, ◌<◌, List, [], ◌∷◌, map, Bool, true, false, arith}
use Rattle.std.specs.Prelude.{if◌then◌else◌, unwrap_or}
use Rattle.std.specs.List.{All, AllPairs}
use Rattle.std.proofs.lemmas.List.Kept.{AllPairs-cons, AllPairs-from_increasing}
use Rattle.name_book.specs.Book.{first_name_of}
use Rattle.transcript.specs.declared.lines.Line.TheVariants as line
use Rattle.control_msgs.specs.Messages.{ends_by}
use Rattle.meaning.specs.declared.scheds.Play.{Play}
use Rattle.control_side.specs.Turns.{ended_lines}
use Rattle.control_side.specs.Laws.{EndedLaw, ended_nodes}

abbrev node : Play → ℕ
node p = p.id.0

all_more : (P : ℕ → Type 0) (x : ℕ) (xs : List ℕ) → P x → All P xs → All P (x ∷ xs)
all_more P x xs here all zero d l = here
all_more P x xs here all (suc k) d l = all k d (omega arith)

module _ (names : List (ℕ × List ℕ)) (now : ℕ) where
  ended : List Play → List ℕ
  ended plays = ended_nodes (ended_lines names now plays)

  -- what holds of the nodes of all schedules holds of those that end
  all_ended : (P : ℕ → Type 0) (plays : List Play) → All P (map node plays) → All P (ended plays)
  unfolding ended
  all_ended P [] all = all
  all_ended P (p ∷ ps) all = by_test (ends_by now p.sched) (all_ended P ps (λ k d l. all (suc k) d (omega arith)))
    where
      by_test : (b : Bool) → All P (ended ps) → All P (ended_nodes (if b then line.Ended p.id (unwrap_or (first_name_of names p.id.0) []) ∷ ended_lines names now ps else ended_lines names now ps))
      by_test true rest = all_more P p.id.0 (ended ps) (all 0 0 (omega arith)) rest
      by_test false rest = rest

  pairs_ended : (plays : List Play) → AllPairs (λ a b. a < b) (map node plays) → AllPairs (λ a b. a < b) (ended plays)
  unfolding ended
  pairs_ended [] up = up
  pairs_ended (p ∷ ps) up = by_test (ends_by now p.sched) (pairs_ended ps (λ i j d l m. up (suc i) (suc j) d (omega arith) (omega arith)))
    where
      by_test : (b : Bool) → AllPairs (λ a b. a < b) (ended ps) → AllPairs (λ a b. a < b) (ended_nodes (if b then line.Ended p.id (unwrap_or (first_name_of names p.id.0) []) ∷ ended_lines names now ps else ended_lines names now ps))
      by_test true rest = AllPairs-cons (λ a b. a < b) p.id.0 (ended ps) (all_ended (λ b. p.id.0 < b) ps (λ k d l. up 0 (suc k) d (omega arith) (omega arith))) rest
      by_test false rest = rest

pub ended_up : EndedLaw
unfolding ended
ended_up names now w valid = λ k l. pairs_ended names now w.scheds.items (AllPairs-from_increasing _ valid.scheds.order) k (k + 1) 0 (omega arith) l
