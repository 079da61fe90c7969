-- Names that stand for nodes and buffers that are there.
use Rattle.std.proofs.Common.{ℕ, ◌≡◌, ◌≤◌, length, List, [], ◌∷◌, All, slice_index_or, Bool, true, false, Option, Some, None, IsSome, ap, subst, arith}
use Rattle.std.specs.Prelude.{if◌then◌else◌, unwrap_or, IfSome}
use Rattle.std.specs.Map.{lookup}
use Rattle.std.specs.Str.{bytes_eq}
use Rattle.std.proofs.lemmas.List.Elements.{All-cons, All-head, All-tail}
use Rattle.std.proofs.lemmas.Map.Entries.{All-lookup}
use Rattle.name_book.specs.Book.{bound, object_of, first_named, first_name_of, destination}
use Rattle.name_book.specs.declared.book.Object.{Object}
use Rattle.name_book.specs.declared.book.Object.TheVariants.{Node, Buffer}
use Rattle.name_book.proofs.FirstNames.{first_name_is_there, first_name_is_kept}
use Rattle.meaning.specs.declared.world.World.{World}
use Rattle.control_side.specs.Steady.{IsThere}

-- what holds of each object holds after a binding
pub All-bound : (P : Object → Type 0) (bindings : List (List ℕ × Object)) (name : List ℕ) (object : Object)
    → All (λ (b : List ℕ × Object). P b.1) bindings → P object → All (λ (b : List ℕ × Object). P b.1) (bound bindings name object)
All-bound P [] name object each here = All-cons (λ (b : List ℕ × Object). P b.1) (name, object) [] here each
All-bound P (b ∷ bs) name object each here = by_test (bytes_eq name b.0) (All-bound P bs name object (All-tail (λ (x : List ℕ × Object). P x.1) b bs each) here)
  where
    by_test : (same : Bool) → All (λ (x : List ℕ × Object). P x.1) (bound bs name object) → All (λ (x : List ℕ × Object). P x.1) (if same then (b.0, object) ∷ bs else b ∷ bound bs name object)
    by_test true rest = All-cons (λ (x : List ℕ × Object). P x.1) (b.0, object) bs here (All-tail (λ (x : List ℕ × Object). P x.1) b bs each)
    by_test false rest = All-cons (λ (x : List ℕ × Object). P x.1) b (bound bs name object) (All-head (λ (x : List ℕ × Object). P x.1) b bs each) rest

-- an object that is there is there among more nodes and buffers
pub there_still : (w next : World) → length w.nodes ≤ length next.nodes → length w.store ≤ length next.store → (object : Object) → IsThere w object → IsThere next object
there_still w next nodes buffers (Node node) there = omega arith
there_still w next nodes buffers (Buffer buffer) there = omega arith

-- an object for which a name stands is there
found_there : (w : World) (found : Option Object) (object : Object) → IfSome found (IsThere w) → found ≡ Some object → IsThere w object
found_there w None object there is = absurd cc
found_there w (Some other) object there is = subst (IsThere w) (ap (λ o. unwrap_or o object) is) there

pub named_there : (bindings : List (List ℕ × Object)) (name : List ℕ) (w : World) (object : Object) → 1 ≤ length w.nodes → All (λ (b : List ℕ × Object). IsThere w b.1) bindings
    → object_of bindings name ≡ Some object → IsThere w object
named_there bindings name w object some each is = by_test (bytes_eq name destination) is
  where
    by_test : (same : Bool) → (if same then Some (Node (record { 0 = 0 })) else lookup (bytes_eq name) bindings) ≡ Some object → IsThere w object
    by_test true same = found_there w (Some (Node (record { 0 = 0 }))) object some same
    by_test false same = found_there w (lookup (bytes_eq name) bindings) object (All-lookup (IsThere w) (bytes_eq name) bindings each) same

-- nodes that have first names keep them
pub named_still : (names : List (ℕ × List ℕ)) (object : Object) (name : List ℕ) (numbers : List ℕ) → All (λ node. IsSome (first_name_of names node)) numbers
    → All (λ node. IsSome (first_name_of (first_named names object name) node)) numbers
named_still names object name numbers each = λ k d l. rw (first_name_is_kept names object name (slice_index_or numbers k d) (each k d l)) (each k d l)

-- and the new one has one
pub named_new : (names : List (ℕ × List ℕ)) (node : ℕ) (name : List ℕ) → IsSome (first_name_of (first_named names (Node (record { 0 = node })) name) node)
named_new names node name = first_name_is_there names (Node (record { 0 = node })) name
