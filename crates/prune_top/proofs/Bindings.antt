-- What names stand for after a call that binds one.
use Rattle.std.proofs.Common.{ℕ, ◌≡◌, List, [], ◌∷◌, Bool, true, false, cond, bytes_eq, Option, None, Some, refl, sym, ◌∙◌, ap, subst}
use Rattle.std.specs.Prelude.{if◌then◌else◌}
use Rattle.std.specs.Map.{lookup}
use Rattle.std.proofs.lemmas.Slice.Eq.{bytes_eq-Decides}
use Rattle.name_book.specs.Book.{destination, bound, object_of}
use Rattle.name_book.specs.declared.book.Object.{Object}
use Rattle.name_book.specs.declared.book.Object.TheVariants as object
use Rattle.script_ast.specs.Operations.{new_name}
use Rattle.script_ast.specs.declared.call_list.Call.{Call}
use Rattle.prune_script.specs.Pruned.{creates_node, node_bound, node_named as creator_named}
use Rattle.prune.proofs.Flags.{Flags}
use Rattle.prune_top.proofs.Alike.{IsSameObject, IsTold}

both_names : (q name other : List ℕ) → bytes_eq q name ≡ true → bytes_eq q other ≡ true → bytes_eq name other ≡ true
both_names q name other e f = (bytes_eq-Decides name other).1 (sym ((bytes_eq-Decides q name).0 e) ∙ (bytes_eq-Decides q other).0 f)

pub lookup_bound : (bs : List (List ℕ × Object)) (name : List ℕ) (new : Object) (q : List ℕ) → lookup (bytes_eq q) (bound bs name new) ≡ cond (bytes_eq q name) (Some new) (lookup (bytes_eq q) bs)
lookup_bound [] name new q = refl
lookup_bound (b ∷ bs) name new q = by_test (bytes_eq name b.0) (bytes_eq q b.0) (bytes_eq q name) refl refl refl (lookup_bound bs name new q)
  where
    by_test : (t s r : Bool) → bytes_eq name b.0 ≡ t → bytes_eq q b.0 ≡ s → bytes_eq q name ≡ r → lookup (bytes_eq q) (bound bs name new) ≡ cond (bytes_eq q name) (Some new) (lookup (bytes_eq q) bs)
        → lookup (bytes_eq q) (if t then (b.0, new) ∷ bs else b ∷ bound bs name new) ≡ cond r (Some new) (cond s (Some b.1) (lookup (bytes_eq q) bs))
    by_test true true true e f g rest = rw f refl
    by_test true true false e f g rest = absurd (let k : bytes_eq q name ≡ true = (bytes_eq-Decides q name).1 ((bytes_eq-Decides q b.0).0 f ∙ sym ((bytes_eq-Decides name b.0).0 e)) in cc)
    by_test true false true e f g rest = absurd (let k : bytes_eq q b.0 ≡ true = (bytes_eq-Decides q b.0).1 ((bytes_eq-Decides q name).0 g ∙ (bytes_eq-Decides name b.0).0 e) in cc)
    by_test true false false e f g rest = rw f refl
    by_test false true true e f g rest = absurd (let k = both_names q name b.0 g f in cc)
    by_test false true false e f g rest = rw f refl
    by_test false false true e f g rest = rw f (rest ∙ ap (λ b. cond b (Some new) (lookup (bytes_eq q) bs)) g)
    by_test false false false e f g rest = rw f (rest ∙ ap (λ b. cond b (Some new) (lookup (bytes_eq q) bs)) g)

pub object_bound : (bs : List (List ℕ × Object)) (name : List ℕ) (new : Object) (q : List ℕ)
    → object_of (bound bs name new) q ≡ (if bytes_eq q destination then Some (object.Node (record { 0 = 0 })) else if bytes_eq q name then Some new else lookup (bytes_eq q) bs)
object_bound bs name new q = ap (λ (o : Option Object). if bytes_eq q destination then Some (object.Node (record { 0 = 0 })) else o) (lookup_bound bs name new q)

-- ---- what the calls tell

pub told_still : (call : Call) (earlier : List Call) (q : List ℕ) → new_name call.op ≡ None → creator_named (call ∷ earlier) q ≡ creator_named earlier q
told_still call earlier q none = rw none refl

pub told_bound : (call : Call) (earlier : List Call) (name q : List ℕ) → new_name call.op ≡ Some name
    → creator_named (call ∷ earlier) q ≡ (if bytes_eq q destination then Some 0 else if bytes_eq q name then (if creates_node call.op then Some call.ordinal else None) else node_bound earlier q)
told_bound call earlier name q is = rw is refl

module _ (fs : Flags) (live : ℕ → Bool) (place : ℕ → ℕ) where
  abbrev Same : Option Object → Option Object → Type 0
  Same = IsSameObject fs live place

  abbrev Told : Option Object → Option ℕ → Type 0
  Told = IsTold fs live place

  -- both bind a name
  pub same_bound : (whole part : List (List ℕ × Object)) (name : List ℕ) (new other : Object) → ((q : List ℕ) → Same (object_of whole q) (object_of part q)) → Same (Some new) (Some other)
      → (q : List ℕ) → Same (object_of (bound whole name new) q) (object_of (bound part name other) q)
  same_bound whole part name new other each own q =
      subst (λ o. Same o (object_of (bound part name other) q)) (sym (object_bound whole name new q))
      (subst (λ o. Same (if bytes_eq q destination then Some (object.Node (record { 0 = 0 })) else if bytes_eq q name then Some new else lookup (bytes_eq q) whole) o) (sym (object_bound part name other q))
      (by_tests (bytes_eq q destination) (bytes_eq q name) (each q)))
    where
      by_tests : (t s : Bool) → Same (if t then Some (object.Node (record { 0 = 0 })) else lookup (bytes_eq q) whole) (if t then Some (object.Node (record { 0 = 0 })) else lookup (bytes_eq q) part)
          → Same (if t then Some (object.Node (record { 0 = 0 })) else if s then Some new else lookup (bytes_eq q) whole) (if t then Some (object.Node (record { 0 = 0 })) else if s then Some other else lookup (bytes_eq q) part)
      by_tests true s old = old
      by_tests false true old = own
      by_tests false false old = old

  -- the whole alone binds a name
  pub same_dropped : (whole part : List (List ℕ × Object)) (name : List ℕ) (new : Object) → ((q : List ℕ) → Same (object_of whole q) (object_of part q)) → ((other : Option Object) → Same (Some new) other)
      → (q : List ℕ) → Same (object_of (bound whole name new) q) (object_of part q)
  same_dropped whole part name new each own q =
      subst (λ o. Same o (object_of part q)) (sym (object_bound whole name new q)) (by_tests (bytes_eq q destination) (bytes_eq q name) (each q))
    where
      by_tests : (t s : Bool) → Same (if t then Some (object.Node (record { 0 = 0 })) else lookup (bytes_eq q) whole) (if t then Some (object.Node (record { 0 = 0 })) else lookup (bytes_eq q) part)
          → Same (if t then Some (object.Node (record { 0 = 0 })) else if s then Some new else lookup (bytes_eq q) whole) (if t then Some (object.Node (record { 0 = 0 })) else lookup (bytes_eq q) part)
      by_tests true s old = old
      by_tests false true old = own (lookup (bytes_eq q) part)
      by_tests false false old = old

  -- the calls tell of it
  pub bound_told : (whole : List (List ℕ × Object)) (call : Call) (earlier : List Call) (name : List ℕ) (new : Object) → new_name call.op ≡ Some name
      → ((q : List ℕ) → Told (object_of whole q) (creator_named earlier q)) → Told (Some new) (if creates_node call.op then Some call.ordinal else None)
      → (q : List ℕ) → Told (object_of (bound whole name new) q) (creator_named (call ∷ earlier) q)
  bound_told whole call earlier name new is each own q =
      subst (λ o. Told o (creator_named (call ∷ earlier) q)) (sym (object_bound whole name new q))
      (subst (λ o. Told (if bytes_eq q destination then Some (object.Node (record { 0 = 0 })) else if bytes_eq q name then Some new else lookup (bytes_eq q) whole) o) (sym (told_bound call earlier name q is))
      (by_tests (bytes_eq q destination) (bytes_eq q name) (each q)))
    where
      by_tests : (t s : Bool) → Told (if t then Some (object.Node (record { 0 = 0 })) else lookup (bytes_eq q) whole) (if t then Some 0 else node_bound earlier q)
          → Told (if t then Some (object.Node (record { 0 = 0 })) else if s then Some new else lookup (bytes_eq q) whole)
          (if t then Some 0 else if s then (if creates_node call.op then Some call.ordinal else None) else node_bound earlier q)
      by_tests true s old = old
      by_tests false true old = own
      by_tests false false old = old
