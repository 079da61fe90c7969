-- What accepted calls do tells the connections and the calls that are heard.
use Rattle.std.proofs.Common.{ℕ, ◌≡◌, ◌<◌, List, [], ◌∷◌, ◌++◌, Bool, true, false, Option, Some, None, refl, ◌∙◌, ap, ap₂}
use Rattle.std.specs.Prelude.{if◌then◌else◌, All, IfSome, bytes_eq}
use Rattle.std.specs.List.{filter_map, cons_option}
use Rattle.std.specs.Option.{option_map_or}
use Rattle.std.proofs.lemmas.List.Elements.{All-nil, All-cons, All-head, All-tail}
use Rattle.script_ast.specs.Operations.{new_name}
use Rattle.script_ast.specs.declared.call_list.Call.{Call}
use Rattle.script_ast.specs.declared.operations.Op.{Op}
use Rattle.script_ast.specs.declared.operations.Op.TheVariants as op
use Rattle.name_book.specs.Book.{destination}
use Rattle.prune_script.specs.Pruned.{creates_node, node_names, node_bound, node_named, named_nodes, touched_nodes, is_connect, first_two, connections_of, connections, is_live, heard_calls}
use Rattle.prune_script.specs.Deeds.{DeedView, deed, deeds, link, links, is_heard, heard_of, IsBelow}

-- a call that connects creates nothing
only_connects : (o : Op) → is_connect o ≡ true → creates_node o ≡ false
only_connects (op.Connect from output to input) is = refl
only_connects (op.ConnectParam from output to param) is = refl
only_connects other is = absurd (let f : false ≡ true = is in cc)

link_is : (earlier : List Call) (call : Call) → link (deed earlier call) ≡ connections_of earlier call
link_is earlier call = by_test (is_connect call.op) refl
  where
    by_test : (b : Bool) → is_connect call.op ≡ b → (if b then first_two (touched_nodes earlier call) else []) ≡ (if b then first_two (named_nodes earlier call) else [])
    by_test true is = ap (λ c. first_two (if c then call.ordinal ∷ [] else named_nodes earlier call)) (only_connects call.op is)
    by_test false is = refl

-- the connections that calls make, by what the calls do
pub links_are : (earlier calls : List Call) → links (deeds earlier calls) ≡ connections earlier calls
links_are earlier [] = refl
links_are earlier (call ∷ calls) = ap₂ (λ xs ys. xs ++ ys) (link_is earlier call) (links_are (call ∷ earlier) calls)

-- the calls that are heard, by what the calls do
pub heard_are : (live : ℕ → Bool) (earlier calls : List Call) → heard_of live (deeds earlier calls) ≡ heard_calls live earlier calls
heard_are live earlier [] = refl
heard_are live earlier (call ∷ calls) = by_test (is_heard live (deed earlier call)) (heard_are live (call ∷ earlier) calls)
  where
    by_test : (b : Bool) → heard_of live (deeds (call ∷ earlier) calls) ≡ heard_calls live (call ∷ earlier) calls
        → cons_option (if b then Some call.ordinal else None) (heard_of live (deeds (call ∷ earlier) calls))
        ≡ (if b then call.ordinal ∷ heard_calls live (call ∷ earlier) calls else heard_calls live (call ∷ earlier) calls)
    by_test true rest = ap (λ xs. call.ordinal ∷ xs) rest
    by_test false rest = rest

-- ---- one call more

-- these calls, the newest first, after others
abbrev pub after : List Call → List Call → List Call
after earlier [] = earlier
after earlier (call ∷ calls) = after (call ∷ earlier) calls

pub after_push : (earlier calls : List Call) (call : Call) → after earlier (calls ++ call ∷ []) ≡ call ∷ after earlier calls
after_push earlier [] call = refl
after_push earlier (first ∷ calls) call = after_push (first ∷ earlier) calls call

pub deeds_push : (earlier calls : List Call) (call : Call) → deeds earlier (calls ++ call ∷ []) ≡ deeds earlier calls ++ deed (after earlier calls) call ∷ []
deeds_push earlier [] call = refl
deeds_push earlier (first ∷ calls) call = ap (λ ds. deed earlier first ∷ ds) (deeds_push (first ∷ earlier) calls call)

-- ---- numbers

some_all : {X Y : Type 0} (P : Y → Type 0) (f : X → Option Y) (xs : List X) → ((x : X) → IfSome (f x) P) → All P (filter_map f xs)
some_all P f [] each = All-nil P
some_all {Y = Y} P f (x ∷ xs) each = by_case (f x) (each x) (some_all P f xs each)
  where
    by_case : (o : Option Y) → IfSome o P → All P (filter_map f xs) → All P (cons_option o (filter_map f xs))
    by_case None h rest = rest
    by_case (Some y) h rest = All-cons P y (filter_map f xs) h rest

module _ (count : ℕ) (some : 0 < count) where
  abbrev IsLow : Call → Type 0
  IsLow call = call.ordinal < count

  bound_below : (earlier : List Call) (name : List ℕ) → All IsLow earlier → IfSome (node_bound earlier name) (λ node. node < count)
  bound_below [] name low = tt
  bound_below (call ∷ earlier) name low = by_test (option_map_or (bytes_eq name) (new_name call.op) false) (creates_node call.op) (bound_below earlier name (All-tail IsLow call earlier low))
    where
      by_test : (here node : Bool) → IfSome (node_bound earlier name) (λ n. n < count) → IfSome (if here then (if node then Some call.ordinal else None) else node_bound earlier name) (λ n. n < count)
      by_test true true rest = All-head IsLow call earlier low
      by_test true false rest = tt
      by_test false node rest = rest

  named_below : (earlier : List Call) (name : List ℕ) → All IsLow earlier → IfSome (node_named earlier name) (λ node. node < count)
  named_below earlier name low = by_test (bytes_eq name destination)
    where
      by_test : (b : Bool) → IfSome (if b then Some 0 else node_bound earlier name) (λ node. node < count)
      by_test true = some
      by_test false = bound_below earlier name low

  -- the nodes that a call touches have the ordinals of calls before it, its own, or 0
  pub deed_below : (earlier : List Call) (call : Call) → All IsLow earlier → call.ordinal < count → IsBelow count (deed earlier call)
  deed_below earlier call low here = record { ordinal = here; nodes = by_test (creates_node call.op) }
    where
      by_test : (b : Bool) → All (λ node. node < count) (if b then call.ordinal ∷ [] else named_nodes earlier call)
      by_test true = All-cons (λ (node : ℕ). node < count) call.ordinal [] here (All-nil (λ (node : ℕ). node < count))
      by_test false = some_all (λ (node : ℕ). node < count) (node_named earlier) (node_names call.op) (λ name. named_below earlier name low)

-- the calls that are heard, from what all accepted calls do
pub heard_ordinals : (accepted : List Call) (ds : List DeedView) → ds ≡ deeds [] accepted → heard_of (is_live (links ds)) ds ≡ heard_calls (is_live (connections [] accepted)) [] accepted
heard_ordinals accepted ds are =
    ap (λ xs. heard_of (is_live (links xs)) xs) are
    ∙ ap (λ made. heard_of (is_live made) (deeds [] accepted)) (links_are [] accepted)
    ∙ heard_are (is_live (connections [] accepted)) [] accepted
