-- A book whose objects are told by ordinals tells for which nodes names stand.
use Rattle.std.proofs.Common.{ℕ, ◌≡◌, List, [], ◌∷◌, Bool, true, false, Option, Some, None, bytes_eq, refl, sym, ◌∙◌, ap, subst, inl, inr}
use Rattle.std.specs.Prelude.{if◌then◌else◌, option_and_then, codes, not, ◌&&◌}
use Rattle.std.specs.Option.{option_map_or}
use Rattle.std.proofs.lemmas.Bool.{cases_Bool}
use Rattle.std.proofs.lemmas.Slice.Eq.{bytes_eq-Decides}
use Rattle.std.proofs.lemmas.Option.{same_Some, none-some}
use Rattle.law_base.proofs.Tests.{and_parts}
use Rattle.script_ast.specs.Operations.{new_name, IsInRange}
use Rattle.script_ast.specs.Ranges.{IsNewName, is_new_name, has_name_length, has_name_bytes}
use Rattle.script_ast.specs.declared.operations.Op.{Op}
use Rattle.script_ast.specs.declared.operations.Op.TheVariants as op
use Rattle.script_ast.specs.declared.call_list.Call.{Call}
use Rattle.name_book.specs.Book.{destination, object_of}
use Rattle.name_book.specs.declared.book.Object.{Object}
use Rattle.name_book.specs.declared.book.Object.TheVariants.{Node}
use Rattle.prune_script.specs.Pruned.{creates_node, node_bound}
use Rattle.prune_script.specs.Names.{node_of, TellsNames}

apart : (xs ys : List ℕ) → ¬ (xs ≡ ys) → bytes_eq xs ys ≡ false
apart xs ys differ = elim (cases_Bool (bytes_eq xs ys)) [
  | inl same ↦ absurd (differ ((bytes_eq-Decides xs ys).0 same))
  | inr other ↦ other
]

-- at first no name stands for a node but the destination's
pub names_at_first : TellsNames [] []
names_at_first name = by_test (bytes_eq name destination)
  where
    by_test : (b : Bool) → option_and_then node_of (if b then Some (Node (record { 0 = 0 })) else None) ≡ (if b then Some 0 else None)
    by_test true = refl
    by_test false = refl

-- a call that gives no name
pub names_without : (bindings : List (List ℕ × Object)) (earlier : List Call) (call : Call) → new_name call.op ≡ None → TellsNames bindings earlier → TellsNames bindings (call ∷ earlier)
names_without bindings earlier call none tells name =
    tells name ∙ ap (λ o. if bytes_eq name destination then Some 0 else (if option_map_or (bytes_eq name) o false then (if creates_node call.op then Some call.ordinal else None) else node_bound earlier name)) (sym none)

-- a call that gives a name
pub names_with : (old new : List (List ℕ × Object)) (earlier : List Call) (call : Call) (name : List ℕ) (object : Object)
    → new_name call.op ≡ Some name → ¬ (name ≡ destination) → node_of object ≡ (if creates_node call.op then Some call.ordinal else None)
    → object_of new name ≡ Some object → ((other : List ℕ) → ¬ (other ≡ name) → object_of new other ≡ object_of old other)
    → TellsNames old earlier → TellsNames new (call ∷ earlier)
names_with old new earlier call name object gives free is here others tells other = elim (cases_Bool (bytes_eq other name)) [
  | inl same ↦
      let e : other ≡ name = (bytes_eq-Decides other name).0 same in
      ap (option_and_then node_of) (ap (object_of new) e ∙ here) ∙ is
      ∙ sym (ap (λ b. if b then Some 0 else bound_now other) (apart other destination (λ d. free (sym e ∙ d))) ∙ gives_name other ∙ ap (λ b. if b then created else node_bound earlier other) same)
  | inr differs ↦
      ap (option_and_then node_of) (others other (λ e. let t = (bytes_eq-Decides other name).1 e in let f : true ≡ false = sym t ∙ differs in cc))
      ∙ tells other
      ∙ ap (λ o. if bytes_eq other destination then Some 0 else o) (sym (gives_name other ∙ ap (λ b. if b then created else node_bound earlier other) differs))
]
  where
    created : Option ℕ
    created = if creates_node call.op then Some call.ordinal else None

    bound_now : List ℕ → Option ℕ
    bound_now n = node_bound (call ∷ earlier) n

    gives_name : (n : List ℕ) → node_bound (call ∷ earlier) n ≡ (if bytes_eq n name then created else node_bound earlier n)
    gives_name n = ap (λ o. if option_map_or (bytes_eq n) o false then created else node_bound earlier n) gives

-- ---- new names

new_name_in_range : (o : Op) (name : List ℕ) → IsInRange o → new_name o ≡ Some name → IsNewName name
new_name_in_range (op.Create n kind) name range is = subst IsNewName (same_Some n name is) range.0
new_name_in_range (op.CreateDelay n max_delay_time delay_time) name range is = subst IsNewName (same_Some n name is) range.0
new_name_in_range (op.CreateWaveShaper n curve oversample) name range is = subst IsNewName (same_Some n name is) range.0
new_name_in_range (op.CreateConvolver n buffer disable_normalization) name range is = subst IsNewName (same_Some n name is) range.0
new_name_in_range (op.CreateProcessor n code) name range is = subst IsNewName (same_Some n name is) range.0
new_name_in_range (op.CreateBufferSource n buffer looping loop_start loop_end playback_rate) name range is = subst IsNewName (same_Some n name is) range.0
new_name_in_range (op.CreateBuffer n channels frames rate) name range is = subst IsNewName (same_Some n name is) range.0
new_name_in_range (op.DecodeAudioData n path) name range is = subst IsNewName (same_Some n name is) range.0
new_name_in_range other name range is = absurd (let e : None ≡ Some name = is in none-some name e)

-- the name that a call gives is not the destination's
pub free_name : (o : Op) (name : List ℕ) → IsInRange o → new_name o ≡ Some name → ¬ (name ≡ destination)
unfolding is_new_name destination
free_name o name range is e =
    let parts = and_parts (has_name_length name && has_name_bytes name) (not (bytes_eq name (codes "destination"))) (new_name_in_range o name range is) in
    let same : bytes_eq name (codes "destination") ≡ true = (bytes_eq-Decides name (codes "destination")).1 e in
    let f : not true ≡ true = ap not (sym same) ∙ parts.1 in
    let g : false ≡ true = f in
    cc
