-- Operations as the calls of a list: how many they are, and one list of them behind another.
use Rattle.std.proofs.Common.{◌≡◌, ℕ, suc, zero, List, [], ◌∷◌, ◌++◌, ◌+◌, refl, sym, ap, ◌∙◌, append_assoc, length, arith, pos}
use Rattle.std.proofs.lemmas.List.{append-nil, length-append}
use Rattle.script_ast.specs.declared.call_list.Call.{Call}
use Rattle.script_ast.specs.declared.operations.Op.{Op}
use Rattle.script_ast.specs.declared.operations.Op.TheVariants.{Suspend, Resume, StartRendering}
use Rattle.load_gen.specs.Generator.{in_list, Adds, muting_ops, ops_before, held_ops, calls}
use Rattle.load_gen.specs.Voices.{ops_of_voices}

pub in_list_length : (first holder : ℕ) (ops : List Op) → length (in_list first holder ops) ≡ length ops
in_list_length first holder [] = refl
in_list_length first holder (op ∷ ops) = ap suc (in_list_length (suc first) holder ops)

pub in_list_append : (first holder : ℕ) (xs ys : List Op) → in_list first holder (xs ++ ys) ≡ in_list first holder xs ++ in_list (length xs + first) holder ys
in_list_append first holder [] ys = let none : first ≡ 0 + first = omega arith in ap (λ n. in_list n holder ys) none
in_list_append first holder (x ∷ xs) ys =
    let rest = in_list_append (suc first) holder xs ys in
    let next : length xs + suc first ≡ suc (length xs) + first = omega arith in
    ap (λ (cs : List Call). record { ordinal = first; holder = holder; op = x } ∷ cs) (rest ∙ ap (λ n. in_list (suc first) holder xs ++ in_list n holder ys) next)

pub adds_length : (holder : ℕ) (ops : List Op) (old new : List Call) → Adds holder ops old new → length new ≡ length old + length ops
adds_length holder ops old new adds =
    ap length adds ∙ length-append old (in_list (length old + 1) holder ops) ∙ ap (λ n. length old + n) (in_list_length (length old + 1) holder ops)

pub adds_nothing : (holder : ℕ) (calls : List Call) → Adds holder [] calls calls
adds_nothing holder calls = sym (append-nil calls)

pub adds_then : (holder : ℕ) (xs ys : List Op) (old middle new : List Call) → Adds holder xs old middle → Adds holder ys middle new → Adds holder (xs ++ ys) old new
adds_then holder xs ys old middle new first second =
    let long = adds_length holder xs old middle first in
    let next : length middle + 1 ≡ length xs + (length old + 1) = omega (arith, long) in
    second
    ∙ ap (λ n. middle ++ in_list n holder ys) next
    ∙ ap (λ (cs : List Call). cs ++ in_list (length xs + (length old + 1)) holder ys) first
    ∙ append_assoc old (in_list (length old + 1) holder xs) (in_list (length xs + (length old + 1)) holder ys)
    ∙ ap (λ (cs : List Call). old ++ cs) (sym (in_list_append (length old + 1) holder xs ys))

pub muting_length : (voices : ℕ) → length (muting_ops voices) ≡ voices
muting_length zero = refl
muting_length (suc voices) = length-append (muting_ops voices) _ ∙ omega (arith, muting_length voices)

-- The calls of a script, one part behind another.
module _ (seed suspension : ℕ) (voices before muted held all : List Call)
    (v : Adds 0 (ops_of_voices seed 200) [] voices) (s : Adds 0 (Suspend (pos 240000) ∷ []) voices before) (at : suspension ≡ length voices + 1)
    (m : Adds suspension (muting_ops 40) before muted) (r : Adds suspension (Resume ∷ []) muted held)
    (last : Adds 0 (StartRendering ∷ []) held all) where
  before_is : before ≡ in_list 1 0 (ops_before seed)
  before_is = adds_then 0 (ops_of_voices seed 200) (Suspend (pos 240000) ∷ []) [] voices before v s

  before_length : length before ≡ length (ops_before seed)
  before_length = ap length before_is ∙ in_list_length 1 0 (ops_before seed)

  at_suspension : suspension ≡ length (ops_before seed)
  at_suspension = omega (arith, at, adds_length 0 (Suspend (pos 240000) ∷ []) voices before s, before_length)

  held_is : held ≡ before ++ in_list (length before + 1) suspension held_ops
  held_is = adds_then suspension (muting_ops 40) (Resume ∷ []) before muted held m r

  held_length : length held ≡ length before + length held_ops
  held_length = adds_length suspension held_ops before held held_is

  pub calls_are : all ≡ calls seed
  unfolding calls
  calls_are =
      let place : List Op = ops_before seed in
      let next : length held + 1 ≡ length place + length held_ops + 1 = omega (arith, held_length, before_length) in
      let within : in_list (length before + 1) suspension held_ops ≡ in_list (length place + 1) (length place) held_ops =
      ap (λ n. in_list (n + 1) suspension held_ops) before_length ∙ ap (λ n. in_list (length place + 1) n held_ops) at_suspension in
      last
      ∙ ap (λ n. held ++ in_list n 0 (StartRendering ∷ [])) next
      ∙ ap (λ (cs : List Call). cs ++ in_list (length place + length held_ops + 1) 0 (StartRendering ∷ [])) (held_is ∙ ap (λ (cs : List Call). before ++ cs) within ∙ ap (λ (cs : List Call). cs ++ in_list (length place + 1) (length place) held_ops) before_is)
      ∙ append_assoc (in_list 1 0 place) (in_list (length place + 1) (length place) held_ops) (in_list (length place + length held_ops + 1) 0 (StartRendering ∷ []))
