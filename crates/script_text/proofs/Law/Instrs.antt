-- The text of an instruction is read as the instruction.
use Rattle.std.proofs.Common.{◌≡◌, ◌<◌, ◌^◌, ◌&&◌, ℕ, suc, ℤ, pos, negsuc, neg_ℤ, List, [], ◌∷◌, ◌++◌, length, map, Bool, true, false, Some, None, decimal, T, refl, ap, ◌∙◌, arith, le-leb, ne_eqb}
use Rattle.std.specs.Prelude.{All, codes, int_le, is_some, option_map, if◌then◌else◌}
use Rattle.std.specs.Fmt.{signed_decimal}
use Rattle.std.specs.List.{list_all}
use Rattle.std.specs.Str.Parse.{AllDigits, without_leading_plus, starts_with_minus}
use Rattle.std.proofs.lemmas.Fmt.{decimal_is_IsNumeral}
use Rattle.std.proofs.lemmas.Int.{ints}
use Rattle.std.proofs.lemmas.Str.Parse.{tells_digits}
use Rattle.std.proofs.lemmas.List.Elements.{All-head, All-tail}
use Rattle.serde_json.specs.Data.{string}
use Rattle.serde_json.specs.View.{items_of}
use Rattle.wa_base.specs.Numbers.{IsFix}
use Rattle.node_table.specs.declared.code.Instr.{Instr}
use Rattle.node_table.specs.declared.code.Instr.TheVariants as instr
use Rattle.script_ast.specs.Ranges.{IsInstr}
use Rattle.script_ast.specs.Words.{instr_text}
use Rattle.script_fields.specs.Instructions.{is_number, number_of, signed_number_of, plain_instr_of, numbered_instr_of, instr_of, is_in_range, instrs, is_instr, code_cause, instr_or_in, code_of}
use Rattle.script_text.proofs.Law.Cut.{Without, cut_before, cut_after, cut_there, digits_all_ascii}

pub true_from_T : (b : Bool) → T b → b ≡ true
true_from_T true t = refl
true_from_T false t = absurd t

-- ---- numbers

some_digits : (xs : List ℕ) → 0 < length xs → AllDigits 10 xs → is_number xs ≡ true
some_digits xs some h = rw (le-leb 1 (length xs) some, digits_all_ascii xs h) refl

no_minus : (xs : List ℕ) → 0 < length xs → AllDigits 10 xs → starts_with_minus xs ≡ false
no_minus [] some h = absurd (omega arith)
no_minus (c ∷ xs) some h = let p = tells_digits.parts c xs h in ne_eqb c 45 (λ e. omega (arith, p.0))

no_plus : (xs : List ℕ) → 0 < length xs → AllDigits 10 xs → without_leading_plus xs ≡ xs
no_plus [] some h = absurd (omega arith)
no_plus (c ∷ xs) some h = let p = tells_digits.parts c xs h in rw (ne_eqb c 43 (λ e. omega (arith, p.0))) refl

pub number_back : (n : ℕ) → n < 2 ^ 64 → number_of (decimal n) ≡ Some n
number_back n h = let numeral = decimal_is_IsNumeral n h in rw (some_digits (decimal n) numeral.0.0 numeral.0.1, numeral.1) refl

signed_back : (z : ℤ) → IsFix z → signed_number_of (signed_decimal z) ≡ Some z
signed_back (pos n) h =
    let small : n < 2 ^ 64 = omega (arith, ints, h.1) in
    let numeral = decimal_is_IsNumeral n small in
    rw (no_minus (decimal n) numeral.0.0 numeral.0.1, no_plus (decimal n) numeral.0.0 numeral.0.1, some_digits (decimal n) numeral.0.0 numeral.0.1, numeral.1) refl
signed_back (negsuc n) h =
    let small : suc n < 2 ^ 64 = omega (arith, ints, h.0) in
    let numeral = decimal_is_IsNumeral (suc n) small in
    rw (some_digits (decimal (suc n)) numeral.0.0 numeral.0.1, numeral.1) refl

-- ---- instructions

-- a word, a space and a number
numbered : (word number : List ℕ) (i : Instr) → Without 32 word → numbered_instr_of word number ≡ Some i → instr_of (word ++ 32 ∷ number) ≡ Some i
unfolding instr_of
numbered word number i h is = rw (cut_there 32 word number h, cut_before 32 word number h, cut_after 32 word number h) is

pub instr_back : (i : Instr) → IsInstr i → instr_of (instr_text i) ≡ Some i
unfolding instr_of plain_instr_of
instr_back instr.Input h = refl
instr_back (instr.Push v) h = numbered (codes "push") (signed_decimal v) (instr.Push v) (refl, (refl, (refl, (refl, tt)))) (ap (option_map instr.Push) (signed_back v h))
instr_back (instr.Load k) h = numbered (codes "load") (decimal k) (instr.Load k) (refl, (refl, (refl, (refl, tt)))) (ap (option_map instr.Load) (number_back k (omega arith)))
instr_back (instr.Store k) h = numbered (codes "store") (decimal k) (instr.Store k) (refl, (refl, (refl, (refl, (refl, tt))))) (ap (option_map instr.Store) (number_back k (omega arith)))
instr_back instr.Add h = refl
instr_back instr.Sub h = refl
instr_back instr.Min h = refl
instr_back instr.Max h = refl
instr_back instr.Mul h = refl
instr_back instr.Neg h = refl
instr_back (instr.Div k) h = numbered (codes "div") (decimal k) (instr.Div k) (refl, (refl, (refl, tt))) (ap (option_map instr.Div) (number_back k (omega arith)))
instr_back instr.Dup h = refl
instr_back instr.Swap h = refl
instr_back instr.Discard h = refl
instr_back (instr.Skip k) h = numbered (codes "skip") (decimal k) (instr.Skip k) (refl, (refl, (refl, (refl, tt)))) (ap (option_map instr.Skip) (number_back k (omega arith)))
instr_back (instr.Skipz k) h = numbered (codes "skipz") (decimal k) (instr.Skipz k) (refl, (refl, (refl, (refl, (refl, tt))))) (ap (option_map instr.Skipz) (number_back k (omega arith)))

both_true : (a b : Bool) → a ≡ true → b ≡ true → (a && b) ≡ true
both_true a b p q = rw (p, q) refl

pub within_fix : (v : ℤ) → IsFix v → (int_le (neg_ℤ (pos 2147483648)) v && int_le v (pos 2147483647)) ≡ true
within_fix v h = both_true _ _ (true_from_T _ h.0.le) (true_from_T _ h.1.le)

in_range : (i : Instr) → IsInstr i → is_in_range i ≡ true
in_range instr.Input h = refl
in_range (instr.Push v) h = within_fix v h
in_range (instr.Load k) h = le-leb _ _ h
in_range (instr.Store k) h = le-leb _ _ h
in_range instr.Add h = refl
in_range instr.Sub h = refl
in_range instr.Min h = refl
in_range instr.Max h = refl
in_range instr.Mul h = refl
in_range instr.Neg h = refl
in_range (instr.Div k) h = le-leb _ _ h
in_range instr.Dup h = refl
in_range instr.Swap h = refl
in_range instr.Discard h = refl
in_range (instr.Skip k) h = le-leb _ _ h
in_range (instr.Skipz k) h = le-leb _ _ h

-- ---- programs

instrs_back : (program : List Instr) → All IsInstr program → instrs (items_of (map (λ (i : Instr). string (instr_text i)) program)) ≡ map Some program
instrs_back [] h = refl
instrs_back (i ∷ program) h = λ t. instr_back i (All-head IsInstr i program h) t ∷ instrs_back program (All-tail IsInstr i program h) t

all_some : {A : Type 0} → (xs : List A) → list_all is_some (map Some xs) ≡ true
all_some [] = refl
all_some (x ∷ xs) = all_some xs

all_instrs : (program : List Instr) → All IsInstr program → list_all is_instr (map Some program) ≡ true
all_instrs [] h = refl
all_instrs (i ∷ program) h = both_true _ _ (in_range i (All-head IsInstr i program h)) (all_instrs program (All-tail IsInstr i program h))

all_read : (program : List Instr) → All IsInstr program → map instr_or_in (map Some program) ≡ program
all_read [] h = refl
all_read (i ∷ program) h = λ t. (if in_range i (All-head IsInstr i program h) t then i else instr.Input) ∷ all_read program (All-tail IsInstr i program h) t

pub code_fine : (program : List Instr) → All IsInstr program → code_cause (Some (instrs (items_of (map (λ (i : Instr). string (instr_text i)) program)))) ≡ None
code_fine program h = rw (instrs_back program h, all_some program, all_instrs program h) refl

pub code_back : (program : List Instr) → All IsInstr program → code_of (items_of (map (λ (i : Instr). string (instr_text i)) program)) ≡ program
unfolding code_of
code_back program h = ap (map instr_or_in) (instrs_back program h) ∙ all_read program h
