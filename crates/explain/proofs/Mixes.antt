-- Mixing reads the channels that there are, and no others.
use Rattle.std.proofs.Common.{ℕ, zero, suc, ℤ, pos, ◌≡◌, ◌<◌, ◌≤◌, ◌+◌, ◌+ℤ◌, ◌*ℤ◌, ◌==◌, length, List, [], ◌∷◌, Bool, true, false, Option, Some, None, map, refl, ap, ap₂, arith}
use Rattle.std.specs.Prelude.{if◌then◌else◌, nat_lt, nat_le, slice_index_or, ◌&&◌}
use Rattle.std.specs.List.{list_all, range_with_len}
use Rattle.std.specs.Option.{option_map_or}
use Rattle.std.proofs.lemmas.Bool.Decides.{nat_tests}
use Rattle.std.proofs.lemmas.Bool.{and_parts}
use Rattle.wa_base.specs.Numbers.{rnd}
use Rattle.wa_base.specs.declared.graph_names.Interp.{Interp}
use Rattle.wa_base.specs.declared.graph_names.Interp.TheVariants.{Speakers, Discrete}
use Rattle.mix_rules.specs.Mixing.{Form, Layout, layout, channel, only, silence, table, kept, form, weighed, mix}

-- a form that has no more factors than there are channels
abbrev is_short : ℕ → Form → Bool
is_short n f = nat_le (length f.factors) n

speakers : Layout → ℕ
speakers Layout.Mono = 1
speakers Layout.Stereo = 2
speakers Layout.Quad = 4
speakers Layout.FivePointOne = 6
speakers Layout.NoLayout = 0

abbrev are_short : ℕ → Option (List Form) → Bool
are_short n forms = option_map_or (list_all (is_short n)) forms true

short_table : (a b : Layout) → are_short (speakers a) (table a b) ≡ true
unfolding speakers
short_table Layout.Mono Layout.Mono = refl
short_table Layout.Mono Layout.Stereo = refl
short_table Layout.Mono Layout.Quad = refl
short_table Layout.Mono Layout.FivePointOne = refl
short_table Layout.Mono Layout.NoLayout = refl
short_table Layout.Stereo Layout.Mono = refl
short_table Layout.Stereo Layout.Stereo = refl
short_table Layout.Stereo Layout.Quad = refl
short_table Layout.Stereo Layout.FivePointOne = refl
short_table Layout.Stereo Layout.NoLayout = refl
short_table Layout.Quad Layout.Mono = refl
short_table Layout.Quad Layout.Stereo = refl
short_table Layout.Quad Layout.Quad = refl
short_table Layout.Quad Layout.FivePointOne = refl
short_table Layout.Quad Layout.NoLayout = refl
short_table Layout.FivePointOne Layout.Mono = refl
short_table Layout.FivePointOne Layout.Stereo = refl
short_table Layout.FivePointOne Layout.Quad = refl
short_table Layout.FivePointOne Layout.FivePointOne = refl
short_table Layout.FivePointOne Layout.NoLayout = refl
short_table Layout.NoLayout b = refl

-- a layout has as many speakers as there are channels, or it has none
few_speakers : (n : ℕ) → speakers (layout n) ≤ n
unfolding speakers
few_speakers n = first (n == 1) refl
  where
    fourth : (d : Bool) → (n == 6) ≡ d → speakers (if d then Layout.FivePointOne else Layout.NoLayout) ≤ n
    fourth true is = grind (arith, nat_tests)
    fourth false is = omega arith

    third : (c : Bool) → (n == 4) ≡ c → speakers (if c then Layout.Quad else if n == 6 then Layout.FivePointOne else Layout.NoLayout) ≤ n
    third true is = grind (arith, nat_tests)
    third false is = fourth (n == 6) refl

    second : (b : Bool) → (n == 2) ≡ b → speakers (if b then Layout.Stereo else if n == 4 then Layout.Quad else if n == 6 then Layout.FivePointOne else Layout.NoLayout) ≤ n
    second true is = grind (arith, nat_tests)
    second false is = third (n == 4) refl

    first : (a : Bool) → (n == 1) ≡ a → speakers (if a then Layout.Mono else if n == 2 then Layout.Stereo else if n == 4 then Layout.Quad else if n == 6 then Layout.FivePointOne else Layout.NoLayout) ≤ n
    first true is = grind (arith, nat_tests)
    first false is = second (n == 2) refl

chosen_short : (n : ℕ) (forms : List Form) (c : ℕ) → list_all (is_short n) forms ≡ true → length (slice_index_or forms c silence).factors ≤ n
chosen_short n [] c all = omega arith
chosen_short n (f ∷ fs) zero all = let parts = and_parts (is_short n f) (list_all (is_short n) fs) all in let l = parts.0 in grind (arith, nat_tests)
chosen_short n (f ∷ fs) (suc c) all = chosen_short n fs c (and_parts (is_short n f) (list_all (is_short n) fs) all).1

length-map_range : (g : ℕ → ℤ) (a n : ℕ) → length (map g (range_with_len a n)) ≡ n
length-map_range g a zero = refl
length-map_range g a (suc n) = ap suc (length-map_range g (a + 1) n)

kept_short : (from to c : ℕ) → length (kept from to c).factors ≤ from
kept_short from to c = by_test (nat_lt c from && nat_lt c to)
  where
    by_test : (b : Bool) → length (if b then only (channel from c) else silence).factors ≤ from
    by_test true = let e = length-map_range (λ i. if i == c then pos 1 else pos 0) 0 from in omega (arith, e)
    by_test false = omega arith

form_short : (interp : Interp) (from to c : ℕ) → length (form interp from to c).factors ≤ from
unfolding form
form_short Discrete from to c = kept_short from to c
form_short Speakers from to c = by_row (table (layout from) (layout to)) (short_table (layout from) (layout to))
  where
    by_row : (forms : Option (List Form)) → are_short (speakers (layout from)) forms ≡ true → length (option_map_or (λ outputs. slice_index_or outputs c silence) forms (kept from to c)).factors ≤ from
    by_row None all = kept_short from to c
    by_row (Some forms) all = let few = few_speakers from in let l = chosen_short (speakers (layout from)) forms c all in omega (arith, few, l)

weighed_same : (fs : List ℤ) (i n : ℕ) (u v : ℕ → ℤ) → i + length fs ≤ n → ((k : ℕ) → k < n → u k ≡ v k) → weighed fs i u ≡ weighed fs i v
weighed_same [] i n u v l same = refl
weighed_same (f ∷ fs) i n u v l same = ap₂ (λ x y. f *ℤ x +ℤ y) (same i (omega arith)) (weighed_same fs (i + 1) n u v (omega arith) same)

pub mix_reads : (interp : Interp) (from to : ℕ) (u v : ℕ → ℤ) (c : ℕ) → ((k : ℕ) → k < from → u k ≡ v k) → mix interp from to u c ≡ mix interp from to v c
unfolding mix
mix_reads interp from to u v c same =
    ap (λ x. rnd x (form interp from to c).divisor) (weighed_same (form interp from to c).factors 0 from u v (let l = form_short interp from to c in omega (arith, l)) same)
