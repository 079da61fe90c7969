use Rattle.std.proofs.Common.{◌≡◌, ◌<◌, ◌≤◌, ◌^◌, ◌+◌, ◌*◌, ◌-◌, ◌++◌, ◌+ℤ◌, ◌==◌, ℕ, length, Bool, true, false, List, slice_index_or, slice_set, replicate, take, drop, ℤ, pos, ap, ap₂, subst, sym, ◌∙◌, refl, arith, to_z, of_z}
use Rattle.std.specs.Prelude.{if◌then◌else◌}
use Rattle.std.specs.Int.{w64}
use Rattle.std.proofs.lemmas.Bool.Decides.{nat_tests}
use Rattle.std.proofs.lemmas.Int.{ints}
use Rattle.std.proofs.lemmas.List.{length-take-le, length-set, get_or-take, get_or_append_left, get_or-replicate, get_or-set_same, get_or-set_other}
use Rattle.std.proofs.lemmas.List.Elements.{All-take, All-replicate}
use Rattle.lane_kern.specs.Blocks.{IsWithin}
use Rattle.mix_rules.specs.Blocks.{frame_at}
use Rattle.mix_rules.specs.Mixing.{one}
use Rattle.explain.proofs.Mixes.{mix_reads}
use Rattle.equations.specs.Weights.{one_on}
use Rattle.equations.proofs.mixing.weight.Goals as goal

abbrev silence : List ℤ
silence = replicate 32 (pos 0)

-- the frame that is mixed
abbrev frame : ℕ → List ℤ
frame input = slice_set silence input one

silent : (bound to : ℕ) (k : ℕ) (d : ℤ) → k < length (take to silence) → IsWithin bound (slice_index_or (take to silence) k d)
silent bound to = All-take (IsWithin bound) to silence (All-replicate (IsWithin bound) 32 (pos 0) (omega arith))

pub mix_add-requires-clause-lengths : goal.mix_add-requires-clause-lengths
mix_add-requires-clause-lengths c =
    let long = length-set silence c.args.input one in
    (1, length-take-le c.args.to silence c.requires.to ∙ omega arith, length-take-le c.args.from (frame c.args.input) (omega (arith, long)) ∙ omega arith)

pub mix_add-requires-clause-room : goal.mix_add-requires-clause-room
mix_add-requires-clause-room c = silent (2 ^ 47 - 2 ^ 34) c.args.to

-- ---- the sum that is read

there : (c : goal.After-result-1) → c.args.channel < length c.mix_add.new.acc
there c =
    let same = c.mix_add.auto.acc in
    let long = length-take-le c.args.to silence c.requires.to in
    let low = c.requires.channel in
    omega (arith, same, long, low)

small : (c : goal.After-result-1) → IsWithin (2 ^ 34) (slice_index_or c.mix_add.new.acc c.args.channel (pos 0))
small c = c.mix_add.ensures.room 0 (silent 0 c.args.to) c.args.channel (pos 0) (there c)

held_is : (x : ℤ) → IsWithin (2 ^ 34) x → to_z w64 (of_z w64 x) ≡ x
held_is x small = omega (arith, ints)

sum_is : (c : goal.After-result-1) → to_z w64 (of_z w64 (slice_index_or (c.mix_add.new.acc ++ drop c.args.to silence) c.args.channel (pos 0))) ≡ slice_index_or c.mix_add.new.acc c.args.channel (pos 0)
sum_is c = ap (λ (z : ℤ). to_z w64 (of_z w64 z)) (get_or_append_left c.mix_add.new.acc (drop c.args.to silence) (pos 0) c.args.channel (there c)) ∙ held_is _ (small c)

pub returns-clause-small : goal.returns-clause-small
returns-clause-small c = subst (IsWithin (2 ^ 34)) (sym (sum_is c)) (small c)

-- ---- what is mixed

one_there : (input from k : ℕ) → from ≤ 32 → k < from → slice_index_or (take from (frame input)) k (pos 0) ≡ one_on input k
one_there input from k few low = get_or-take from (frame input) k (pos 0) low ∙ by_test (k == input) refl
  where
    by_test : (b : Bool) → (k == input) ≡ b → slice_index_or (frame input) k (pos 0) ≡ (if b then one else pos 0)
    by_test true is =
        let same : k ≡ input = grind (arith, nat_tests) in
        ap (λ i. slice_index_or (frame input) i (pos 0)) same ∙ get_or-set_same silence input one (pos 0) (omega (arith, same))
    by_test false other = get_or-set_other silence input k one (pos 0) (λ e. let same : k ≡ input = e in grind (arith, nat_tests)) ∙ get_or-replicate 32 k (pos 0) (pos 0) (omega arith)

at_first : (xs : List ℤ) (k : ℕ) → slice_index_or xs (k * 1 + 0) (pos 0) ≡ slice_index_or xs k (pos 0)
at_first xs k = let same : k * 1 + 0 ≡ k = omega arith in ap (λ i. slice_index_or xs i (pos 0)) same

pub returns-clause-value : goal.returns-clause-value
returns-clause-value c =
    let channel : ℕ = c.args.channel in
    let long = length-take-le c.args.to silence c.requires.to in
    let mixed : List ℤ = take c.args.from (frame c.args.input) in
    let none = at_first (take c.args.to silence) channel ∙ get_or-take c.args.to silence channel (pos 0) c.requires.channel ∙ get_or-replicate 32 channel (pos 0) (pos 0) (omega arith) in
    let same = mix_reads c.args.interp c.args.from c.args.to (frame_at 1 mixed 0) (one_on c.args.input) channel (λ k low. at_first mixed k ∙ one_there c.args.input c.args.from k c.requires.from low) in
    sum_is c ∙ sym (at_first c.mix_add.new.acc channel)
    ∙ c.mix_add.ensures.sums 1 channel 0 (long ∙ omega arith) c.requires.channel (omega arith)
    ∙ ap₂ (λ (x y : ℤ). x +ℤ y) none same
    ∙ omega (arith, ints)
