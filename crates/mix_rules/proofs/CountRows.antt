-- How many channels an input has, at worked values.
use Rattle.std.proofs.Common.{◌≡◌, [], ◌∷◌, refl}
use Rattle.wa_base.specs.declared.graph_names.Mode.TheVariants.{Max, ClampedMax, Explicit}
use Rattle.mix_rules.specs.Counts.{input_count}

greatest_of_three : input_count Max 2 (1 ∷ 6 ∷ 4 ∷ []) ≡ 6
greatest_of_three = refl

clamped_to_two : input_count ClampedMax 2 (1 ∷ 6 ∷ 4 ∷ []) ≡ 2
clamped_to_two = refl

below_the_clamp : input_count ClampedMax 6 (1 ∷ 4 ∷ []) ≡ 4
below_the_clamp = refl

explicit_whatever_comes : input_count Explicit 2 (1 ∷ 6 ∷ 4 ∷ []) ≡ 2
explicit_whatever_comes = refl

one_silent_channel : input_count Max 2 [] ≡ 1
one_silent_channel = refl

one_silent_clamped : input_count ClampedMax 2 [] ≡ 1
one_silent_clamped = refl

explicit_without_connections : input_count Explicit 2 [] ≡ 2
explicit_without_connections = refl
