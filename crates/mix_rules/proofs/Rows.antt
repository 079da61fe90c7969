-- Each row of the mixing table, at numbers that tell the channels apart.
use Rattle.std.proofs.Common.{ℕ, ℤ, pos, negsuc, ◌≡◌, List, [], ◌∷◌, length, map, refl}
use Rattle.std.specs.Prelude.{slice_index_or}
use Rattle.std.specs.List.{range_with_len}
use Rattle.wa_base.specs.declared.graph_names.Interp.{Interp}
use Rattle.wa_base.specs.declared.graph_names.Interp.TheVariants.{Speakers, Discrete}
use Rattle.mix_rules.specs.Mixing.{form, mix, fan_in}

-- a frame, mixed to so many channels
abbrev mixed : Interp → List ℤ → ℕ → List ℤ
mixed interp frame to = map (mix interp (length frame) to (λ c. slice_index_or frame c (pos 0))) (range_with_len 0 to)

-- the frame, the number of output channels, and what each of them is
abbrev Row : Interp → List ℕ → ℕ → List ℕ → Type 0
Row interp frame to outputs = mixed interp (map pos frame) to ≡ map pos outputs

-- ---- up-mixing

mono_to_stereo : Row Speakers (7 ∷ []) 2 (7 ∷ 7 ∷ [])
unfolding mix form
mono_to_stereo = refl

mono_to_quad : Row Speakers (7 ∷ []) 4 (7 ∷ 7 ∷ 0 ∷ 0 ∷ [])
unfolding mix form
mono_to_quad = refl

mono_to_five_point_one : Row Speakers (7 ∷ []) 6 (0 ∷ 0 ∷ 7 ∷ 0 ∷ 0 ∷ 0 ∷ [])
unfolding mix form
mono_to_five_point_one = refl

stereo_to_quad : Row Speakers (5 ∷ 6 ∷ []) 4 (5 ∷ 6 ∷ 0 ∷ 0 ∷ [])
unfolding mix form
stereo_to_quad = refl

stereo_to_five_point_one : Row Speakers (5 ∷ 6 ∷ []) 6 (5 ∷ 6 ∷ 0 ∷ 0 ∷ 0 ∷ 0 ∷ [])
unfolding mix form
stereo_to_five_point_one = refl

quad_to_five_point_one : Row Speakers (10 ∷ 200 ∷ 3000 ∷ 40000 ∷ []) 6 (10 ∷ 200 ∷ 0 ∷ 0 ∷ 3000 ∷ 40000 ∷ [])
unfolding mix form
quad_to_five_point_one = refl

-- ---- down-mixing

-- a half goes up
stereo_to_mono : Row Speakers (3 ∷ 4 ∷ []) 1 (4 ∷ [])
unfolding mix form
stereo_to_mono = refl

-- 43210 quarters of 1 are 10802 and a half
quad_to_mono : Row Speakers (10 ∷ 200 ∷ 3000 ∷ 40000 ∷ []) 1 (10803 ∷ [])
unfolding mix form
quad_to_mono = refl

quad_to_stereo : Row Speakers (10 ∷ 200 ∷ 3000 ∷ 40000 ∷ []) 2 (1505 ∷ 20100 ∷ [])
unfolding mix form
quad_to_stereo = refl

-- the channels are 1, 2, 4, 8, 16 and 32 in units of 2 ^ 24: 3 * 11863283 + 4 * 2 ^ 24 + 48 * 2 ^ 23
five_point_one_to_mono : Row Speakers (16777216 ∷ 33554432 ∷ 67108864 ∷ 134217728 ∷ 268435456 ∷ 536870912 ∷ []) 1 (505351897 ∷ [])
unfolding mix form
five_point_one_to_mono = refl

-- 2 ^ 24 + 20 * 11863283, and 2 * 2 ^ 24 + 36 * 11863283
five_point_one_to_stereo : Row Speakers (16777216 ∷ 33554432 ∷ 67108864 ∷ 134217728 ∷ 268435456 ∷ 536870912 ∷ []) 2 (254042876 ∷ 460632620 ∷ [])
unfolding mix form
five_point_one_to_stereo = refl

-- 2 ^ 24 + 4 * 11863283, and 2 * 2 ^ 24 + 4 * 11863283
five_point_one_to_quad : Row Speakers (16777216 ∷ 33554432 ∷ 67108864 ∷ 134217728 ∷ 268435456 ∷ 536870912 ∷ []) 4 (64230348 ∷ 81007564 ∷ 268435456 ∷ 536870912 ∷ [])
unfolding mix form
five_point_one_to_quad = refl

small_five_point_one_to_mono : Row Speakers (1 ∷ 2 ∷ 3 ∷ 99 ∷ 5 ∷ 7 ∷ []) 1 (11 ∷ [])
unfolding mix form
small_five_point_one_to_mono = refl

small_five_point_one_to_stereo : Row Speakers (1 ∷ 2 ∷ 3 ∷ 99 ∷ 5 ∷ 7 ∷ []) 2 (7 ∷ 9 ∷ [])
unfolding mix form
small_five_point_one_to_stereo = refl

small_five_point_one_to_quad : Row Speakers (1 ∷ 2 ∷ 3 ∷ 99 ∷ 5 ∷ 7 ∷ []) 4 (3 ∷ 4 ∷ 5 ∷ 7 ∷ [])
unfolding mix form
small_five_point_one_to_quad = refl

full_scale_is_not_saturated : Row Speakers (2147483647 ∷ 2147483647 ∷ 2147483647 ∷ 2147483647 ∷ 2147483647 ∷ 2147483647 ∷ []) 2 (5184484094 ∷ 5184484094 ∷ [])
unfolding mix form
full_scale_is_not_saturated = refl

-- ---- channels that stay in order

mono_stays : Row Speakers (7 ∷ []) 1 (7 ∷ [])
unfolding mix form
mono_stays = refl

five_point_one_stays : Row Speakers (1 ∷ 2 ∷ 3 ∷ 4 ∷ 5 ∷ 6 ∷ []) 6 (1 ∷ 2 ∷ 3 ∷ 4 ∷ 5 ∷ 6 ∷ [])
unfolding mix form
five_point_one_stays = refl

three_to_stereo : Row Speakers (3 ∷ 4 ∷ 5 ∷ []) 2 (3 ∷ 4 ∷ [])
unfolding mix form
three_to_stereo = refl

three_to_mono : Row Speakers (3 ∷ 4 ∷ 5 ∷ []) 1 (3 ∷ [])
unfolding mix form
three_to_mono = refl

mono_to_three : Row Speakers (7 ∷ []) 3 (7 ∷ 0 ∷ 0 ∷ [])
unfolding mix form
mono_to_three = refl

stereo_to_three : Row Speakers (3 ∷ 4 ∷ []) 3 (3 ∷ 4 ∷ 0 ∷ [])
unfolding mix form
stereo_to_three = refl

quad_to_five : Row Speakers (1 ∷ 2 ∷ 3 ∷ 4 ∷ []) 5 (1 ∷ 2 ∷ 3 ∷ 4 ∷ 0 ∷ [])
unfolding mix form
quad_to_five = refl

five_point_one_to_three : Row Speakers (1 ∷ 2 ∷ 3 ∷ 4 ∷ 5 ∷ 6 ∷ []) 3 (1 ∷ 2 ∷ 3 ∷ [])
unfolding mix form
five_point_one_to_three = refl

five_point_one_to_eight : Row Speakers (1 ∷ 2 ∷ 3 ∷ 4 ∷ 5 ∷ 6 ∷ []) 8 (1 ∷ 2 ∷ 3 ∷ 4 ∷ 5 ∷ 6 ∷ 0 ∷ 0 ∷ [])
unfolding mix form
five_point_one_to_eight = refl

discrete_mono_to_stereo : Row Discrete (7 ∷ []) 2 (7 ∷ 0 ∷ [])
unfolding mix form
discrete_mono_to_stereo = refl

discrete_mono_to_five_point_one : Row Discrete (7 ∷ []) 6 (7 ∷ 0 ∷ 0 ∷ 0 ∷ 0 ∷ 0 ∷ [])
unfolding mix form
discrete_mono_to_five_point_one = refl

discrete_quad_to_five_point_one : Row Discrete (1 ∷ 2 ∷ 3 ∷ 4 ∷ []) 6 (1 ∷ 2 ∷ 3 ∷ 4 ∷ 0 ∷ 0 ∷ [])
unfolding mix form
discrete_quad_to_five_point_one = refl

discrete_stereo_to_mono : Row Discrete (3 ∷ 4 ∷ []) 1 (3 ∷ [])
unfolding mix form
discrete_stereo_to_mono = refl

discrete_quad_to_stereo : Row Discrete (1 ∷ 2 ∷ 3 ∷ 4 ∷ []) 2 (1 ∷ 2 ∷ [])
unfolding mix form
discrete_quad_to_stereo = refl

discrete_five_point_one_to_mono : Row Discrete (1 ∷ 2 ∷ 3 ∷ 4 ∷ 5 ∷ 6 ∷ []) 1 (1 ∷ [])
unfolding mix form
discrete_five_point_one_to_mono = refl

-- ---- values below zero: a half goes up here too

negative_stereo_to_mono : mixed Speakers (negsuc 2 ∷ negsuc 3 ∷ []) 1 ≡ negsuc 2 ∷ []
unfolding mix form
negative_stereo_to_mono = refl

half_of_minus_one : mixed Speakers (negsuc 0 ∷ pos 0 ∷ []) 1 ≡ pos 0 ∷ []
unfolding mix form
half_of_minus_one = refl

negative_quad_to_mono : mixed Speakers (negsuc 0 ∷ negsuc 1 ∷ negsuc 3 ∷ negsuc 7 ∷ []) 1 ≡ negsuc 3 ∷ []
unfolding mix form
negative_quad_to_mono = refl

negative_five_point_one_to_stereo : mixed Speakers (negsuc 0 ∷ negsuc 1 ∷ negsuc 2 ∷ negsuc 98 ∷ negsuc 4 ∷ negsuc 6 ∷ []) 2 ≡ negsuc 6 ∷ negsuc 8 ∷ []
unfolding mix form
negative_five_point_one_to_stereo = refl

-- ---- no other channel sounds

past_the_last_of_five_point_one : mix Discrete 6 1 (λ c. pos 5) 1 ≡ pos 0
unfolding mix form
past_the_last_of_five_point_one = refl

past_the_last_of_stereo : mix Speakers 6 2 (λ c. pos 5) 2 ≡ pos 0
unfolding mix form
past_the_last_of_stereo = refl

-- ---- sums over connections

no_connection : fan_in [] ≡ pos 0
no_connection = refl

-- the sum is exact on its way: 2 ^ 31 - 1 and 1 and -1
saturated_once : fan_in (pos 2147483647 ∷ pos 1 ∷ negsuc 0 ∷ []) ≡ pos 2147483647
saturated_once = refl

too_high : fan_in (pos 2147483647 ∷ pos 1 ∷ []) ≡ pos 2147483647
too_high = refl

too_low : fan_in (negsuc 2147483647 ∷ negsuc 0 ∷ []) ≡ negsuc 2147483647
too_low = refl
