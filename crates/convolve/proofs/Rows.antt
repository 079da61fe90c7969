-- Worked convolutions, as the definition computes them.
use Rattle.std.proofs.Common.{pos, negsuc, ◌≡◌, [], ◌∷◌, refl, map}
use Rattle.node_table.specs.Convolutions.{convolution}

-- 1.0, nothing, and then a half, on a constant of 0.25: in frames 0 and 1 the constant, and from frame 2 on a half of it more
constant : map (convolution (pos 16777216 ∷ pos 0 ∷ pos 8388608 ∷ []))
    ((pos 4194304 ∷ []) ∷ (pos 4194304 ∷ pos 4194304 ∷ []) ∷ (pos 4194304 ∷ pos 4194304 ∷ pos 4194304 ∷ []) ∷ (pos 4194304 ∷ pos 4194304 ∷ pos 4194304 ∷ pos 4194304 ∷ []) ∷ [])
    ≡ pos 4194304 ∷ pos 4194304 ∷ pos 6291456 ∷ pos 6291456 ∷ []
constant = refl

-- the same on a constant of 0.125
half_constant : map (convolution (pos 16777216 ∷ pos 0 ∷ pos 8388608 ∷ []))
    ((pos 2097152 ∷ []) ∷ (pos 2097152 ∷ pos 2097152 ∷ []) ∷ (pos 2097152 ∷ pos 2097152 ∷ pos 2097152 ∷ []) ∷ [])
    ≡ pos 2097152 ∷ pos 2097152 ∷ pos 3145728 ∷ []
half_constant = refl

-- an impulse of 1.0 gives the response, the first of its samples first
impulse : map (convolution (pos 3 ∷ negsuc 4 ∷ pos 7 ∷ []))
    ((pos 16777216 ∷ []) ∷ (pos 0 ∷ pos 16777216 ∷ []) ∷ (pos 0 ∷ pos 0 ∷ pos 16777216 ∷ []) ∷ (pos 0 ∷ pos 0 ∷ pos 0 ∷ pos 16777216 ∷ []) ∷ [])
    ≡ pos 3 ∷ negsuc 4 ∷ pos 7 ∷ pos 0 ∷ []
impulse = refl

-- the sum is rounded, and not each product: two halves of the least step are a step, and one is rounded up
halves : map (convolution (pos 8388608 ∷ pos 8388608 ∷ [])) ((pos 1 ∷ []) ∷ (pos 1 ∷ pos 1 ∷ []) ∷ (negsuc 0 ∷ []) ∷ (negsuc 0 ∷ negsuc 0 ∷ []) ∷ []) ≡ pos 1 ∷ pos 1 ∷ pos 0 ∷ negsuc 0 ∷ []
halves = refl

-- the sum is saturated, and not each product
saturated : map (convolution (pos 33554432 ∷ negsuc 33554431 ∷ [])) ((pos 2147483647 ∷ []) ∷ (pos 2147483647 ∷ pos 2147483647 ∷ []) ∷ (negsuc 2147483647 ∷ pos 2147483647 ∷ []) ∷ [])
    ≡ pos 2147483647 ∷ pos 0 ∷ negsuc 2147483647 ∷ []
saturated = refl

-- without a response, and before the first frame, it is 0
nothing : (convolution [] (pos 5 ∷ pos 6 ∷ []) ≡ pos 0) × (convolution (pos 5 ∷ []) [] ≡ pos 0)
nothing = (refl, refl)
