-- Rounding to 16 bits by a shift.
use Rattle.std.proofs.Common.{◌≡◌, ℤ, pos, negsuc, ◌+ℤ◌, FitsSigned, arith}
use Rattle.std.specs.Int.{w32, int_max, int_min, saturate_signed}
use lib.Signed.{shr_z}
use Rattle.wav_io.specs.WavText.{sample_of}

-- to round is to add half a step and then to shift, also where the sum stops at 2 ^ 31 - 1
pub nearest_16 : (v sum r : ℤ) → FitsSigned w32 v → sum ≡ saturate_signed w32 (v +ℤ pos 256)
    → r ≡ int_max (negsuc 32767) (int_min (shr_z sum 512) (pos 32767)) → r ≡ sample_of 16 v
nearest_16 v sum r fits added is = grind arith
