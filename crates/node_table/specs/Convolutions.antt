-- The equation of a convolver (ConvolverNode).
use Rattle.std.specs.Prelude.{◌^◌, nat_le, nat_lt, ℤ, pos, unsigned_abs, Bool, not, if◌then◌else◌, List, length, Option, Some, None}
use Rattle.std.specs.List.{list_all}
use Rattle.wa_base.specs.Numbers.{rnd, sat}
use Rattle.wa_base.specs.declared.exceptions.Exc.{Exc}
use Rattle.wa_base.specs.declared.exceptions.Exc.TheVariants.{NotSupported}
use Rattle.wa_base.specs.declared.features.Feature.TheVariants.{LongResponse, LoudResponse}
use Rattle.node_table.specs.Filters.{dot}

-- the output after the frames heard, the newest first: each sample of the response times the frame that was heard so many frames ago, 0 before birth; their sum is rounded once and saturated, and without a response it is 0
abbrev pub convolution : (response frames : List ℤ) → ℤ
convolution response frames = sat (rnd (dot response frames) (pos (2 ^ 24)))

-- a sample of a response is not further from 0 than 2.0
abbrev pub is_small : ℤ → Bool
is_small sample = nat_le (unsigned_abs sample) (2 ^ 25)

abbrev pub all_small : List ℤ → Bool
all_small response = list_all is_small response

-- why a convolver cannot have a response: it has more than 16,384 samples, or one that is too loud
abbrev pub response_refusal : List ℤ → Option Exc
response_refusal response =
    if nat_lt 16384 (length response) then Some (NotSupported (Some LongResponse))
    else if not (all_small response) then Some (NotSupported (Some LoudResponse))
    else None
