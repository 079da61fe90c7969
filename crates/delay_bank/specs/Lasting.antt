-- How many frames a delay lasts at each frame of a quantum.
use Rattle.std.specs.Prelude.{ℕ, ◌≡◌, ◌<◌, List, length, replicate, Option, None, Some}
use Rattle.delay_line.specs.Spans.{delay_at}
use Rattle.delay_bank.specs.declared.spans.Lasting.{Lasting}
use Rattle.delay_bank.specs.declared.spans.Lasting.TheVariants.{Steady, Each}

-- what is the same at all frames, or else what is there for each
abbrev pub spans_of : Option ℕ → List ℕ → List ℕ
spans_of (Some span) each = replicate (length each) span
spans_of None each = each

abbrev pub IsLasting : List ℕ → Lasting → Type 0
IsLasting spans (Steady span) = (k : ℕ) → k < length spans → delay_at spans k ≡ span
IsLasting spans (Each each) = each.now ≡ spans
