-- The state of an IIR filter.
use Rattle.std.specs.Prelude.{ℕ, ℤ, List, slice_index_or}
use Rattle.shaper_iir.specs.declared.histories.History.{History}
use Rattle.shaper_iir.specs.Histories.{StandsFor, silent}

-- the coefficients, and a history for each channel that there is room for
pub record Filter : Type 0 where
  pub forward : List ℤ
  pub back : List ℤ
  pub channels : List History

-- the history of a channel; one past the room has heard nothing but 0
abbrev pub history_of : Filter → ℕ → History
history_of filter channel = slice_index_or filter.channels channel silent

-- the filter has heard these frames of this channel
abbrev pub FilterStands : Filter → ℕ → List ℤ → Type 0
FilterStands filter channel frames = StandsFor filter.forward filter.back (history_of filter channel) frames
