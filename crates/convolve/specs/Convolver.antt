-- The state of a convolver.
use Rattle.std.specs.Prelude.{ℕ, ℤ, List, length, slice_index_or}
use Rattle.convolve.specs.Lines.{Recalls, silence}

-- the response, and for each channel that there is room for its newest frames, the newest of all first, as many as the response has samples
pub record ConvolverView : Type 0 where
  pub response : List ℤ
  pub channels : List (List ℤ)

-- what is kept of a channel; one past the room has heard nothing but 0
abbrev pub kept_of : ConvolverView → ℕ → List ℤ
kept_of convolver channel = slice_index_or convolver.channels channel (silence (length convolver.response))

-- the convolver has heard these frames of this channel
abbrev pub ConvolverStands : ConvolverView → ℕ → List ℤ → Type 0
ConvolverStands convolver channel frames = Recalls (kept_of convolver channel) frames
