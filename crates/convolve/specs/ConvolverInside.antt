-- What holds of each convolver.
use Rattle.std.specs.Prelude.{length}
use Rattle.convolve.specs.Responses.{IsResponse}
use Rattle.convolve.specs.Convolver.{ConvolverView}
use Rattle.convolve.specs.Lines.{AreLong}
use Rattle.convolve.specs.declared.convolver.Convolver.TheInside.{Inside}

abbrev pub view_of : Inside → ConvolverView
view_of s = record { response = s.response; channels = s.lines.items }

-- of each channel as many frames are kept as the response has samples
pub record IsSound (s : Inside) : Type 0 where
  pub response : IsResponse s.response
  pub long : AreLong s.lines.items (length s.response)
