-- What holds of what is kept of a channel.
use Rattle.std.specs.Prelude.{◌≤◌, ◌<◌, ◌+◌, ℤ, List, length, take, drop}
use Rattle.convolve.specs.Lines.{IsQuiet}
use Rattle.convolve.specs.declared.lines.Line.TheInside.{Inside}

abbrev pub frames_of : Inside → List ℤ
frames_of s = take s.kept (drop s.start s.samples.items)

-- there is room for more frames than are kept, and they lie in it
pub record IsSound (s : Inside) : Type 0 where
  pub short : s.kept ≤ 16384
  pub there : s.start + s.kept ≤ length s.samples.items
  pub spare : s.kept < length s.samples.items
  pub quiet : s.quiet ≤ s.kept
  pub zeros : IsQuiet s.quiet (frames_of s)
