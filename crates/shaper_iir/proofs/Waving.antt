-- Shapers look at the newest frame alone.
use Rattle.std.proofs.Common.{◌≡◌, ℤ, List, ap, Option, Some, None}
use Rattle.node_table.specs.Curves.{shaped, shaper_value}
use Rattle.node_table.specs.Frames.{newest}

pub shaper_newest : (curve : Option (List ℤ)) (xs ys : List ℤ) → newest xs ≡ newest ys → shaper_value curve xs ≡ shaper_value curve ys
shaper_newest None xs ys same = same
shaper_newest (Some curve) xs ys same = ap (shaped curve) same
