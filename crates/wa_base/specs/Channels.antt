-- Where the samples of a channel stand.
use Rattle.std.specs.Prelude.{◌≤◌, ◌+◌, ◌^◌, ℤ, List, length, take, drop}
use Rattle.wa_base.specs.declared.channel.Place.{Place}
use Rattle.wa_base.specs.declared.channel.Place.TheVariants.{Slice, Paged}

-- the samples that stand there
abbrev pub standing_at : Place → List ℤ
standing_at (Slice samples) = samples.now
standing_at (Paged samples first frames) = take frames (drop first samples.now)

abbrev pub IsWithin : Place → Type 0
IsWithin (Slice samples) = Unit {0}
IsWithin (Paged samples first frames) = (first + frames ≤ length samples.now) × (length samples.now ≤ 2 ^ 62)
