-- What the script of 0 has: its calls, and the numbers of its first voice.
use Rattle.std.specs.Prelude.{◌≡◌, refl, length}
use Rattle.load_gen.specs.Generator.{calls}
use Rattle.load_gen.specs.Voices.{voice}

pub calls_of_zero : length (calls 0) ≡ 1768
unfolding calls
calls_of_zero = refl

first_voice_of_zero : voice 0 0 ≡ record { place = 0; offset = 0; gain = 21468; time = 1796; delay = 37 }
first_voice_of_zero = refl
