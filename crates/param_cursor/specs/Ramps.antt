-- How the values of a block are drawn, and the ramps that it lies on.
use Rattle.std.specs.Prelude.{ℕ, ◌+◌, ◌<◌, ◌≤◌, ℤ}
use Rattle.param_events.specs.Values.{along}
use Rattle.param_cursor.specs.declared.levels.Stay.{Stay}
use Rattle.param_cursor.specs.declared.levels.Drawn.{Drawn}
use Rattle.param_cursor.specs.declared.levels.Drawn.TheVariants.{Stays, Rises, Each}
use Rattle.param_cursor.specs.declared.ramps.Ramp.{Ramp}

-- the value of a ramp at frame m of the block
abbrev pub rise_at : Ramp → ℕ → ℤ
rise_at ramp m = along ramp.from ramp.to (ramp.begun + m) ramp.parts

-- so many frames of the block lie on a ramp
pub record LastsFor (ramp : Ramp) (frames : ℕ) : Type 0 where
  pub some : 0 < ramp.parts
  pub within : ramp.begun + frames ≤ ramp.parts

-- a property holds of the value that stays, if one does
abbrev pub IfStays : Drawn → (Stay → Type 0) → Type 0
IfStays (Stays stay) holds = holds stay
IfStays (Rises ramp) holds = Unit {0}
IfStays Each holds = Unit {0}

-- a property holds of the ramp that the block lies on, if it lies on one
abbrev pub IfRises : Drawn → (Ramp → Type 0) → Type 0
IfRises (Stays stay) holds = Unit {0}
IfRises (Rises ramp) holds = holds ramp
IfRises Each holds = Unit {0}
