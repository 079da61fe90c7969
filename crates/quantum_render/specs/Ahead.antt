-- What ends are looked at by.
use Rattle.std.specs.Prelude.{◌≡◌}
use Rattle.wa_base.specs.Contexts.{quantum_of}
use Rattle.automation.specs.Ready.{IsHeld}
use Rattle.meaning.specs.Validity.{IsValid}
use Rattle.quantum_blocks.specs.Fits.{AreInRange, AreFit}
use Rattle.quantum_render.specs.declared.rest.Ahead.{Ahead}

-- The channels, the blocks and the levels are those of one valid world.
pub record IsAhead (a : Ahead) : Type 0 where
  pub valid : IsValid a.census.now.world.now
  pub range : AreInRange a.census.now.world.now a.counts.now
  pub fit : AreFit a.census.now.world.now a.counts.now a.blocks.now
  pub held : IsHeld a.census.now.world.now.params.items a.census.now.first a.automation.now
  pub frames : a.automation.now.quantum ≡ quantum_of a.census.now.world.now.spec
