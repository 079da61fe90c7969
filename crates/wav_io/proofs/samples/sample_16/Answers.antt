use Rattle.std.proofs.Common.{rules, FitsSigned}
use Rattle.std.specs.Int.{w16, w32}
use Rattle.std.proofs.lemmas.Int.{to_z-of_z}
use lib.Signed.{shr_z}
use Rattle.wav_io.proofs.Rounding.{nearest_16}
use Rattle.wav_io.proofs.samples.sample_16.Goals as goal

pub returns : goal.returns
returns c =
    let sum : FitsSigned w32 c.saturating_add.result = search rules in
    let shifted : FitsSigned w32 (shr_z c.saturating_add.result 512) = search rules in
    let small : FitsSigned w16 c.clamp.result = search rules in
    let wide : FitsSigned w32 c.clamp.result = search rules in
    let added = simp (to_z-of_z _ _ c.ranges.value) at c.saturating_add.ensures in
    let clamped = simp (to_z-of_z _ _ sum, to_z-of_z _ _ shifted) at c.clamp.ensures.value in
    simp (to_z-of_z _ _ wide, to_z-of_z _ _ small) (nearest_16 _ _ _ c.ranges.value added clamped)
