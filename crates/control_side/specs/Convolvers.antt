-- What the creation of a convolver comes to (the ConvolverNode interface).
use Rattle.std.specs.Prelude.{ℕ, List, Bool, if◌then◌else◌, Option, Some, None}
use Rattle.wa_base.specs.declared.exceptions.Exc.{Exc}
use Rattle.wa_base.specs.declared.exceptions.Exc.TheVariants.{NotSupported}
use Rattle.wa_base.specs.declared.features.Feature.TheVariants as feature
use Rattle.meaning.specs.declared.change.Edit.TheVariants as edit
use Rattle.control_side.specs.declared.decide.Decided.{Decided}
use Rattle.control_side.specs.Deciding.{edits, with_buffer}
use Rattle.control_side.specs.Machine.{Machine}
use Rattle.control_side.specs.Params.{unless_refused}

-- the profile normalizes no response
abbrev pub normalization_refusal : Bool → Option Exc
normalization_refusal disabled = if disabled then None else Some (NotSupported (Some feature.Normalization))

-- a convolver is created with a buffer as its response, or without one
abbrev pub creates_convolver : Machine → Option (List ℕ) → Bool → Decided
creates_convolver machine name disabled = with_buffer machine name (λ buffer. unless_refused (normalization_refusal disabled) (edits machine (edit.CreateConvolver buffer)))
