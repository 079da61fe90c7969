-- The word of each mode, of each interpretation, of each automation rate and of each oversampling names it and no other one.
use Rattle.std.specs.Prelude.{◌≡◌, refl, Some}
use Rattle.wa_base.specs.GraphNames.{mode_word, interp_word, rate_word}
use Rattle.wa_base.specs.declared.graph_names.Mode.{Mode}
use Rattle.wa_base.specs.declared.graph_names.Mode.TheVariants.{Max, ClampedMax, Explicit}
use Rattle.wa_base.specs.declared.graph_names.Interp.{Interp}
use Rattle.wa_base.specs.declared.graph_names.Interp.TheVariants.{Speakers, Discrete}
use Rattle.wa_base.specs.declared.graph_names.Rate.{Rate}
use Rattle.wa_base.specs.declared.graph_names.Rate.TheVariants.{A, K}
use Rattle.script_ast.specs.Words.{mode_named, interp_named, rate_named, oversample_word, oversample_named}
use Rattle.script_ast.specs.declared.operations.Oversample.{Oversample}
use Rattle.script_ast.specs.declared.operations.Oversample.TheVariants.{Off, Two, Four}

mode_by_word : (mode : Mode) → mode_named (mode_word mode) ≡ Some mode
unfolding mode_named
mode_by_word Max = refl
mode_by_word ClampedMax = refl
mode_by_word Explicit = refl

interp_by_word : (interp : Interp) → interp_named (interp_word interp) ≡ Some interp
unfolding interp_named
interp_by_word Speakers = refl
interp_by_word Discrete = refl

rate_by_word : (rate : Rate) → rate_named (rate_word rate) ≡ Some rate
unfolding rate_named
rate_by_word A = refl
rate_by_word K = refl

oversample_by_word : (oversample : Oversample) → oversample_named (oversample_word oversample) ≡ Some oversample
unfolding oversample_named
oversample_by_word Off = refl
oversample_by_word Two = refl
oversample_by_word Four = refl
