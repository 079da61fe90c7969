-- The words of parameters and of a node's attributes, as the Web Audio recommendation spells them.
use Rattle.std.specs.Prelude.{ℕ, List, codes}
use Rattle.wa_base.specs.declared.graph_names.ParamName.{ParamName}
use Rattle.wa_base.specs.declared.graph_names.ParamName.TheVariants.{Offset, Gain, DelayTime, PlaybackRate, Detune}
use Rattle.wa_base.specs.declared.graph_names.Mode.{Mode}
use Rattle.wa_base.specs.declared.graph_names.Mode.TheVariants.{Max, ClampedMax, Explicit}
use Rattle.wa_base.specs.declared.graph_names.Interp.{Interp}
use Rattle.wa_base.specs.declared.graph_names.Interp.TheVariants.{Speakers, Discrete}
use Rattle.wa_base.specs.declared.graph_names.Rate.{Rate}
use Rattle.wa_base.specs.declared.graph_names.Rate.TheVariants.{A, K}

-- the name of a parameter
abbrev pub param_word : ParamName → List ℕ
param_word Offset = codes "offset"
param_word Gain = codes "gain"
param_word DelayTime = codes "delayTime"
param_word PlaybackRate = codes "playbackRate"
param_word Detune = codes "detune"

-- the word of a ChannelCountMode
abbrev pub mode_word : Mode → List ℕ
mode_word Max = codes "max"
mode_word ClampedMax = codes "clamped-max"
mode_word Explicit = codes "explicit"

-- the word of a ChannelInterpretation
abbrev pub interp_word : Interp → List ℕ
interp_word Speakers = codes "speakers"
interp_word Discrete = codes "discrete"

-- the word of an AutomationRate
abbrev pub rate_word : Rate → List ℕ
rate_word A = codes "a-rate"
rate_word K = codes "k-rate"
