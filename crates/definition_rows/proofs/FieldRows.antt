-- The fields of a call (docs/FORMATS.md, "Kinds of fields"): each range at its end and one past, and the operations that the profile leaves out.
use Rattle.std.specs.Prelude.{ℕ, ◌≡◌, List, [], ◌∷◌, map, replicate, codes, true, false, Option, None, Some, option_map, option_and_then, refl}
use Rattle.serde_json.proofs.OnLiterals.{serde_json_on_literals}
use Rattle.serde_json.specs.Read.{read}
use Rattle.wa_base.specs.Features.{feature_word}
use Rattle.wa_base.specs.declared.features.Feature.{Feature}
use Rattle.script_ast.specs.Entries.{op_named, left_out_feature}
use Rattle.script_ast.specs.Ranges.{is_new_name, is_path}
use Rattle.script_ast.specs.declared.clocks.Clock.TheVariants.{Frames}
use Rattle.script_ast.specs.declared.entries.Kind.{Kind}
use Rattle.script_ast.specs.declared.entries.Kind.TheVariants as kind
use Rattle.script_ast.specs.declared.entries.OpName.{OpName}
use Rattle.script_ast.specs.declared.entries.OpName.TheVariants.{LeftOut}
use Rattle.script_fields.specs.Values.{cause_of}
use Rattle.script_fields.specs.declared.values.Cause.{Cause}
use Rattle.script_fields.specs.declared.values.Cause.TheVariants.{OutOfRange}

-- why the value of each text may not stand in a field of the kind: no cause, where it may
abbrev causes : Kind → List (List ℕ) → List (Option (Option Cause))
causes kind texts = map (λ text. option_map (cause_of Frames kind) (read text)) texts

abbrev past : Option (Option Cause)
past = Some (Some OutOfRange)

-- values, times and counts
numbers : (causes kind.Fix (codes "-2147483649" ∷ codes "-2147483648" ∷ codes "2147483647" ∷ codes "2147483648" ∷ []) ≡ past ∷ Some None ∷ Some None ∷ past ∷ [])
    × (causes kind.Time (codes "-1099511627777" ∷ codes "-1099511627776" ∷ codes "1099511627776" ∷ codes "1099511627777" ∷ []) ≡ past ∷ Some None ∷ Some None ∷ past ∷ [])
    × (causes kind.Count (codes "-1" ∷ codes "0" ∷ codes "4294967295" ∷ codes "4294967296" ∷ []) ≡ past ∷ Some None ∷ Some None ∷ past ∷ [])
unfolding serde_json_on_literals
numbers = (refl, refl, refl)

-- a new name has 1 to 64 letters, digits, `_` and `-`, and is not `destination`; a path has 1 to 255 bytes
names : (map is_new_name ([] ∷ codes "a" ∷ replicate 64 97 ∷ replicate 65 97 ∷ codes "Az_0-9" ∷ codes "a b" ∷ codes "a." ∷ (195 ∷ 164 ∷ []) ∷ codes "destination" ∷ codes "destinations" ∷ codes "Destination" ∷ [])
    ≡ false ∷ true ∷ true ∷ false ∷ true ∷ false ∷ false ∷ false ∷ false ∷ true ∷ true ∷ [])
    × (map is_path ([] ∷ replicate 1 97 ∷ replicate 255 97 ∷ replicate 256 97 ∷ []) ≡ false ∷ true ∷ true ∷ false ∷ [])
unfolding is_new_name
names = (refl, refl)

-- the operations that are left out, each with the word of its feature
abbrev left_out : OpName → Option Feature
left_out (LeftOut name) = Some (left_out_feature name)
left_out other = None

left_out_words : map (λ operation. option_map feature_word (option_and_then left_out (op_named operation))) (
    codes "createOscillator" ∷ codes "createPeriodicWave" ∷ codes "createBiquadFilter" ∷ codes "createStereoPanner" ∷ codes "createPanner" ∷ codes "createDynamicsCompressor"
    ∷ codes "createAnalyser" ∷ codes "setListener" ∷ codes "createMediaElementSource" ∷ codes "createMediaStreamSource" ∷ codes "createMediaStreamTrackSource"
    ∷ codes "createMediaStreamDestination" ∷ codes "createScriptProcessor" ∷ codes "createAudioWorkletNode" ∷ codes "createConvolver" ∷ codes "createGain" ∷ [])
    ≡ Some (codes "oscillator") ∷ Some (codes "periodic-wave") ∷ Some (codes "biquad") ∷ Some (codes "stereo-panner") ∷ Some (codes "panner") ∷ Some (codes "compressor")
    ∷ Some (codes "analyser") ∷ Some (codes "listener") ∷ Some (codes "media-element-source") ∷ Some (codes "media-stream-source") ∷ Some (codes "media-stream-track-source")
    ∷ Some (codes "media-stream-destination") ∷ Some (codes "script-processor") ∷ Some (codes "audio-worklet") ∷ None ∷ None ∷ []
unfolding op_named
left_out_words = refl
