-- The texts of calls, with those that they hold.
use Rattle.std.proofs.Common.{◌≡◌, ℕ, [], ◌∷◌, ◌++◌, true, false, refl, append_assoc}
use Rattle.json.specs.Print.{escape_byte}
use Rattle.serde_json.specs.Data.{Items, no_items, item}
use Rattle.serde_json.specs.Written.{compact_text, members_text}
use Rattle.std.specs.Prelude.{ℤ}
use Rattle.script_ast.specs.Holders.{holds_calls}
use Rattle.script_ast.specs.declared.entries.OpName.TheVariants.{Suspend, StartRendering}
use Rattle.script_ast.specs.declared.fields.Field.TheVariants as field
use Rattle.script_ast.specs.declared.operations.Op.{Op}
use Rattle.script_ast.specs.declared.operations.Op.TheVariants as op
use Rattle.script_text.specs.Order.{opened_text, then_text}
use Rattle.script_text.specs.Text.{call_data}
use Rattle.script_text.specs.Writing.{members_given}
use Rattle.script_text.specs.declared.members.Given.TheVariants as given

-- a call without a `then` list is written without the calls that it holds
pub call_alone : (rate : ℕ) (held : Items) (o : Op) → holds_calls o ≡ false → call_data rate held o ≡ call_data rate no_items o
call_alone rate held (op.Create name kind) alone = refl
call_alone rate held (op.CreateDelay name max_delay_time delay_time) alone = refl
call_alone rate held (op.CreateWaveShaper name curve oversample) alone = refl
call_alone rate held (op.CreateConvolver name buffer disable_normalization) alone = refl
call_alone rate held (op.CreateProcessor name program) alone = refl
call_alone rate held (op.CreateBufferSource name buffer looping loop_start loop_end playback_rate) alone = refl
call_alone rate held (op.CreateBuffer name channels frames buffer_rate) alone = refl
call_alone rate held (op.LeftOut left_out) alone = refl
call_alone rate held (op.Connect from output to input) alone = refl
call_alone rate held (op.ConnectParam from output to parameter) alone = refl
call_alone rate held (op.Disconnect from output to input) alone = refl
call_alone rate held (op.DisconnectParam from to parameter output) alone = refl
call_alone rate held (op.SetChannelCount node value) alone = refl
call_alone rate held (op.SetChannelCountMode node value) alone = refl
call_alone rate held (op.SetChannelInterpretation node value) alone = refl
call_alone rate held (op.SetCurve node curve) alone = refl
call_alone rate held (op.SetOversample node value) alone = refl
call_alone rate held (op.SetBuffer node buffer) alone = refl
call_alone rate held (op.SetLoop node value) alone = refl
call_alone rate held (op.SetLoopStart node value) alone = refl
call_alone rate held (op.SetLoopEnd node value) alone = refl
call_alone rate held (op.CopyToChannel buffer channel samples at) alone = refl
call_alone rate held (op.Start node when offset duration) alone = refl
call_alone rate held (op.Stop node when) alone = refl
call_alone rate held (op.SetValue node parameter value) alone = refl
call_alone rate held (op.SetValueAtTime node parameter value at) alone = refl
call_alone rate held (op.LinearRampToValueAtTime node parameter value at) alone = refl
call_alone rate held (op.SetValueCurveAtTime node parameter values at duration) alone = refl
call_alone rate held (op.CancelScheduledValues node parameter at) alone = refl
call_alone rate held (op.CancelAndHoldAtTime node parameter at) alone = refl
call_alone rate held (op.SetAutomationRate node parameter value) alone = refl
call_alone rate held (op.ExponentialRampToValueAtTime node parameter) alone = refl
call_alone rate held (op.SetTargetAtTime node parameter) alone = refl
call_alone rate held (op.ReadValue node parameter) alone = refl
call_alone rate held (op.Suspend at) alone = cc
call_alone rate held op.StartRendering alone = cc
call_alone rate held op.Resume alone = refl
call_alone rate held (op.DecodeAudioData name path) alone = refl
call_alone rate held op.ReadState alone = refl
call_alone rate held op.ReadTime alone = refl

pub suspend_text : (rate : ℕ) (held : Items) (frames : ℤ)
    → opened_text Suspend ++ (then_text held ++ members_text true (members_given rate ((field.Time, given.Time frames) ∷ []))) ≡ compact_text (call_data rate held (op.Suspend frames))
unfolding escape_byte
suspend_text rate no_items frames = refl
suspend_text rate (item d ds) frames = simp append_assoc

pub start_text : (rate : ℕ) (held : Items) → opened_text StartRendering ++ (then_text held ++ members_text true (members_given rate [])) ≡ compact_text (call_data rate held op.StartRendering)
unfolding escape_byte
start_text rate no_items = refl
start_text rate (item d ds) = simp append_assoc
