-- A world and the one without the nodes that are not kept stay so by every edit.
use Rattle.std.proofs.Common.{ℕ, ◌≡◌, None}
use Rattle.meaning.specs.declared.change.Edit.{Edit}
use Rattle.meaning.specs.declared.change.Edit.TheVariants as edit
use Rattle.meaning.specs.declared.world.World.{World}
use Rattle.meaning.specs.Changes.{edited, refusal, Accepts}
use Rattle.meaning.specs.Validity.{IsValid}
use Rattle.prune.proofs.Flags.{Flags}
use Rattle.prune.proofs.Without.{part_edit, IsWithout, IsHeardEdit, IsUnheardEdit}
use Rattle.prune.proofs.WithoutCreations.{create_heard, create_source_heard, create_convolver_heard, create_other, create_source_other, create_convolver_other}
use Rattle.prune.proofs.WithoutConnections.{connect_heard, connect_other, disconnect_heard, disconnect_other}
use Rattle.prune.proofs.WithoutNames.{edit_named}
use Rattle.prune.proofs.WithoutRefusals.{edit_accepted}
use Rattle.prune.proofs.WithoutSettings.{source_heard, source_other, param_heard, param_other, attribute_heard, attribute_other, curve_heard, curve_other, buffers_heard}

-- An edit that is not heard is left out.
pub unheard_edit : (fs : Flags) (part whole : World) (now : ℕ) (e : Edit) → IsWithout fs part whole → IsValid whole → IsUnheardEdit fs whole e → IsWithout fs part (edited whole now e)
unheard_edit fs part whole now (edit.Create kind) is valid unheard = create_other fs part whole is valid now unheard kind
unheard_edit fs part whole now (edit.CreateBufferSource rate buffer points) is valid unheard = create_source_other fs part whole is valid now unheard rate buffer points
unheard_edit fs part whole now (edit.CreateConvolver buffer) is valid unheard = create_convolver_other fs part whole is valid now unheard buffer
unheard_edit fs part whole now (edit.Connect e) is valid unheard = connect_other fs part whole is now e valid unheard
unheard_edit fs part whole now (edit.Disconnect from form) is valid unheard = disconnect_other fs part whole is now from form unheard
unheard_edit fs part whole now (edit.Source node e) is valid unheard = source_other fs part whole is now node.0 e unheard
unheard_edit fs part whole now (edit.Param id e) is valid unheard = param_other fs part whole is now id e unheard
unheard_edit fs part whole now (edit.Attribute node e) is valid unheard = attribute_other fs part whole is now node e unheard
unheard_edit fs part whole now (edit.SetCurve node curve) is valid unheard = curve_other fs part whole is now node curve unheard
unheard_edit fs part whole now (edit.Buffers e) is valid unheard = absurd unheard

-- One that is heard is made in both.
pub heard_edit : (fs : Flags) (part whole : World) (now : ℕ) (e : Edit) → IsWithout fs part whole → IsValid whole → IsHeardEdit fs whole e → IsWithout fs (edited part now (part_edit fs e)) (edited whole now e)
heard_edit fs part whole now (edit.Create kind) is valid heard = create_heard fs part whole is valid now heard kind
heard_edit fs part whole now (edit.CreateBufferSource rate buffer points) is valid heard = create_source_heard fs part whole is valid now heard rate buffer points
heard_edit fs part whole now (edit.CreateConvolver buffer) is valid heard = create_convolver_heard fs part whole is valid now heard buffer
heard_edit fs part whole now (edit.Connect e) is valid heard = connect_heard fs part whole is now e heard.0 heard.1
heard_edit fs part whole now (edit.Disconnect from form) is valid heard = disconnect_heard fs part whole is now from form heard.0 heard.1
heard_edit fs part whole now (edit.Source node e) is valid heard = source_heard fs part whole is now node.0 e heard
heard_edit fs part whole now (edit.Param id e) is valid heard = param_heard fs part whole is now id e heard
heard_edit fs part whole now (edit.Attribute node e) is valid heard = attribute_heard fs part whole is now node e heard
heard_edit fs part whole now (edit.SetCurve node curve) is valid heard = curve_heard fs part whole is now node curve heard
heard_edit fs part whole now (edit.Buffers e) is valid heard = buffers_heard fs part whole is now e

-- What the whole accepts the part accepts.
pub heard_accepted : (fs : Flags) (part whole : World) (now : ℕ) (e : Edit) → IsWithout fs part whole → IsValid whole → IsHeardEdit fs whole e → refusal whole now e ≡ None → refusal part now (part_edit fs e) ≡ None
heard_accepted fs part whole now e is valid heard fine = edit_accepted fs part whole is now e heard fine

pub heard_accepts : (fs : Flags) (part whole : World) (now : ℕ) (e : Edit) → IsWithout fs part whole → IsValid whole → IsHeardEdit fs whole e
    → Accepts whole (record { time = now; edit = e }) → Accepts part (record { time = now; edit = part_edit fs e })
heard_accepts fs part whole now e is valid heard accepts = record {
  time = accepts.time;
  named = edit_named fs part whole is e heard accepts.named;
  accepted = edit_accepted fs part whole is now e heard accepts.accepted;
}
