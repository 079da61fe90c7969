-- Which operations leave the context alone.
use Rattle.std.proofs.Common.{ℕ, ◌≡◌, List, length, Bool, true, false, Option, Some, None, Result, Ok, Err, refl, sym, ◌∙◌}
use Rattle.std.specs.Prelude.{◌==◌, nat_lt, if◌then◌else◌}
use Rattle.io_edge.specs.Paths.{Paths}
use Rattle.wa_base.specs.declared.exceptions.Exc.{Exc}
use Rattle.wa_base.specs.declared.exceptions.Exc.TheVariants.{NotSupported}
use Rattle.wa_base.specs.declared.features.Feature.TheVariants.{Resampling, AssetSize}
use Rattle.wav_io.specs.WavGrammar.{wav_of}
use Rattle.buffer_store.specs.declared.wav.Wav.{Wav}
use Rattle.wav_io.specs.declared.wav.WavErr.{WavErr}
use Rattle.script_ast.specs.Operations.{new_name}
use Rattle.script_ast.specs.declared.call_list.Call.{Call}
use Rattle.script_ast.specs.declared.operations.Op.{Op}
use Rattle.script_ast.specs.declared.operations.Op.TheVariants as op
use Rattle.meaning.specs.declared.buffers.BufferEdit.TheVariants.{Adopt}
use Rattle.meaning.specs.declared.change.Edit.{Edit}
use Rattle.meaning.specs.declared.change.Edit.TheVariants.{Buffers}
use Rattle.meaning.specs.Changes.{refusal}
use Rattle.control_side.specs.Assets.{max_asset, rejected, unless_rejected, adopts, by_reading, decodes}
use Rattle.control_side.specs.declared.decide.Decided.{Decided}
use Rattle.control_side.specs.declared.decide.Decided.TheVariants as comes_to
use Rattle.control_side.specs.Machine.{Machine}
use Rattle.control_side.specs.Step.{decided, decided_with, settled, with_edit, is_start, is_resume}
use Rattle.control_side.proofs.Deciding.{is_suspension, Comes, comes}

-- the operations on the context
abbrev pub is_of_context : Op → Bool
is_of_context (op.Suspend time) = true
is_of_context op.StartRendering = true
is_of_context op.Resume = true
is_of_context other = false

start_is_of_context : (o : Op) → is_start o ≡ true → is_of_context o ≡ true
start_is_of_context op.StartRendering is = refl
start_is_of_context other is = absurd cc

suspension_is_of_context : (o : Op) → is_suspension o ≡ true → is_of_context o ≡ true
suspension_is_of_context (op.Suspend time) is = refl
suspension_is_of_context other is = absurd cc

resume_is_of_context : (o : Op) → is_resume o ≡ true → is_of_context o ≡ true
resume_is_of_context op.Resume is = refl
resume_is_of_context other is = absurd cc

edit_leaves : (m : Machine) (e : Edit) (name : Option (List ℕ)) → (with_edit m e name).context ≡ m.context
edit_leaves m e None = refl
edit_leaves m e (Some name) = refl

-- what may come of another operation leaves the context alone
decided_leaves : (m : Machine) (call : Call) (o : Op) (d : Decided) → Comes m o d → is_of_context o ≡ false → (settled m call d).machine.context ≡ m.context
decided_leaves m call o (comes_to.Answer said) may other = refl
decided_leaves m call o comes_to.Start may other = absurd (let both = sym (start_is_of_context o may.0) ∙ other in cc)
decided_leaves m call o (comes_to.Suspend frame) may other = absurd (let both = sym (suspension_is_of_context o may.0) ∙ other in cc)
decided_leaves m call o comes_to.Resume may other = absurd (let both = sym (resume_is_of_context o may.0) ∙ other in cc)
decided_leaves m call o (comes_to.Change e) may other = edit_leaves m e (new_name call.op)

-- nor does decoding a file touch it
module _ (m : Machine) (call : Call) where
  unless_leaves : (r : Option Exc) (e : Edit) → (settled m call (unless_rejected r e)).machine.context ≡ m.context
  unless_leaves None e = edit_leaves m e (new_name call.op)
  unless_leaves (Some exc) e = refl

  adopts_leaves : (wav : Wav) → (settled m call (adopts m wav)).machine.context ≡ m.context
  adopts_leaves wav = by_rate (wav.rate == m.world.spec.rate)
    where
      e : Edit
      e = Buffers (Adopt wav)

      by_rate : (b : Bool) → (settled m call (if b then unless_rejected (refusal m.world m.context.time e) e else rejected (NotSupported (Some Resampling)))).machine.context ≡ m.context
      by_rate true = unless_leaves (refusal m.world m.context.time e) e
      by_rate false = refl

  reading_leaves : (read : Result Wav WavErr) → (settled m call (by_reading m read)).machine.context ≡ m.context
  reading_leaves (Ok wav) = adopts_leaves wav
  reading_leaves (Err fault) = refl

  decodes_leaves : (found : Option (List ℕ)) → (settled m call (decodes m found)).machine.context ≡ m.context
  decodes_leaves None = refl
  decodes_leaves (Some bytes) = by_length (nat_lt max_asset (length bytes))
    where
      by_length : (b : Bool) → (settled m call (if b then rejected (NotSupported (Some AssetSize)) else by_reading m (wav_of bytes))).machine.context ≡ m.context
      by_length true = refl
      by_length false = reading_leaves (wav_of bytes)

-- an operation that is none on the context leaves it alone
pub op_leaves : (m : Machine) (call : Call) (held : Paths) (o : Op) → is_of_context o ≡ false → (settled m call (decided_with m held o)).machine.context ≡ m.context
op_leaves m call held (op.DecodeAudioData name path) other = decodes_leaves m call (held path)
op_leaves m call held o other = decided_leaves m call o (decided m o) (comes m o) other
