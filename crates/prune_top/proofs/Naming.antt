-- Calls that give a name: they come to an edit that creates a node, or a buffer, or are refused.
use Rattle.std.proofs.Common.{ℕ, ◌≡◌, List, Bool, true, false, Option, None, Some, Result, Ok, Err, refl}
use Rattle.std.specs.Prelude.{if◌then◌else◌, not, ◌==◌, nat_lt, length, is_some}
use Rattle.io_edge.specs.Paths.{Paths}
use Rattle.wa_base.specs.declared.exceptions.Exc.{Exc}
use Rattle.wa_base.specs.declared.exceptions.Exc.TheVariants.{NotSupported}
use Rattle.wa_base.specs.declared.features.Feature.TheVariants.{Resampling, AssetSize}
use Rattle.wa_base.specs.declared.graph_names.BufId.{BufId}
use Rattle.node_table.specs.declared.kinds.Kind.TheVariants.{Shaper, Causal}
use Rattle.node_table.specs.declared.equation.Equation.TheVariants.{Processor}
use Rattle.script_ast.specs.Operations.{new_name}
use Rattle.script_ast.specs.declared.operations.Op.{Op}
use Rattle.script_ast.specs.declared.operations.Op.TheVariants as op
use Rattle.buffer_store.specs.declared.wav.Wav.{Wav}
use Rattle.wav_io.specs.WavGrammar.{wav_of}
use Rattle.wav_io.specs.declared.wav.WavErr.{WavErr}
use Rattle.meaning.specs.Changes.{refusal}
use Rattle.meaning.specs.declared.buffers.BufferEdit.TheVariants as buffer_edit
use Rattle.meaning.specs.declared.change.Edit.{Edit}
use Rattle.meaning.specs.declared.change.Edit.TheVariants as edit
use Rattle.prune_script.specs.Pruned.{creates_node, is_refusal}
use Rattle.control_side.specs.declared.decide.Decided.{Decided}
use Rattle.control_side.specs.declared.decide.Decided.TheVariants as comes_to
use Rattle.control_side.specs.Machine.{Machine}
use Rattle.control_side.specs.Assets.{decodes, by_reading, adopts, rejected, unless_rejected, max_asset}
use Rattle.control_side.specs.Convolvers.{normalization_refusal}
use Rattle.control_side.specs.Deciding.{buffer_named, unless, edits, by_buffer, with_buffer}
use Rattle.control_side.specs.Params.{unless_refused}
use Rattle.control_side.specs.Processors.{program_refusal}
use Rattle.control_side.specs.Shapers.{oversample_refusal}
use Rattle.control_side.specs.Step.{decided, decided_with, rate_of, delay_of}

abbrev pub is_of_buffers : Edit → Bool
is_of_buffers (edit.Buffers e) = true
is_of_buffers other = false

-- it comes to an edit of buffers, or of nodes, or is refused
abbrev pub IsNaming : Bool → Decided → Type 0
IsNaming nodes (comes_to.Answer said) = is_refusal said ≡ true
IsNaming nodes comes_to.Start = ⊥
IsNaming nodes (comes_to.Suspend frame) = ⊥
IsNaming nodes comes_to.Resume = ⊥
IsNaming nodes (comes_to.Change e) = is_of_buffers e ≡ not nodes

module _ (machine : Machine) where
  edits_naming : (nodes : Bool) (e : Edit) → is_of_buffers e ≡ not nodes → IsNaming nodes (edits machine e)
  edits_naming nodes e is = by_refusal (refusal machine.world machine.context.time e)
    where
      by_refusal : (r : Option Exc) → IsNaming nodes (unless r e)
      by_refusal None = is
      by_refusal (Some exception) = refl

  refused_naming : (nodes : Bool) (r : Option Exc) (d : Decided) → IsNaming nodes d → IsNaming nodes (unless_refused r d)
  refused_naming nodes None d naming = naming
  refused_naming nodes (Some exception) d naming = refl

  buffer_naming : (nodes : Bool) (name : Option (List ℕ)) (what : Option BufId → Decided) → ((b : Option BufId) → IsNaming nodes (what b)) → IsNaming nodes (with_buffer machine name what)
  buffer_naming nodes None what each = each None
  buffer_naming nodes (Some name) what each = by_found (buffer_named machine name)
    where
      by_found : (o : Option BufId) → IsNaming nodes (by_buffer o (λ buffer. what (Some buffer)))
      by_found None = refl
      by_found (Some b) = each (Some b)

  adopting : (wav : Wav) → IsNaming false (adopts machine wav)
  adopting wav = by_rate (wav.rate == machine.world.spec.rate) (refusal machine.world machine.context.time (edit.Buffers (buffer_edit.Adopt wav)))
    where
      by_rate : (b : Bool) (r : Option Exc) → IsNaming false (if b then unless_rejected r (edit.Buffers (buffer_edit.Adopt wav)) else rejected (NotSupported (Some Resampling)))
      by_rate true None = refl
      by_rate true (Some exception) = refl
      by_rate false r = refl

  reading : (r : Result Wav WavErr) → IsNaming false (by_reading machine r)
  reading (Ok wav) = adopting wav
  reading (Err fault) = refl

  decoding : (file : Option (List ℕ)) → IsNaming false (decodes machine file)
  decoding None = refl
  decoding (Some bytes) = by_size (nat_lt max_asset (length bytes))
    where
      by_size : (b : Bool) → IsNaming false (if b then rejected (NotSupported (Some AssetSize)) else by_reading machine (wav_of bytes))
      by_size true = refl
      by_size false = reading (wav_of bytes)

  pub naming : (held : Paths) (o : Op) (name : List ℕ) → new_name o ≡ Some name → IsNaming (creates_node o) (decided_with machine held o)
  unfolding decided
  naming held (op.Create own kind) name is = edits_naming true (edit.Create kind) refl
  naming held (op.CreateDelay own longest time) name is = edits_naming true (edit.Create (delay_of machine.world.spec longest time)) refl
  naming held (op.CreateWaveShaper own curve oversample) name is =
      refused_naming true (oversample_refusal oversample) (edits machine (edit.Create (Shaper curve (is_some curve)))) (edits_naming true (edit.Create (Shaper curve (is_some curve))) refl)
  naming held (op.CreateConvolver own buffer disabled) name is =
      buffer_naming true buffer (λ b. unless_refused (normalization_refusal disabled) (edits machine (edit.CreateConvolver b)))
      (λ b. refused_naming true (normalization_refusal disabled) (edits machine (edit.CreateConvolver b)) (edits_naming true (edit.CreateConvolver b) refl))
  naming held (op.CreateProcessor own code) name is =
      refused_naming true (program_refusal code) (edits machine (edit.Create (Causal (Processor code)))) (edits_naming true (edit.Create (Causal (Processor code))) refl)
  naming held (op.CreateBufferSource own buffer looping first end rate) name is =
      buffer_naming true buffer (λ b. edits machine (edit.CreateBufferSource (rate_of rate) b (record { on = looping; first = first; end = end })))
      (λ b. edits_naming true (edit.CreateBufferSource (rate_of rate) b (record { on = looping; first = first; end = end })) refl)
  naming held (op.CreateBuffer own channels frames rate) name is = edits_naming false (edit.Buffers (buffer_edit.Create channels frames rate)) refl
  naming held (op.DecodeAudioData own path) name is = decoding (held path)
  naming held other name is = absurd cc
