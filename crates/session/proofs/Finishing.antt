-- What a session leaves at its end.
use Rattle.std.proofs.Common.{ℕ, ◌<◌, ◌*◌, ◌/◌, length, arith, ℤ, ◌≡◌, List, Bool, true, false, ◌&&◌, Option, Some, None, refl, ◌∙◌, ap}
use Rattle.std.specs.Prelude.{IsSome, IfSome, is_some, if◌then◌else◌}
use Rattle.wa_base.specs.Contexts.{IsSupported, quantum_of}
use Rattle.wa_base.specs.declared.contexts.ContextSpec.{ContextSpec}
use Rattle.law_base.proofs.Rows.{quantum_from}
use Rattle.transcript.specs.declared.lines.EndWord.TheVariants.{Completed, Stalled, Idle}
use Rattle.meaning.specs.declared.world.World.{World}
use Rattle.session.specs.declared.rendered.Rendered.{Rendered}
use Rattle.session.specs.declared.replay.Outcome.{Outcome}
use Rattle.session.specs.Rendering.{IsOutcomeOf, completes, rendering_of}
use Rattle.session.specs.Rows.{samples_of}
use Rattle.ctx_state.specs.Context.{is_closed}
use Rattle.session.specs.Session.{end_of, lines_at_end, finished}
use Rattle.session.specs.View.{SessionView, Stands}

-- samples of a context, if there are any
abbrev left_if : Bool → ContextSpec → List ℤ → Option Rendered
left_if some spec samples = if some then Some (record { spec = spec; samples = samples }) else None

-- a session that stalled or was not started did not complete
not_complete : (started : Bool) (frame : ℕ) → completes (if started then Stalled frame else Idle) ≡ false
not_complete true frame = refl
not_complete false frame = refl

-- what is left of a session that stands for a tape are the samples of the tape, if its context is closed
module _ (view : SessionView) (tape : List World) (stands : Stands view tape) (begun : is_closed view.told.machine.context.state ≡ true → IsSome view.told.machine.context.started) where
  left_is : (audio closed : Bool) → view.audio ≡ audio → is_closed view.told.machine.context.state ≡ closed
      → left_if (audio && closed) view.told.machine.world.spec view.samples
      ≡ left_if (audio && completes (if closed then Completed else if is_some view.told.machine.context.started then Stalled view.told.machine.context.time else Idle)) view.told.machine.world.spec (samples_of tape view.told.machine.world.spec)
  left_is true true on is = ap (left_if true view.told.machine.world.spec) (stands.samples on (begun is))
  left_is true false on is = rw (not_complete (is_some view.told.machine.context.started) view.told.machine.context.time) refl
  left_is false true on is = refl
  left_is false false on is = refl

  pub rendered_is : (r : Option Rendered) → r ≡ left_if (view.audio && is_closed view.told.machine.context.state) view.told.machine.world.spec view.samples → r ≡ rendering_of view.audio view.told.machine.world.spec (finished view.told tape)
  unfolding rendering_of
  rendered_is r is = is ∙ left_is view.audio (is_closed view.told.machine.context.state) refl refl

-- those of a supported context
left_supported : (some : Bool) (spec : ContextSpec) (samples : List ℤ) → IsSupported spec → IfSome (left_if some spec samples) (λ rendered. IsSupported rendered.spec)
left_supported true spec samples supported = supported
left_supported false spec samples supported = tt

-- as many quanta as the tape has worlds
quanta_of_tape : (q n time : ℕ) → 0 < q → time ≡ q * n → time / q ≡ n
quanta_of_tape q n time some is = ap (λ t. t / q) is ∙ quantum_from q n some

pub outcome_is : (view : SessionView) (tape : List World) (outcome : Outcome) → IsSupported view.told.machine.world.spec → Stands view tape → (is_closed view.told.machine.context.state ≡ true → IsSome view.told.machine.context.started)
    → outcome.lines.items ≡ lines_at_end view.told → outcome.end ≡ end_of view.told.machine.context
    → outcome.quanta ≡ view.told.machine.context.time / quantum_of view.told.machine.world.spec
    → outcome.rendered ≡ left_if (view.audio && is_closed view.told.machine.context.state) view.told.machine.world.spec view.samples
    → IsOutcomeOf view.audio view.told.machine.world.spec (finished view.told tape) outcome
outcome_is view tape outcome supported stands begun lines end quanta rendered = record {
  lines = lines;
  end = end;
  quanta = quanta ∙ quanta_of_tape (quantum_of view.told.machine.world.spec) (length tape) view.told.machine.context.time (let low = supported.quantum.low in omega (arith, low)) stands.time;
  rendered = rendered_is view tape stands begun outcome.rendered rendered;
  supported = rw rendered (left_supported (view.audio && is_closed view.told.machine.context.state) view.told.machine.world.spec view.samples supported);
}
