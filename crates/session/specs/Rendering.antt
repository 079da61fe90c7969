-- The samples that a session leaves.
use Rattle.std.specs.Prelude.{◌≡◌, length, ◌&&◌, Bool, true, false, if◌then◌else◌, Option, Some, None, IfSome}
use Rattle.wa_base.specs.Contexts.{IsSupported}
use Rattle.wa_base.specs.declared.contexts.ContextSpec.{ContextSpec}
use Rattle.transcript.specs.declared.lines.EndWord.{EndWord}
use Rattle.transcript.specs.declared.lines.EndWord.TheVariants.{Completed}
use Rattle.session.specs.declared.rendered.Rendered.{Rendered}
use Rattle.session.specs.declared.replay.Outcome.{Outcome}
use Rattle.session.specs.Rows.{samples_of}
use Rattle.session.specs.Session.{Played}

abbrev pub completes : EndWord → Bool
completes Completed = true
completes other = false

-- with audio, a session that completed leaves the samples of its tape
unfoldable pub rendering_of : Bool → ContextSpec → Played → Option Rendered
rendering_of audio spec played =
    if audio && completes played.end then Some (record { spec = spec; samples = samples_of played.tape spec }) else None

-- what is handed over is what a session came to: its lines, its end, the number of its quanta and, with audio, its samples
pub record IsOutcomeOf (audio : Bool) (spec : ContextSpec) (played : Played) (outcome : Outcome) : Type 0 where
  pub lines : outcome.lines.items ≡ played.lines
  pub end : outcome.end ≡ played.end
  pub quanta : outcome.quanta ≡ length played.tape
  pub rendered : outcome.rendered ≡ rendering_of audio spec played
  pub supported : IfSome outcome.rendered (λ left. IsSupported left.spec)
