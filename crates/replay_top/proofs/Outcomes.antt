-- What a session hands over can be written, and the answer to it is the session's.
use Rattle.std.proofs.Common.{◌≡◌, ◌*◌, ℕ, List, length, Option, Some, None, Bool, true, false, ◌&&◌, if◌then◌else◌, arith, refl, inl, inr, ap, ◌∙◌}
use Rattle.std.proofs.Math.Bool.{and-false}
use Rattle.std.specs.Prelude.{IfSome}
use Rattle.std.proofs.lemmas.Bool.{cases_Bool}
use Rattle.std.proofs.lemmas.Bool.Decides.{nat_tests}
use Rattle.std.proofs.lemmas.List.FromFn.{length-map-range_with_len}
use Rattle.wa_base.specs.declared.contexts.ContextSpec.{ContextSpec}
use Rattle.wa_base.specs.Contexts.{is_supported, IsSupported}
use Rattle.script_ast.specs.declared.call_list.Script.{Script}
use Rattle.wa_base.specs.declared.exceptions.Exc.TheVariants.{NotSupported}
use Rattle.transcript.specs.Text.{text_of}
use Rattle.transcript.specs.Summary.{summary_of}
use Rattle.transcript.specs.Loudness.{loudness_of}
use Rattle.transcript.specs.declared.loudness.Loudness.{Loudness}
use Rattle.transcript.specs.declared.lines.EndWord.{EndWord}
use Rattle.transcript.specs.declared.lines.EndWord.TheVariants.{Completed, Stalled, Idle, Refused}
use Rattle.session.specs.declared.rendered.Rendered.{Rendered}
use Rattle.session.specs.Rendering.{completes, rendering_of}
use Rattle.session.specs.Rows.{sample_in, samples_of}
use Rattle.session.specs.Folders.{Folder}
use Rattle.session.specs.Session.{Played, session_of}
use Rattle.meaning.specs.declared.world.World.{World}
use Rattle.command_line.specs.Words.{Reading, renders}
use Rattle.session.proofs.Interleaving.{interleaved_rendered}
use Rattle.answers.specs.Outside.{File}
use Rattle.replay_top.specs.Answer.{Answer, status_of, wav_of_tape, file_of, text_in, has_samples, runs, is_migrated, migrated, without_file, answer_to_session}
use Rattle.replay_top.specs.Outcome.{answer_to_rendering, answer_unrendered, with_file, loudness_left, text_to}
use Rattle.replay_top.specs.declared.status.Status.{Status}
use Rattle.replay_top.specs.Words.{reads_source}
use Rattle.replay_top.specs.WavFile.{IsWritable}
use Rattle.replay_top.proofs.FrameRows.{wav-rows}

pub length-samples_of : (tape : List World) (spec : ContextSpec) → length (samples_of tape spec) ≡ spec.channels * spec.length
unfolding samples_of
length-samples_of tape spec = length-map-range_with_len (sample_in tape spec) 0 (spec.channels * spec.length)

ranges_of : (spec : ContextSpec) → is_supported spec ≡ true → IsSupported spec
unfolding is_supported
ranges_of spec holds = record {
  channels_low = grind (arith, nat_tests);
  channels_high = grind (arith, nat_tests);
  length_low = grind (arith, nat_tests);
  length_high = grind (arith, nat_tests);
  rate_low = grind (arith, nat_tests);
  rate_high = grind (arith, nat_tests);
  samples_high = grind (arith, nat_tests);
  quantum = record { low = grind (arith, nat_tests); high = grind (arith, nat_tests) };
}

-- what a session leaves that ended so, by whether it has audio
abbrev left_at : Bool → EndWord → ContextSpec → List World → Option Rendered
left_at audio end spec tape = if audio && completes end then Some (record { spec = spec; samples = samples_of tape spec }) else None

writable_at : (audio : Bool) (end : EndWord) (spec : ContextSpec) (tape : List World) → IsSupported spec → IfSome (left_at audio end spec tape) IsWritable
writable_at true Completed spec tape ranges = record {
  supported = ranges;
  long = length-samples_of tape spec;
}
writable_at false Completed spec tape ranges = tt
writable_at audio (Stalled frame) spec tape ranges = rw and-false tt
writable_at audio Idle spec tape ranges = rw and-false tt
writable_at audio (Refused exception) spec tape ranges = rw and-false tt

-- the file of a session that ended so, where nothing was rendered
abbrev unrendered_file : EndWord → Reading → Script → Option File
unrendered_file end asked script = if is_migrated asked end then Some (migrated asked script) else None

-- the file of a session that ended so, by whether it has audio
abbrev file_at : Bool → EndWord → Reading → Script → List World → Option File
file_at audio end asked script tape = if audio && completes end then Some (wav_of_tape asked script.context tape) else unrendered_file end asked script

-- the answer with a file, or without one
file_if : (some : Bool) (status : Status) (text : List ℕ) (file : File)
    → (if some then with_file status text file else without_file status text) ≡ record { status = status; text = text; file = if some then Some file else None }
file_if true status text file = refl
file_if false status text file = refl

unrendered : (end : EndWord) (asked : Reading) (text : List ℕ) (script : Script)
    → answer_unrendered asked end text script ≡ record { status = status_of end; text = text; file = unrendered_file end asked script }
unrendered end asked text script = file_if (is_migrated asked end) (status_of end) text (migrated asked script)

answer_at : (audio : Bool) (end : EndWord) (asked : Reading) (text : List ℕ) (script : Script) (tape : List World) → IsSupported script.context
    → answer_to_rendering asked end text script (left_at audio end script.context tape) ≡ record { status = status_of end; text = text; file = file_at audio end asked script tape }
answer_at true Completed asked text script tape ranges =
    let frames = interleaved_rendered tape script.context ranges.channels_low ranges.length_low in
    rw (frames, wav-rows asked.bits tape script.context) refl
answer_at false Completed asked text script tape ranges = unrendered Completed asked text script
answer_at audio (Stalled frame) asked text script tape ranges = rw and-false (unrendered (Stalled frame) asked text script)
answer_at audio Idle asked text script tape ranges = rw and-false (unrendered Idle asked text script)
answer_at audio (Refused exception) asked text script tape ranges = rw and-false (unrendered (Refused exception) asked text script)

-- a session that ran has a context that can be rendered
pub runs_supported : (folder : Folder) (script : Script) → runs (session_of folder script).end ≡ true → IsSupported script.context
unfolding session_of
runs_supported folder script ran = elim (cases_Bool (is_supported script.context)) [
  | inl holds ↦ ranges_of script.context holds
  | inr fails ↦ absurd (let wrong : false ≡ true = rw fails at ran in cc)
]

-- what a session of a script hands over can be written
pub writable : (audio : Bool) (folder : Folder) (script : Script) → IfSome (rendering_of audio script.context (session_of folder script)) IsWritable
unfolding session_of rendering_of
writable audio folder script = elim (cases_Bool (is_supported script.context)) [
  | inl holds ↦ writable_at audio (session_of folder script).end script.context (session_of folder script).tape (ranges_of script.context holds)
  | inr fails ↦ rw (fails, and-false) tt
]

-- what is left is as loud as the tape
loudness_if : (some : Bool) (rendered : Rendered) → loudness_left (if some then Some rendered else None) ≡ (if some then Some (loudness_of rendered.samples) else None)
loudness_if true rendered = refl
loudness_if false rendered = refl

-- the text of what is handed over
abbrev text_left : Reading → ContextSpec → Played → List ℕ
text_left asked spec played = text_to asked played.lines (length played.tape) played.end (rendering_of (renders asked.mode) spec played)

text_is : (asked : Reading) (spec : ContextSpec) (played : Played) → text_left asked spec played ≡ text_in asked spec played
unfolding rendering_of
text_is asked spec played =
    ap (λ (loudness : Option Loudness). if reads_source asked then text_of played.lines played.end else summary_of played.lines (length played.tape) loudness played.end)
    (loudness_if (has_samples asked played) (record { spec = spec; samples = samples_of played.tape spec }))

-- with any text
any_text : (asked : Reading) (folder : Folder) (script : Script) (text : List ℕ)
    → answer_to_rendering asked (session_of folder script).end text script (rendering_of (renders asked.mode) script.context (session_of folder script))
    ≡ record { status = status_of (session_of folder script).end; text = text; file = file_of asked script (session_of folder script) }
unfolding session_of rendering_of
any_text asked folder script text = elim (cases_Bool (is_supported script.context)) [
  | inl holds ↦ answer_at (renders asked.mode) (session_of folder script).end asked text script (session_of folder script).tape (ranges_of script.context holds)
  | inr fails ↦ rw (fails, and-false) (unrendered (Refused (NotSupported None)) asked text script)
]

-- the answer to what it hands over is the session's
pub rendering_answered : (asked : Reading) (folder : Folder) (script : Script)
    → answer_to_rendering asked (session_of folder script).end (text_left asked script.context (session_of folder script)) script (rendering_of (renders asked.mode) script.context (session_of folder script))
    ≡ answer_to_session asked script (session_of folder script)
rendering_answered asked folder script =
    let played = session_of folder script in
    any_text asked folder script (text_left asked script.context played)
    ∙ ap (λ (text : List ℕ). let answer : Answer = record { status = status_of played.end; text = text; file = file_of asked script played } in answer) (text_is asked script.context played)
