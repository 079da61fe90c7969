-- The answer to what a session handed over.
use Rattle.std.specs.Prelude.{ℕ, List, if◌then◌else◌, option_map, Option, Some, None}
use Rattle.script_ast.specs.declared.call_list.Script.{Script}
use Rattle.transcript.specs.declared.lines.EndWord.{EndWord}
use Rattle.transcript.specs.declared.lines.Line.{Line}
use Rattle.transcript.specs.declared.loudness.Loudness.{Loudness}
use Rattle.transcript.specs.Loudness.{loudness_of}
use Rattle.transcript.specs.Summary.{summary_of}
use Rattle.transcript.specs.Text.{text_of}
use Rattle.session.specs.Rows.{interleaved}
use Rattle.session.specs.declared.rendered.Rendered.{Rendered}
use Rattle.command_line.specs.Words.{Reading}
use Rattle.answers.specs.Outside.{File}
use Rattle.replay_top.specs.Answer.{Answer, file_at_out, is_migrated, migrated, status_of, without_file}
use Rattle.replay_top.specs.WavFile.{wav_of}
use Rattle.replay_top.specs.Words.{reads_source}
use Rattle.replay_top.specs.declared.status.Status.{Status}
use Rattle.replay_top.specs.declared.status.Status.TheVariants as status

-- how loud it is what was rendered, where something was
abbrev pub loudness_left : Option Rendered → Option Loudness
loudness_left rendered = option_map (λ r. loudness_of r.samples) rendered

-- the text of what a session told, in so many quanta
abbrev pub text_to : Reading → List Line → ℕ → EndWord → Option Rendered → List ℕ
text_to asked lines quanta end rendered =
    if reads_source asked then text_of lines end else summary_of lines quanta (loudness_left rendered) end

-- the answer with this file
abbrev pub with_file : Status → List ℕ → File → Answer
with_file status text file = record { status = status; text = text; file = Some file }

-- the WAV file of what was rendered
abbrev pub wav_file : Reading → Rendered → File
wav_file asked rendered = file_at_out asked (wav_of asked.bits rendered.spec (interleaved rendered.spec rendered.samples))

-- the answer where nothing was rendered: the script is written, or no file is
abbrev pub answer_unrendered : Reading → EndWord → List ℕ → Script → Answer
answer_unrendered asked end text script =
    if is_migrated asked end then with_file (status_of end) text (migrated asked script) else without_file (status_of end) text

abbrev pub answer_to_rendering : Reading → EndWord → List ℕ → Script → Option Rendered → Answer
answer_to_rendering asked end text script None = answer_unrendered asked end text script
answer_to_rendering asked end text script (Some rendered) = with_file status.Rendered text (wav_file asked rendered)
