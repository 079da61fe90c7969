-- The text of a transcript. Each line ends with one byte 10.
use Rattle.std.specs.Prelude.{ℕ, List, [], ◌++◌, Some, codes, decimal}
use Rattle.std.specs.Fmt.{signed_decimal}
use Rattle.std.specs.List.{flat_map}
use Rattle.wa_base.specs.declared.exceptions.Exc.{Exc}
use Rattle.wa_base.specs.declared.exceptions.Exc.TheVariants.{NotSupported}
use Rattle.wa_base.specs.Contexts.{state_word}
use Rattle.wa_base.specs.Exceptions.{exception_name}
use Rattle.wa_base.specs.Features.{feature_word}
use Rattle.transcript.specs.declared.lines.Answer.{Answer}
use Rattle.transcript.specs.declared.lines.Answer.TheVariants as answers
use Rattle.transcript.specs.declared.lines.EndWord.{EndWord}
use Rattle.transcript.specs.declared.lines.EndWord.TheVariants as ends
use Rattle.transcript.specs.declared.lines.Line.{Line}
use Rattle.transcript.specs.declared.lines.Line.TheVariants as lines

-- what follows an exception's name: the feature, where the refusal names one
unfoldable pub profile_text : Exc → List ℕ
profile_text (NotSupported (Some feature)) = codes " profile:" ++ feature_word feature
profile_text _ = []

-- an exception: its name, and the feature where the refusal names one
unfoldable pub exception_text : Exc → List ℕ
exception_text exc = exception_name exc ++ profile_text exc

-- what stands behind a call's ordinal
unfoldable pub answer_text : Answer → List ℕ
answer_text answers.Ok = codes "ok"
answer_text (answers.Throw exc) = codes "throw " ++ exception_text exc
answer_text answers.Pending = codes "pending"
answer_text answers.Resolved = codes "resolved"
answer_text (answers.Rejected exc) = codes "rejected " ++ exception_text exc
answer_text (answers.Value value) = codes "value " ++ signed_decimal value
answer_text (answers.State state) = codes "state " ++ state_word state
answer_text (answers.Time frame) = codes "time " ++ decimal frame

-- a line with its end
unfoldable pub line_text : Line → List ℕ
line_text (lines.Call ordinal answer) = decimal ordinal ++ codes " " ++ answer_text answer ++ codes "\n"
line_text (lines.Resolved ordinal) = decimal ordinal ++ codes " resolved\n"
line_text (lines.Ended node name) = codes "ended " ++ decimal node.0 ++ codes " " ++ name ++ codes "\n"
line_text (lines.Complete length) = codes "complete " ++ decimal length ++ codes "\n"

-- the lines in order
abbrev pub lines_text : List Line → List ℕ
lines_text = flat_map line_text

-- what stands behind the word `end` of the last line
unfoldable pub end_word_text : EndWord → List ℕ
end_word_text ends.Completed = codes "completed"
end_word_text (ends.Stalled frame) = codes "stalled " ++ decimal frame
end_word_text ends.Idle = codes "idle"
end_word_text (ends.Refused exc) = codes "refused " ++ exception_text exc

-- the last line with its end
unfoldable pub end_text : EndWord → List ℕ
end_text end = codes "end " ++ end_word_text end ++ codes "\n"

-- the whole transcript: its lines, and then the line that tells how it ended
abbrev pub text_of : List Line → EndWord → List ℕ
text_of lines end = lines_text lines ++ end_text end
