-- The summary of a session, in place of its transcript.
use Rattle.std.specs.Prelude.{ℕ, List, [], ◌++◌, length, filter, codes, decimal, Bool, true, false, Option, Some, None}
use Rattle.std.specs.Fmt.{signed_decimal}
use Rattle.transcript.specs.declared.lines.Answer.{Answer}
use Rattle.transcript.specs.declared.lines.Answer.TheVariants.{Throw, Rejected}
use Rattle.transcript.specs.declared.lines.EndWord.{EndWord}
use Rattle.transcript.specs.declared.lines.Line.{Line}
use Rattle.transcript.specs.declared.lines.Line.TheVariants.{Call, Ended}
use Rattle.transcript.specs.declared.loudness.Loudness.{Loudness}
use Rattle.transcript.specs.Text.{end_text}

-- a call has one line, which is its answer's
unfoldable pub is_call : Line → Bool
is_call (Call ordinal answer) = true
is_call other = false

-- a source ended
unfoldable pub is_end : Line → Bool
is_end (Ended node name) = true
is_end other = false

abbrev pub refuses : Answer → Bool
refuses (Throw exc) = true
refuses (Rejected exc) = true
refuses other = false

-- a call was refused: it threw, or its promise was rejected
unfoldable pub is_refusal : Line → Bool
is_refusal (Call ordinal answer) = refuses answer
is_refusal other = false

-- how many lines are so
abbrev pub count : (Line → Bool) → List Line → ℕ
count test lines = length (filter test lines)

-- behind the counts, where there are samples
unfoldable pub loudness_text : Option Loudness → List ℕ
loudness_text None = []
loudness_text (Some loudness) = codes " peak " ++ decimal loudness.peak ++ codes " sum " ++ signed_decimal loudness.sum

-- the calls that were run, and the quanta that were rendered
unfoldable pub work_text : ℕ → ℕ → List ℕ
work_text calls quanta = codes " calls " ++ decimal calls ++ codes " quanta " ++ decimal quanta

-- the sources that ended, and the calls that were refused
unfoldable pub events_text : ℕ → ℕ → List ℕ
events_text ended refused = codes " ended " ++ decimal ended ++ codes " refused " ++ decimal refused

-- the counts, and how loud the samples are, in one line; and then the line that tells how the session ended
abbrev pub summary_of : List Line → ℕ → Option Loudness → EndWord → List ℕ
summary_of lines quanta loudness end =
    codes "summary" ++ work_text (count is_call lines) quanta
    ++ events_text (count is_end lines) (count is_refusal lines)
    ++ loudness_text loudness ++ codes "\n" ++ end_text end
