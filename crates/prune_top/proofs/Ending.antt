-- How a run ends that has an answer.
use Rattle.std.proofs.Common.{ℕ, ◌≡◌, List, length, Bool, true, false, Option, None, Some, refl, sym, ap, ◌∙◌, subst, arith, inl, inr}
use Rattle.std.specs.Prelude.{IsTrue, IsNone, IsSome}
use Rattle.std.specs.Io.KnownBytes.{Keeps, IsAtEnd}
use Rattle.io_edge.specs.Paths.{Paths, SamePaths}
use Rattle.answers.specs.Outside.{File, Outside, outside, Gives, IsTextFault, IsFileFault, IsCutShort}
use Rattle.answers.proofs.Since.{gives_since, text_fault_since, file_fault_since, cut_short_since}
use Rattle.prune_top.specs.Answer.{Answer}
use Rattle.prune_top.specs.Run.{IsAnswerOver, IsAnsweredAt, IsWhole, Ran, Counts, IsReadToEnd, IsRead, is_of_script}
use Rattle.prune_top.specs.Words.{Text}
use Rattle.prune_top.specs.declared.status.Status.{Status}
use Rattle.prune_top.specs.declared.status.Status.TheVariants.{Done, BadWords, NotCompleted, BadScript, ScriptTooLong, ScriptFault, AssetFault, TranscriptFault, WavFault, NoMemory}

-- ---- what was given out, after files were read

module _ (written : Option (List ℕ)) (sink_faults : ℕ) (tells told : Bool) (paths later : Paths) (faults now : ℕ) (new : Outside) (same_tells : told ≡ tells) (same : IsTrue tells → SamePaths paths later) (same_faults : now ≡ faults)
    (answer : Answer) (text : List ℕ) (file : Option File) (of_text : text ≡ answer.text) (of_file : file ≡ answer.file) where
  moved : (Q : List ℕ → Option File → Outside → Type 0) → Q text file (outside written sink_faults told later now) → Q answer.text answer.file (outside written sink_faults tells later faults)
  moved Q x =
      let start : outside written sink_faults told later now ≡ outside written sink_faults tells later faults = ap (λ t. outside written sink_faults t later now) same_tells ∙ ap (λ f. outside written sink_faults tells later f) same_faults in
      subst (λ t. Q t answer.file (outside written sink_faults tells later faults)) of_text
      (subst (λ f. Q text f (outside written sink_faults tells later faults)) of_file (subst (λ o. Q text file o) start x))

  pub gave : Gives text file (outside written sink_faults told later now) new → Gives answer.text answer.file (outside written sink_faults tells paths faults) new
  gave gives = gives_since written sink_faults tells paths later faults new same answer.text answer.file (moved (λ t f o. Gives t f o new) gives)

  pub file_failed : IsFileFault text file (outside written sink_faults told later now) new → IsFileFault answer.text answer.file (outside written sink_faults tells paths faults) new
  file_failed fault = file_fault_since written sink_faults tells paths later faults new same answer.text answer.file (moved (λ t f o. IsFileFault t f o new) fault)

  pub text_failed : IsTextFault text (outside written sink_faults told later now) new → IsTextFault answer.text (outside written sink_faults tells paths faults) new
  text_failed fault = text_fault_since written sink_faults tells paths later faults new same answer.text (moved (λ t f o. IsTextFault t o new) fault)

  pub cut_short : IsCutShort text file (outside written sink_faults told later now) new → IsCutShort answer.text answer.file (outside written sink_faults tells paths faults) new
  cut_short cut = cut_short_since written sink_faults tells paths later faults new same answer.text answer.file (moved (λ t f o. IsCutShort t f o new) cut)

-- ---- the status of an answer

-- whether a status is that of an answer, and not of a fault
abbrev is_answer : Status → Bool
is_answer ScriptFault = false
is_answer AssetFault = false
is_answer TranscriptFault = false
is_answer WavFault = false
is_answer NoMemory = false
is_answer status = true

of_script : (status : Status) → is_of_script status ≡ true → is_answer status ≡ true
of_script Done is = refl
of_script NotCompleted is = refl
of_script BadScript is = refl
of_script BadWords is = refl
of_script ScriptTooLong is = refl
of_script ScriptFault is = absurd cc
of_script AssetFault is = absurd cc
of_script TranscriptFault is = absurd cc
of_script WavFault is = absurd cc
of_script NoMemory is = absurd cc

answered : (left : Option (List ℕ)) (tells : Bool) (paths : Paths) (asked : Option Text) (answer : Answer) (now : Option (List ℕ)) → IsAnswerOver left tells paths asked answer → IsAnsweredAt asked answer now → is_answer answer.status ≡ true
answered left tells paths None answer now over at = ap (λ (a : Answer). is_answer a.status) over.is.2
answered left tells paths (Some asked) answer now over (inl long) = ap (λ (a : Answer). is_answer a.status) long
answered left tells paths (Some asked) answer now over (inr at) = of_script answer.status at.0

whole : (status : Status) (asked : Option Text) (Is : Answer → Type 0) (Reads : Type 0) (count : Counts) (old new : Outside) → is_answer status ≡ true → IsWhole status Is old new → Ran status asked Is Reads count old new
whole Done asked Is Reads count old new is ends = ends
whole BadWords asked Is Reads count old new is ends = ends
whole NotCompleted asked Is Reads count old new is ends = ends
whole BadScript asked Is Reads count old new is ends = ends
whole ScriptTooLong asked Is Reads count old new is ends = ends
whole ScriptFault asked Is Reads count old new is ends = absurd cc
whole AssetFault asked Is Reads count old new is ends = absurd cc
whole TranscriptFault asked Is Reads count old new is ends = absurd cc
whole WavFault asked Is Reads count old new is ends = absurd cc
whole NoMemory asked Is Reads count old new is ends = absurd cc

pub ran_whole : (status : Status) (left : Option (List ℕ)) (tells : Bool) (paths : Paths) (asked : Option Text) (answer : Answer) (now : Option (List ℕ)) (Reads : Type 0) (count : Counts) (old new : Outside) → status ≡ answer.status
    → IsAnswerOver left tells paths asked answer → IsAnsweredAt asked answer now → Gives answer.text answer.file old new → Ran status asked (IsAnswerOver left tells paths asked) Reads count old new
ran_whole status left tells paths asked answer now Reads count old new is over at gives =
    whole status asked (IsAnswerOver left tells paths asked) Reads count old new (ap is_answer is ∙ answered left tells paths asked answer now over at) (answer, over, is, gives)

-- ---- what was read of the source

to_end : (status : Status) (now : Option (List ℕ)) → is_of_script status ≡ true → IsAtEnd now → IsReadToEnd status now
to_end Done now is end = end
to_end NotCompleted now is end = end
to_end BadScript now is end = end
to_end BadWords now is end = absurd cc
to_end ScriptTooLong now is end = tt
to_end ScriptFault now is end = tt
to_end AssetFault now is end = end
to_end TranscriptFault now is end = end
to_end WavFault now is end = end
to_end NoMemory now is end = tt

pub read_whole : (status : Status) (asked : Option Text) (answer : Answer) (left now : Option (List ℕ)) → status ≡ answer.status → (IsNone asked → Keeps left now) → IsAnsweredAt asked answer now → IsRead asked status left now
read_whole status None answer left now is unread at = unread refl
read_whole status (Some asked) answer left now is unread (inl long) = subst (λ s. IsReadToEnd s now) (sym (is ∙ ap (λ (a : Answer). a.status) long)) tt
read_whole status (Some asked) answer left now is unread (inr at) = subst (λ s. IsReadToEnd s now) (sym is) (to_end answer.status now at.0 at.1)

pub read_text : (asked : Option Text) (answer : Answer) (left now : Option (List ℕ)) (old new : Outside) → (IsNone asked → Keeps left now) → IsAnsweredAt asked answer now → IsTextFault answer.text old new → IsRead asked TranscriptFault left now
read_text None answer left now old new unread at fault = unread refl
read_text (Some asked) answer left now old new unread (inl long) fault =
    let front = fault.front in let none = ap (λ (a : Answer). length a.text) long in let few = front.1 in absurd (omega (arith, none, few))
read_text (Some asked) answer left now old new unread (inr at) fault = at.1

pub read_file : (asked : Option Text) (answer : Answer) (left now : Option (List ℕ)) (old new : Outside) → (IsNone asked → Keeps left now) → IsAnsweredAt asked answer now → IsFileFault answer.text answer.file old new → IsRead asked WavFault left now
read_file None answer left now old new unread at fault = unread refl
read_file (Some asked) answer left now old new unread (inl long) fault = let due = subst (λ (a : Answer). IsSome a.file) long fault.due in absurd cc
read_file (Some asked) answer left now old new unread (inr at) fault = at.1
