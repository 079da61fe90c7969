-- What answers a command line, over what a source and a store tell.
use Rattle.std.proofs.Common.{ℕ, ◌≡◌, ◌<◌, ◌≤◌, List, [], length, Bool, true, false, Option, None, Some, Err, nat_lt, refl, sym, ap, ◌∙◌, subst, arith}
use Rattle.std.specs.Prelude.{IsTrue, unwrap_or, if◌then◌else◌}
use Rattle.std.proofs.lemmas.Bool.Decides.{nat_tests}
use Rattle.io_edge.specs.Paths.{Paths}
use Rattle.io_edge.specs.Told.{IsToldAs}
use Rattle.answers.specs.FaultLine.{fault_line}
use Rattle.script_ast.specs.declared.call_list.Script.{Script}
use Rattle.script_json.specs.Script.{script_of}
use Rattle.script_fields.specs.declared.faults.ScriptErr.{ScriptErr}
use Rattle.transcript.specs.Text.{text_of}
use Rattle.transcript.specs.declared.lines.EndWord.{EndWord}
use Rattle.prune_script.specs.Pruned.{pruned}
use Rattle.session.specs.Folders.{Folder, IsFolderOf}
use Rattle.session.specs.Rendering.{completes}
use Rattle.session.specs.Session.{session_of, Played}
use Rattle.prune_top.specs.declared.pruning.Pruned.{Pruned}
use Rattle.prune_top.specs.declared.status.Status.TheVariants.{BadWords, NotCompleted, BadScript, ScriptTooLong}
use Rattle.prune_top.specs.Answer.{Answer, without_file, with_script, with_pruned, answer_to_session, answer_to_script}
use Rattle.prune_top.specs.Pruning.{IsPrunedOf}
use Rattle.prune_top.specs.Run.{Over, IsAnswerOver}
use Rattle.prune_top.specs.Words.{Text, usage}

-- ---- a session

pub answered_pruned : (out : Text) (script : Script) (session : Played) (part : Pruned) (answer : Answer) → IsPrunedOf script session part → answer ≡ with_script out part.kept part.of part.script → answer ≡ answer_to_session out script session
answered_pruned out script session part answer of is =
    is
    ∙ ap (λ n. with_script out n part.of part.script) of.kept_is
    ∙ ap (λ n. with_script out (length part.script.calls) n part.script) of.of_is
    ∙ ap (λ s. with_pruned out script s) of.script_is
    ∙ sym (ap (λ b. if b then with_pruned out script (pruned script session.lines) else without_file NotCompleted (text_of [] session.end)) of.completed)

pub answered_end : (out : Text) (script : Script) (session : Played) (end : EndWord) (answer : Answer) → session.end ≡ end → completes end ≡ false → answer ≡ without_file NotCompleted (text_of [] end) → answer ≡ answer_to_session out script session
answered_end out script session end answer ended incomplete is =
    is
    ∙ ap (λ e. without_file NotCompleted (text_of [] e)) (sym ended)
    ∙ sym (ap (λ b. if b then with_pruned out script (pruned script session.lines) else without_file NotCompleted (text_of [] session.end)) (ap completes ended ∙ incomplete))

-- ---- a script

-- what a store may hold where nothing is asked of it
pub some_folder : (tells : Bool) (paths : Paths) → IsFolderOf tells paths (λ n. paths)
some_folder tells paths = λ n told q. refl

pub answered_fault : (tells : Bool) (paths : Paths) (out : Text) (bytes : List ℕ) (answer : Answer) (fault : ScriptErr) → script_of bytes ≡ Err fault → answer ≡ without_file BadScript (fault_line fault)
    → Over tells paths (λ folder. answer ≡ answer_to_script folder out (script_of bytes))
answered_fault tells paths out bytes answer fault read is = ((λ n. paths), some_folder tells paths, is ∙ sym (ap (answer_to_script (λ n. paths) out) read))

-- ---- the source

-- some bytes that a source may be said to have
told_bytes : (left : Option (List ℕ)) → IsToldAs left (unwrap_or left [])
told_bytes None = tt
told_bytes (Some bytes) = refl

module _ (left : Option (List ℕ)) (tells : Bool) (paths : Paths) (asked : Option Text) (answer : Answer) where
  pub answered_words : asked ≡ None → answer ≡ without_file BadWords usage → IsAnswerOver left tells paths asked answer
  answered_words none is = subst (λ a. IsAnswerOver left tells paths a answer) (sym none) (record {
    bytes = unwrap_or left [];
    source = told_bytes left;
    is = ((λ n. paths), some_folder tells paths, is);
  })

  pub answered_long : (out : Text) → asked ≡ Some out → (bytes : List ℕ) → IsToldAs left bytes → 16777216 < length bytes → answer ≡ without_file ScriptTooLong [] → IsAnswerOver left tells paths asked answer
  answered_long out some bytes source more is =
      let past : nat_lt 16777216 (length bytes) ≡ true = grind (arith, nat_tests) in
      subst (λ a. IsAnswerOver left tells paths a answer) (sym some) (record {
        bytes = bytes;
        source = source;
        is = ((λ n. paths), some_folder tells paths, is ∙ sym (ap (λ b. if b then without_file ScriptTooLong [] else answer_to_script (λ n. paths) out (script_of bytes)) past));
      })

  pub answered_bytes : (out : Text) → asked ≡ Some out → (bytes : List ℕ) → IsToldAs left bytes → length bytes ≤ 16777216 → Over tells paths (λ folder. answer ≡ answer_to_script folder out (script_of bytes))
      → IsAnswerOver left tells paths asked answer
  answered_bytes out some bytes source few over =
      let short : nat_lt 16777216 (length bytes) ≡ false = grind (arith, nat_tests) in
      subst (λ a. IsAnswerOver left tells paths a answer) (sym some) (record {
        bytes = bytes;
        source = source;
        is = (over.0, over.1, over.2 ∙ sym (ap (λ b. if b then without_file ScriptTooLong [] else answer_to_script over.0 out (script_of bytes)) short));
      })
