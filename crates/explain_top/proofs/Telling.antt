-- What answers a command line, over what a source and a store tell.
use Rattle.std.proofs.Common.{ℕ, ◌≡◌, ◌<◌, ◌≤◌, List, [], length, replicate, Bool, true, false, Option, None, Some, Err, nat_lt, refl, sym, ap, ◌∙◌, subst, arith}
use Rattle.std.specs.Prelude.{IsTrue, unwrap_or, codes}
use Rattle.std.proofs.lemmas.List.{length-replicate}
use Rattle.std.proofs.lemmas.Bool.Decides.{nat_tests}
use Rattle.io_edge.specs.Fetch.{IsWithin, IsFetchedOf}
use Rattle.io_edge.specs.Paths.{Paths, SamePaths}
use Rattle.io_edge.specs.Told.{IsToldAs}
use Rattle.io_edge.specs.declared.files.Fetched.{Fetched}
use Rattle.io_edge.specs.declared.files.Fetched.TheVariants.{Bytes, TooLong}
use Rattle.answers.specs.FaultLine.{fault_line}
use Rattle.script_ast.specs.declared.call_list.Script.{Script}
use Rattle.script_json.specs.Script.{script_of}
use Rattle.script_fields.specs.declared.faults.ScriptErr.{ScriptErr}
use Rattle.transcript.specs.Text.{text_of}
use Rattle.transcript.specs.declared.lines.EndWord.{EndWord}
use Rattle.meaning.specs.declared.world.World.{World}
use Rattle.derivations.specs.declared.tape.Piece.{Piece}
use Rattle.derivations.specs.Tapes.{worlds}
use Rattle.session.specs.Folders.{Folder, IsFolderOf}
use Rattle.session.specs.Rendering.{completes}
use Rattle.session.specs.Session.{session_of}
use Rattle.explain_top.specs.Answer.{Answer, without_file, By, invalid, IsTried, IsFileTried, IsAnswerToTape, IsAnswerToSession, IsAnswerToScript}
use Rattle.explain_top.specs.Run.{IsIn, IsOverStore, IsAnswerOver}
use Rattle.explain_top.specs.Tapes.{IsTapeOf}
use Rattle.explain_top.specs.Words.{Request, Derive, Check, usage}
use Rattle.explain_top.specs.declared.status.Status.TheVariants.{BadWords, NotCompleted, BadScript, ScriptTooLong}

by_holds : (b : Bool) (P Q : Type 0) → b ≡ true → P → By b P Q
by_holds true P Q is holds = holds
by_holds false P Q is holds = absurd cc

by_fails : (b : Bool) (P Q : Type 0) → b ≡ false → Q → By b P Q
by_fails true P Q is else = absurd cc
by_fails false P Q is else = else

-- ---- the file IN

pub found_bytes : (held : Option (List ℕ)) (fetched : Fetched) (bytes : List ℕ) → fetched ≡ Bytes bytes → IsFetchedOf held fetched → Some bytes ≡ held
found_bytes None fetched bytes is found = absurd (subst (IsFetchedOf None) is found)
found_bytes (Some held) fetched bytes is found = ap Some (subst (IsFetchedOf (Some held)) is found)

pub file_tried : (q : ℕ) (tape : List World) (fetched : Fetched) (bytes : List ℕ) (answer : Answer) → fetched ≡ Bytes bytes → IsWithin 67108864 fetched → IsTried q tape bytes answer → IsFileTried q tape (Some bytes) answer
file_tried q tape fetched bytes answer is within tried =
    let few : length bytes ≤ 67108864 = subst (IsWithin 67108864) is within in
    let short : nat_lt 67108864 (length bytes) ≡ false = grind (arith, nat_tests) in
    by_fails _ _ _ short tried

-- what a file that is too long may hold
pub long_file : (q : ℕ) (tape : List World) (tells : Bool) (held : Option (List ℕ)) (fetched : Fetched) (n : ℕ) (answer : Answer) → fetched ≡ TooLong n → IsWithin 67108864 fetched → (IsTrue tells → IsFetchedOf held fetched)
    → answer ≡ invalid (codes "long") → (found : Option (List ℕ)) × (IsTrue tells → found ≡ held) × IsFileTried q tape found answer
long_file q tape true None fetched n answer is within found long = absurd (subst (IsFetchedOf None) is (found refl))
long_file q tape true (Some held) fetched n answer is within found long =
    let more : 67108864 < n = subst (IsWithin 67108864) is within in
    let least : n ≤ length held = subst (IsFetchedOf (Some held)) is (found refl) in
    let past : nat_lt 67108864 (length held) ≡ true = grind (arith, nat_tests) in
    (Some held, (λ told. refl), by_holds _ _ _ past long)
long_file q tape false held fetched n answer is within found long =
    let more : 67108864 < n = subst (IsWithin 67108864) is within in
    let many : length (replicate n 0) ≡ n = length-replicate n 0 in
    let past : nat_lt 67108864 n ≡ true = grind (arith, nat_tests) in
    (Some (replicate n 0), (λ told. absurd cc), by_holds _ _ _ (ap (nat_lt 67108864) many ∙ past) long)

-- ---- the store

-- what the file that is asked for holds
abbrev held_in : Paths → Request → Option (List ℕ)
held_in paths (Derive frame channel out) = None
held_in paths (Check text) = paths text

held_is : (paths : Paths) (asked : Request) → IsIn paths (Some asked) (held_in paths asked)
held_is paths (Derive frame channel out) = tt
held_is paths (Check text) = refl

-- where files were read in between, of which none changed
same_in : (paths later : Paths) (asked : Request) (found : Option (List ℕ)) → SamePaths paths later → IsIn later (Some asked) found → IsIn paths (Some asked) found
same_in paths later (Derive frame channel out) found same is = tt
same_in paths later (Check text) found same is = is ∙ same text

-- what holds whatever the files hold
any_file : (tells : Bool) (paths : Paths) (asked : Request) (Holds : Folder → Option (List ℕ) → Type 0) (folder : Folder) → IsFolderOf tells paths folder → ((found : Option (List ℕ)) → Holds folder found) → IsOverStore tells paths (Some asked) Holds
any_file tells paths asked Holds folder assets holds = record { folder = folder; assets = assets; found = held_in paths asked; file = λ told. held_is paths asked; holds = holds (held_in paths asked) }

module _ (tells : Bool) (paths : Paths) (asked : Request) (script : Script) where
  -- the answer to a tape is that to its session
  pub answered_tape : (told : Bool) (later : Paths) (pieces : List Piece) (answer : Answer) → told ≡ tells → (IsTrue tells → SamePaths paths later) → (folder : Folder) → IsFolderOf tells paths folder → IsTapeOf script.context (session_of folder script) pieces
      → (found : Option (List ℕ)) → (IsTrue told → IsIn later (Some asked) found) → IsAnswerToTape found asked script.context (worlds pieces) answer
      → IsOverStore tells paths (Some asked) (λ folder found. IsAnswerToSession found asked script.context (session_of folder script) answer)
  answered_tape told later pieces answer same_tells same folder assets tape found file is = record {
    folder = folder;
    assets = assets;
    found = found;
    file = λ tell. same_in paths later asked found (same tell) (file (subst IsTrue (sym same_tells) tell));
    holds = by_holds _ _ _ tape.completed (worlds pieces, tape.sounds, is);
  }

  pub answered_end : (answer : Answer) (end : EndWord) (folder : Folder) → IsFolderOf tells paths folder → (session_of folder script).end ≡ end → completes end ≡ false → answer ≡ without_file NotCompleted (text_of [] end)
      → IsOverStore tells paths (Some asked) (λ folder found. IsAnswerToSession found asked script.context (session_of folder script) answer)
  answered_end answer end folder assets ended incomplete is =
      any_file tells paths asked _ folder assets (λ found. by_fails _ _ _ (ap completes ended ∙ incomplete) (is ∙ ap (λ e. without_file NotCompleted (text_of [] e)) (sym ended)))

pub answered_fault : (tells : Bool) (paths : Paths) (asked : Request) (bytes : List ℕ) (answer : Answer) (fault : ScriptErr) → script_of bytes ≡ Err fault → answer ≡ without_file BadScript (fault_line fault)
    → IsOverStore tells paths (Some asked) (λ folder found. IsAnswerToScript folder found asked (script_of bytes) answer)
answered_fault tells paths asked bytes answer fault read is =
    any_file tells paths asked _ (λ n. paths) (λ n told q. refl) (λ found. subst (λ r. IsAnswerToScript (λ n. paths) found asked r answer) (sym read) is)

-- ---- the source

-- some bytes that a source may be said to have
told_bytes : (left : Option (List ℕ)) → IsToldAs left (unwrap_or left [])
told_bytes None = tt
told_bytes (Some bytes) = refl

module _ (left : Option (List ℕ)) (tells : Bool) (paths : Paths) (asked : Option Request) (answer : Answer) where
  pub answered_words : asked ≡ None → answer ≡ without_file BadWords usage → IsAnswerOver left tells paths asked answer
  answered_words none is = subst (λ a. IsAnswerOver left tells paths a answer) (sym none) (record {
    bytes = unwrap_or left [];
    source = told_bytes left;
    store = record { folder = λ n. paths; assets = λ n told q. refl; found = None; file = λ told. tt; holds = is };
  })

  pub answered_long : (request : Request) → asked ≡ Some request → (bytes : List ℕ) → IsToldAs left bytes → 16777216 < length bytes → answer ≡ without_file ScriptTooLong [] → IsAnswerOver left tells paths asked answer
  answered_long request some bytes source more is =
      let past : nat_lt 16777216 (length bytes) ≡ true = grind (arith, nat_tests) in
      subst (λ a. IsAnswerOver left tells paths a answer) (sym some) (record { bytes = bytes; source = source; store = any_file tells paths request _ (λ n. paths) (λ n told q. refl) (λ found. by_holds _ _ _ past is) })

  pub answered_bytes : (request : Request) → asked ≡ Some request → (bytes : List ℕ) → IsToldAs left bytes → length bytes ≤ 16777216 → IsOverStore tells paths (Some request) (λ folder found. IsAnswerToScript folder found request (script_of bytes) answer)
      → IsAnswerOver left tells paths asked answer
  answered_bytes request some bytes source few store =
      let short : nat_lt 16777216 (length bytes) ≡ false = grind (arith, nat_tests) in
      subst (λ a. IsAnswerOver left tells paths a answer) (sym some) (record {
        bytes = bytes;
        source = source;
        store = record { folder = store.folder; assets = store.assets; found = store.found; file = store.file; holds = by_fails _ _ _ short store.holds };
      })
