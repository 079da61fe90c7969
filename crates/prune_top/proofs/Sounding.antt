-- The session of the pruned script completes, refuses nothing, and renders the same rows.
use Rattle.std.proofs.Common.{ℕ, ◌≡◌, ◌<◌, List, [], Bool, true, false, None, Some, refl, sym, ◌∙◌, ap, subst, arith, bytes_eq}
use Rattle.std.specs.Prelude.{if◌then◌else◌}
use Rattle.io_edge.specs.Paths.{Paths}
use Rattle.law_base.specs.Members.{AreDistinct}
use Rattle.wa_base.specs.Contexts.{quantum_of, is_supported, IsSupported, IsQuantumSize}
use Rattle.wa_base.specs.declared.contexts.ContextSpec.{ContextSpec}
use Rattle.wa_base.specs.declared.exceptions.Exc.TheVariants.{NotSupported}
use Rattle.name_book.specs.Book.{destination, object_of}
use Rattle.name_book.specs.declared.book.Object.TheVariants as object
use Rattle.script_ast.specs.declared.call_list.Call.{Call}
use Rattle.script_ast.specs.declared.call_list.Script.{Script}
use Rattle.script_ast.specs.WellFormed.{AreCallsAfter, IsWellFormed}
use Rattle.transcript.specs.declared.lines.EndWord.TheVariants.{Completed, Refused}
use Rattle.transcript.specs.declared.lines.Line.{Line}
use Rattle.prune.proofs.Flags.{Flags, is_kept, whole_number}
use Rattle.prune.proofs.WithoutFacts.{first_without}
use Rattle.prune.proofs.WithoutTapes.{are_parts}
use Rattle.prune.proofs.Tapes.{rows_agree}
use Rattle.prune_script.proofs.Forming.{pruned_well_formed}
use Rattle.prune_script.specs.Pruned.{pruned, node_named as creator_named}
use Rattle.session.specs.Folders.{Folder}
use Rattle.session.specs.Session.{Told, Played, first_told, replayed, session_of}
use Rattle.session.specs.Tapes.{HasTape}
use Rattle.prune_top.specs.Laws.{SoundsAs, still, PrunedLaw}
use Rattle.prune_top.proofs.Alike.{IsSameObject, IsTold}
use Rattle.prune_top.proofs.Accepted.{made}
use Rattle.prune_top.proofs.Once.{made_once}
use Rattle.prune_top.proofs.Calls.{clean_none, live, flags, its_place, IsReached}
use Rattle.prune_top.proofs.Turns.{IsPrunedOf, part_calls, replayed_pruned}
use Rattle.session.proofs.Beginning.{is_in_ranges}
use Rattle.session.proofs.Keeping.{first_steady}
use Rattle.session.proofs.Taping.{session_taped}

-- ---- the pruned script, and sessions

pub pruned_context : (script : Script) (lines : List Line) → (pruned script lines).context ≡ script.context
unfolding pruned
pruned_context script lines = refl

pruned_calls : (held : Paths) (script : Script) (after : AreCallsAfter 0 script.calls) (lines : List Line) (once : AreDistinct (made lines)) → (pruned script lines).calls ≡ part_calls held script.calls after lines once
unfolding pruned
pruned_calls held script after lines once = refl

session_is : (folder : Folder) (script : Script) → is_supported script.context ≡ true → session_of folder script ≡ replayed folder script.calls (first_told script.context)
unfolding session_of
session_is folder script is = rw is refl

-- a session that completes is that of a supported context
completed_supported : (folder : Folder) (script : Script) → (session_of folder script).end ≡ Completed → is_supported script.context ≡ true
unfolding session_of
completed_supported folder script end = by_support (is_supported script.context) refl end
  where
    by_support : (b : Bool) → is_supported script.context ≡ b → (if b then replayed folder script.calls (first_told script.context) else record { lines = []; end = Refused (NotSupported None); tape = [] }).end ≡ Completed
        → is_supported script.context ≡ true
    by_support true is e = is
    by_support false is e = absurd cc

-- ---- the first machines

module _ (held : Paths) (script : Script) (after : AreCallsAfter 0 script.calls) (lines : List Line) (once : AreDistinct (made lines)) (supported : IsSupported script.context) where
  abbrev calls : List Call
  calls = script.calls

  abbrev fs : Flags
  fs = flags held calls after lines once

  abbrev alive : ℕ → Bool
  alive = live held calls after lines once

  abbrev place : ℕ → ℕ
  place = its_place held calls after lines once

  abbrev first : Told
  first = first_told script.context

  first_kept : is_kept fs 0 ≡ true
  first_kept = refl

  first_names : (name : List ℕ) → IsSameObject fs alive place (object_of [] name) (object_of [] name)
  first_names name = by_test (bytes_eq name destination)
    where
      by_test : (b : Bool) → IsSameObject fs alive place (if b then Some (object.Node (record { 0 = 0 })) else None) (if b then Some (object.Node (record { 0 = 0 })) else None)
      by_test true = λ kept. refl
      by_test false = tt

  first_told_of : (name : List ℕ) → IsTold fs alive place (object_of [] name) (creator_named [] name)
  first_told_of name = by_test (bytes_eq name destination)
    where
      by_test : (b : Bool) → IsTold fs alive place (if b then Some (object.Node (record { 0 = 0 })) else None) (if b then Some 0 else None)
      by_test true = (0, refl, refl)
      by_test false = tt

  first_reached : IsReached held calls after lines once first first
  first_reached = record {
    alike = record {
      world = first_without fs script.context first_kept;
      names = first_names;
      told = first_told_of;
      context = refl;
      steady = first_steady script.context supported;
    };
    count = refl;
    clean = clean_none;
    suspended = λ s h. absurd h;
    started = λ s e. absurd cc;
  }

  replayed_is : lines ≡ (replayed (still held) calls first).lines → IsPrunedOf fs (replayed (still held) calls first) (replayed (still held) (part_calls held calls after lines once) first)
  replayed_is is = replayed_pruned held calls after lines once first first first_reached (let low = supported.length_low in omega (arith, low)) is

-- ---- the law

module _ (held : Paths) (script : Script) (well : IsWellFormed script) (end : (session_of (still held) script).end ≡ Completed) where
  abbrev folder : Folder
  folder = still held

  abbrev whole : Played
  whole = session_of folder script

  abbrev left : Script
  left = pruned script whole.lines

  abbrev part : Played
  part = session_of folder left

  abbrev after : AreCallsAfter 0 script.calls
  after = well.calls

  once : AreDistinct (made whole.lines)
  once = made_once folder script after

  abbrev its_flags : Flags
  its_flags = flags held script.calls after whole.lines once

  supports : is_supported script.context ≡ true
  supports = completed_supported folder script end

  whole_is : whole ≡ replayed folder script.calls (first_told script.context)
  whole_is = session_is folder script supports

  part_is : part ≡ replayed folder (part_calls held script.calls after whole.lines once) (first_told script.context)
  part_is =
      session_is folder left (ap is_supported (pruned_context script whole.lines) ∙ supports)
      ∙ ap (λ (spec : ContextSpec). replayed folder left.calls (first_told spec)) (pruned_context script whole.lines)
      ∙ ap (λ cs. replayed folder cs (first_told script.context)) (pruned_calls held script after whole.lines once)

  both : IsPrunedOf its_flags whole part
  both =
      subst (λ (p : Played). IsPrunedOf its_flags whole p) (sym part_is)
      (subst (λ (p : Played). IsPrunedOf its_flags p (replayed folder (part_calls held script.calls after whole.lines once) (first_told script.context))) (sym whole_is)
      (replayed_is held script after whole.lines once (is_in_ranges script.context supports) (ap (λ (p : Played). p.lines) whole_is)))

  whole_tape : HasTape script.context whole
  whole_tape = session_taped folder script after

  part_tape : HasTape script.context part
  part_tape = subst (λ (spec : ContextSpec). HasTape spec part) (pruned_context script whole.lines) (session_taped folder left (pruned_well_formed script whole.lines well).calls)

  sounds : SoundsAs script.context whole part
  sounds = record {
    end = both.end end;
    accepted = both.clean;
    rendered =
        rows_agree (quantum_of script.context) (some script.context.quantum (is_in_ranges script.context supports).quantum) (whole_number its_flags) part.tape whole.tape part_tape.regular whole_tape.regular
        (are_parts its_flags part.tape whole.tape both.worlds whole_tape.regular.valid) script.context;
  }
    where
      some : (n : ℕ) → IsQuantumSize n → 0 < n
      some n is = let low = is.low in omega (arith, low)

-- what the pruned script renders is what the script does
pub pruned_sounds : PrunedLaw
pruned_sounds held script well end = sounds held script well end
