-- The lists of calls: where the whole session runs a list, the pruned script's runs the calls of it that are kept, and both stay alike.
use Rattle.std.proofs.Common.{ℕ, suc, ◌≡◌, List, [], ◌∷◌, ◌++◌, length, map, filter, All, Bool, true, false, cond, Option, None, Some, inl, inr, refl, sym, ◌∙◌, ap, subst, arith, append_assoc, length-append}
use Rattle.std.specs.Prelude.{◌==◌, if◌then◌else◌}
use Rattle.std.proofs.lemmas.List.Elements.{All-append, All-cons}
use Rattle.io_edge.specs.Paths.{Paths}
use Rattle.law_base.specs.Members.{IsIn, AreDistinct}
use Rattle.law_base.proofs.Members.{IsIn-filter}
use Rattle.wa_base.specs.declared.exceptions.Exc.{Exc}
use Rattle.ctx_state.specs.Context.{ContextView, start_refusal}
use Rattle.script_ast.specs.Operations.{new_name, IsInRange}
use Rattle.script_ast.specs.declared.call_list.Call.{Call}
use Rattle.script_ast.specs.declared.operations.Op.{Op}
use Rattle.script_ast.specs.declared.operations.Op.TheVariants as op
use Rattle.script_ast.specs.WellFormed.{AreCallsAfter}
use Rattle.transcript.specs.declared.lines.Answer.{Answer}
use Rattle.transcript.specs.declared.lines.Answer.TheVariants as answer
use Rattle.transcript.specs.declared.lines.Line.{Line}
use Rattle.transcript.specs.declared.lines.Line.TheVariants as line
use Rattle.transcript.specs.Summary.{refuses, is_refusal as is_refused_line}
use Rattle.prune.proofs.Flags.{Flags, is_kept}
use Rattle.prune_script.specs.Pruned.{is_refusal, creates_node, connections, connections_of, is_live, heard_calls, is_start, place_in, renumbered}
use Rattle.control_side.specs.declared.decide.Decided.{Decided}
use Rattle.control_side.specs.declared.decide.Decided.TheVariants as comes_to
use Rattle.control_side.specs.Machine.{Machine}
use Rattle.control_side.specs.Steady.{IsSteady}
use Rattle.control_side.specs.Step.{decided, decided_with, promises, settled, step, with_edit, IsFor}
use Rattle.session.specs.Folders.{Folder}
use Rattle.session.specs.Session.{Told, after_call, after_calls, held_by}
use Rattle.prune_top.proofs.Lists.{is_among}
use Rattle.prune_script.proofs.Liveness.{live_source}
use Rattle.prune_top.proofs.Places.{placed}
use Rattle.prune_top.proofs.Kept.{is_heard, kept, IsHolder, IsStarter, kept_in_list}
use Rattle.prune_top.proofs.Alike.{AreAlike}
use Rattle.prune_top.proofs.Heard.{is_fine}
use Rattle.prune_top.proofs.Unheard.{IsUnheard}
use Rattle.prune_top.proofs.Naming.{naming}
use Rattle.prune_top.proofs.Stepping.{step_refused, step_heard, step_unheard, unheard_d, was_fine}
use Rattle.prune_top.proofs.Accepted.{IsFront, later, later_last, flags_of, flags_split, is_heard_at, made, accepted, accepted_here, refused_here, refused_unheard, accepted_heard, connected_here, flag_here}
use Rattle.prune_top.proofs.Counting.{settled_nodes}
use Rattle.prune_top.proofs.Once.{values, inserted_value}
use Rattle.session.proofs.Keeping.{comes_for, step_steady}

-- ---- lines

same_refusal : (said : Answer) → refuses said ≡ is_refusal said
same_refusal (answer.Throw exception) = refl
same_refusal (answer.Rejected exception) = refl
same_refusal other = refl

-- the line of no call is a refusal
abbrev pub IsClean : List Line → Type 0
IsClean lines = All (λ (l : Line). is_refused_line l ≡ false) lines

clean_call : (ordinal : ℕ) (said : Answer) → is_refusal said ≡ false → is_refused_line (line.Call ordinal said) ≡ false
unfolding is_refused_line
clean_call ordinal said fine = same_refusal said ∙ fine

pub clean_more : (before more : List Line) → IsClean before → IsClean more → IsClean (before ++ more)
clean_more before more a b = All-append (λ (l : Line). is_refused_line l ≡ false) before more a b

pub clean_none : IsClean []
clean_none = λ k d l. absurd (omega arith)

pub clean_one : (l : Line) → is_refused_line l ≡ false → IsClean (l ∷ [])
clean_one l is = All-cons (λ (x : Line). is_refused_line x ≡ false) l [] is clean_none

-- ---- fronts

pub front_trans : (a b c : List Line) → IsFront a b → IsFront b c → IsFront a c
front_trans a b c (more, is) (rest, is') = (more ++ rest, is' ∙ ap (λ x. x ++ rest) is ∙ append_assoc a more rest)

front_self : (a : List Line) → IsFront a a
front_self a = ([], sym (no_more a))
  where
    no_more : (ls : List Line) → ls ++ [] ≡ ls
    no_more [] = refl
    no_more (l ∷ ls) = ap (λ ks. l ∷ ks) (no_more ls)

pub front_more : (a b : List Line) → IsFront a (a ++ b)
front_more a b = (b, refl)

pub calls_front : (folder : Folder) (cs : List Call) (told : Told) → IsFront told.lines (after_calls folder told cs).lines
calls_front folder [] told = front_self told.lines
calls_front folder (c ∷ cs) told =
    front_trans told.lines (after_call told (folder (length told.lines)) c).lines (after_calls folder told (c ∷ cs)).lines
    (front_more told.lines (line.Call c.ordinal (step told.machine (folder (length told.lines)) c).answer ∷ []))
    (calls_front folder cs (after_call told (folder (length told.lines)) c))

-- ---- what a call does to the suspensions, and to the start

abbrev changes_context : Decided → Bool
changes_context comes_to.Start = true
changes_context (comes_to.Suspend frame) = true
changes_context other = false

-- only startRendering starts, and it suspends nothing
starting : (m : Machine) (held : Paths) (o : Op) → decided_with m held o ≡ comes_to.Start → IsFor m o comes_to.Start → is_start o ≡ true
starting m held op.StartRendering is fits = refl
starting m held other is fits = fits.0

suspending : (m : Machine) (held : Paths) (o : Op) (frame : ℕ) → decided_with m held o ≡ comes_to.Suspend frame → is_start o ≡ false
unfolding decided
suspending m held op.StartRendering frame is = by_refusal (start_refusal m.context) is
  where
    by_refusal : (r : Option Exc) → promises r comes_to.Start ≡ comes_to.Suspend frame → true ≡ false
    by_refusal None e = absurd cc
    by_refusal (Some exception) e = absurd cc
suspending m held other frame is = refl

module _ (held : Paths) (calls : List Call) (after : AreCallsAfter 0 calls) (lines : List Line) (once : AreDistinct (made lines)) where
  abbrev pub all_accepted : List Call
  all_accepted = accepted calls lines

  abbrev pub live : ℕ → Bool
  live = is_live (connections [] all_accepted)

  abbrev pub heard : List ℕ
  heard = heard_calls live [] all_accepted

  abbrev pub flags : Flags
  flags = live 0 ∷ flags_of live all_accepted

  abbrev pub its_kept : List Call
  its_kept = kept heard calls after

  abbrev pub its_place : ℕ → ℕ
  its_place = place_in its_kept

  -- The whole session and the pruned script's have come equally far. What is still to run are lists of kept calls.
  pub record IsReached (whole part : Told) : Type 0 where
    pub alike : AreAlike flags live its_place (later [] (accepted calls whole.lines)) whole.machine part.machine
    pub count : length whole.machine.world.nodes ≡ suc (length (flags_of live (accepted calls whole.lines)))
    pub clean : IsClean part.lines
    pub suspended : (s : ℕ) → IsIn s (values whole.machine.context.suspensions) → IsHolder heard calls after s
    pub started : (s : ℕ) → whole.machine.context.started ≡ Some s → IsStarter heard calls after s

  record HasHolders (c : ContextView) : Type 0 where
    suspended : (s : ℕ) → IsIn s (values c.suspensions) → IsHolder heard calls after s
    started : (s : ℕ) → c.started ≡ Some s → IsStarter heard calls after s

  settled_holders : (m : Machine) (call : Call) (d : Decided) → decided_with m held call.op ≡ d → IsFor m call.op d → (changes_context d ≡ true → IsIn call its_kept) → HasHolders m.context → HasHolders (settled m call d).machine.context
  settled_holders m call (comes_to.Answer said) is fits there has = has
  settled_holders m call comes_to.Start is fits there has = record {
    suspended = has.suspended;
    started = λ s e. let same : call.ordinal ≡ s = cc in (call, there refl, same, starting m held call.op is fits);
  }
  settled_holders m call (comes_to.Suspend frame) is fits there has = record {
    suspended = λ s h. elim (inserted_value m.context.suspensions frame call.ordinal s h) [
      | inl e ↦ inr (call, there refl, sym e, suspending m held call.op frame is)
      | inr k ↦ has.suspended s k
    ];
    started = has.started;
  }
  settled_holders m call comes_to.Resume is fits there has = record { suspended = has.suspended; started = has.started }
  settled_holders m call (comes_to.Change e) is fits there has = by_name (new_name call.op)
    where
      by_name : (o : Option (List ℕ)) → HasHolders (with_edit m e o).context
      by_name None = has
      by_name (Some name) = has

  unheard_stays : (fs : Flags) (m : Machine) (d : Decided) → IsUnheard fs m d → changes_context d ≡ true → ⊥
  unheard_stays fs m (comes_to.Answer said) un changes = absurd cc
  unheard_stays fs m comes_to.Start un changes = un
  unheard_stays fs m (comes_to.Suspend frame) un changes = un
  unheard_stays fs m comes_to.Resume un changes = un
  unheard_stays fs m (comes_to.Change e) un changes = absurd cc

  -- ---- a call

  module _ (h : ℕ) (holder : IsHolder heard calls after h) (whole part : Told) (reached : IsReached whole part) (call : Call) (in_list : IsIn call (held_by h calls)) (front : IsFront (after_call whole held call).lines lines) where
    abbrev said : Answer
    said = (step whole.machine held call).answer

    abbrev before : List Line
    before = whole.lines

    there : IsIn call calls
    there = (IsIn-filter (λ (c : Call). c.holder == h) calls call in_list).0

    in_range : IsInRange call.op
    in_range = (placed 0 calls after call there).fields

    abbrev now : Told
    now = after_call whole held call

    -- the lines of the end
    is_whole : lines ≡ before ++ line.Call call.ordinal said ∷ front.0
    is_whole = front.1 ∙ append_assoc before (line.Call call.ordinal said ∷ []) front.0

    once_whole : AreDistinct (made (before ++ line.Call call.ordinal said ∷ front.0))
    once_whole = subst (λ ls. AreDistinct (made ls)) is_whole once

    steady_now : IsSteady (step whole.machine held call).machine
    steady_now = step_steady whole.machine reached.alike.steady held call in_range

    -- where it is refused
    refused_reached : is_refusal said ≡ true → IsReached now part
    refused_reached refused =
        let same = refused_here calls after before call there said refused in
        let stays = step_refused whole.machine held call refused in
        record {
          alike = subst (λ cs. AreAlike flags live its_place (later [] cs) (step whole.machine held call).machine part.machine) (sym same)
              (subst (λ m. AreAlike flags live its_place (later [] (accepted calls before)) m part.machine) (sym stays) reached.alike);
          count = ap (λ (m : Machine). length m.world.nodes) stays ∙ reached.count ∙ ap (λ cs. suc (length (flags_of live cs))) (sym same);
          clean = reached.clean;
          suspended = λ s k. reached.suspended s (subst (λ (m : Machine). IsIn s (values m.context.suspensions)) stays k);
          started = λ s e. reached.started s (ap (λ (m : Machine). m.context.started) (sym stays) ∙ e);
        }

    module _ (fine : is_refusal said ≡ false) where
      new_flag : creates_node call.op ≡ true → is_kept flags (length whole.machine.world.nodes) ≡ live call.ordinal
      new_flag created =
          ap (is_kept flags) reached.count
          ∙ subst (λ ls. is_kept (live 0 ∷ flags_of live (accepted calls ls)) (suc (length (flags_of live (accepted calls before)))) ≡ live call.ordinal) (sym is_whole)
          (flag_here calls after before call there said live front.0 once_whole fine created (live 0))

      closed : (from to : ℕ) → IsIn (from, to) (connections_of (later [] (accepted calls before)) call) → live to ≡ true → live from ≡ true
      closed from to h alive =
          live_source (connections [] all_accepted) from to
          (subst (λ ls. IsIn (from, to) (connections [] (accepted calls ls))) (sym is_whole) (connected_here calls after before call there said live front.0 once_whole fine (from, to) h)) alive

      its_heard : is_heard heard call ≡ is_heard_at live (later [] (accepted calls before)) call
      its_heard =
          subst (λ ls. is_among call.ordinal (heard_calls live [] (accepted calls ls)) ≡ is_heard_at live (later [] (accepted calls before)) call) (sym is_whole)
          (accepted_heard calls after before call there said live front.0 once_whole fine)

      abbrev d : Decided
      d = decided_with whole.machine held call.op

      fits : IsFor whole.machine call.op d
      fits = comes_for whole.machine reached.alike.steady held call.op in_range

      its_fine : is_fine d ≡ true
      its_fine = was_fine flags live its_place (later [] (accepted calls before)) whole.machine part.machine reached.alike held call new_flag fine

      new_earlier : later [] (accepted calls now.lines) ≡ call ∷ later [] (accepted calls before)
      new_earlier = ap (later []) (accepted_here calls after before call there said fine) ∙ later_last [] (accepted calls before) call

      new_count : length now.machine.world.nodes ≡ suc (length (flags_of live (accepted calls now.lines)))
      new_count =
          settled_nodes whole.machine call d (λ name is. naming whole.machine held call.op name is) fits its_fine
          ∙ by_creation (creates_node call.op) refl
          ∙ ap (λ cs. suc (length (flags_of live cs))) (sym (accepted_here calls after before call there said fine))
        where
          by_creation : (b : Bool) → creates_node call.op ≡ b → (if b then suc (length whole.machine.world.nodes) else length whole.machine.world.nodes) ≡ suc (length (flags_of live (accepted calls before ++ call ∷ [])))
          by_creation true is =
              let split = ap length (flags_split live (accepted calls before) (call ∷ []) ∙ ap (λ b. flags_of live (accepted calls before) ++ (if b then live call.ordinal ∷ [] else [])) is) in
              let long = length-append (flags_of live (accepted calls before)) (live call.ordinal ∷ []) in
              let count = reached.count in
              omega (arith, split, long, count)
          by_creation false is =
              let split = ap length (flags_split live (accepted calls before) (call ∷ []) ∙ ap (λ b. flags_of live (accepted calls before) ++ (if b then live call.ordinal ∷ [] else [])) is) in
              let long = length-append (flags_of live (accepted calls before)) [] in
              let count = reached.count in
              omega (arith, split, long, count)

      holders_now : (changes_context d ≡ true → IsIn call its_kept) → HasHolders now.machine.context
      holders_now kept_if = settled_holders whole.machine call d refl fits kept_if (record { suspended = reached.suspended; started = reached.started })

      heard_reached : is_heard heard call ≡ true → IsReached now (after_call part held (renumbered its_kept call))
      heard_reached is =
          let both = step_heard flags live its_place (later [] (accepted calls before)) whole.machine part.machine reached.alike held call new_flag fine steady_now (sym its_heard ∙ is) in
          let has = holders_now (λ changes. kept_in_list heard calls after h holder call in_list is) in
          record {
            alike = subst (λ cs. AreAlike flags live its_place cs now.machine (after_call part held (renumbered its_kept call)).machine) (sym new_earlier) both.0;
            count = new_count;
            clean = clean_more part.lines (line.Call (renumbered its_kept call).ordinal (step part.machine held (renumbered its_kept call)).answer ∷ []) reached.clean
                (clean_one (line.Call (renumbered its_kept call).ordinal (step part.machine held (renumbered its_kept call)).answer)
                (clean_call (renumbered its_kept call).ordinal (step part.machine held (renumbered its_kept call)).answer both.1));
            suspended = has.suspended;
            started = has.started;
          }

      unheard_reached : is_heard heard call ≡ false → IsReached now part
      unheard_reached is =
          let alike = step_unheard flags live its_place (later [] (accepted calls before)) whole.machine part.machine reached.alike held call new_flag fine steady_now (sym its_heard ∙ is) closed in
          let un = unheard_d flags live its_place (later [] (accepted calls before)) whole.machine part.machine reached.alike held call new_flag closed (sym its_heard ∙ is) in
          let has = holders_now (λ changes. absurd (unheard_stays flags whole.machine d un changes)) in
          record {
            alike = subst (λ cs. AreAlike flags live its_place cs now.machine part.machine) (sym new_earlier) alike;
            count = new_count;
            clean = reached.clean;
            suspended = has.suspended;
            started = has.started;
          }

    -- the part runs the call where it is heard
    call_reached : IsReached now (if is_heard heard call then after_call part held (renumbered its_kept call) else part)
    call_reached = by_refusal (is_refusal said) refl
      where
        by_heard : (b : Bool) → is_heard heard call ≡ b → is_refusal said ≡ false → IsReached now (if b then after_call part held (renumbered its_kept call) else part)
        by_heard true is fine = heard_reached fine is
        by_heard false is fine = unheard_reached fine is

        by_refusal : (r : Bool) → is_refusal said ≡ r → IsReached now (if is_heard heard call then after_call part held (renumbered its_kept call) else part)
        by_refusal true refused =
            subst (λ b. IsReached now (if b then after_call part held (renumbered its_kept call) else part))
            (sym (subst (λ ls. is_among call.ordinal (heard_calls live [] (accepted calls ls)) ≡ false) (sym is_whole) (refused_unheard calls after before call there said live front.0 once_whole refused)))
            (refused_reached refused)
        by_refusal false fine = by_heard (is_heard heard call) refl fine

  -- ---- calls

  abbrev pub same_folder : Folder
  same_folder = λ moment. held

  calls_reached : (h : ℕ) → IsHolder heard calls after h → (cs : List Call) → ((c : Call) → IsIn c cs → IsIn c (held_by h calls)) → (whole part : Told) → IsReached whole part
      → IsFront (after_calls same_folder whole cs).lines lines → IsReached (after_calls same_folder whole cs) (after_calls same_folder part (map (renumbered its_kept) (filter (is_heard heard) cs)))
  calls_reached h holder [] each whole part reached front = reached
  calls_reached h holder (c ∷ cs) each whole part reached front =
      let first : IsFront (after_call whole held c).lines lines = front_trans (after_call whole held c).lines (after_calls same_folder whole (c ∷ cs)).lines lines (calls_front same_folder cs (after_call whole held c)) front in
      by_heard (is_heard heard c) (call_reached h holder whole part reached c (each c (inl refl)) first)
      (λ next r. calls_reached h holder cs (λ x k. each x (inr k)) (after_call whole held c) next r front)
    where
      by_heard : (b : Bool) → IsReached (after_call whole held c) (if b then after_call part held (renumbered its_kept c) else part)
          → ((next : Told) → IsReached (after_call whole held c) next → IsReached (after_calls same_folder whole (c ∷ cs)) (after_calls same_folder next (map (renumbered its_kept) (filter (is_heard heard) cs))))
          → IsReached (after_calls same_folder whole (c ∷ cs)) (after_calls same_folder part (map (renumbered its_kept) (cond b (c ∷ filter (is_heard heard) cs) (filter (is_heard heard) cs))))
      by_heard true one rest = rest (after_call part held (renumbered its_kept c)) one
      by_heard false one rest = rest part one

  -- the list of a holder
  pub list_reached : (h : ℕ) → IsHolder heard calls after h → (whole part : Told) → IsReached whole part → IsFront (after_calls same_folder whole (held_by h calls)).lines lines
      → IsReached (after_calls same_folder whole (held_by h calls)) (after_calls same_folder part (map (renumbered its_kept) (filter (is_heard heard) (held_by h calls))))
  list_reached h holder whole part reached front = calls_reached h holder (held_by h calls) (λ c k. k) whole part reached front
