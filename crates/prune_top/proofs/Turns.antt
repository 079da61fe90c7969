-- The turns: each renders a quantum in both sessions, and runs the list that is due in both.
use Rattle.std.proofs.Common.{ℕ, zero, suc, ◌≡◌, ◌<◌, List, [], ◌∷◌, ◌++◌, length, map, Bool, true, false, Option, None, Some, inl, refl, sym, ◌∙◌, ap, subst, arith}
use Rattle.std.specs.Prelude.{if◌then◌else◌, is_some, unwrap_or, option_map}
use Rattle.std.specs.List.{AllZip}
use Rattle.std.specs.Ordering.{nat_cmp}
use Rattle.std.specs.BTreeMap.{is_at}
use Rattle.std.proofs.lemmas.List.Elements.{All-cons}
use Rattle.io_edge.specs.Paths.{Paths}
use Rattle.law_base.specs.Members.{IsIn, AreDistinct}
use Rattle.wa_base.specs.declared.contexts.ContextSpec.{ContextSpec}
use Rattle.wa_base.specs.declared.contexts.State.{State}
use Rattle.wa_base.specs.declared.contexts.State.TheVariants.{Closed}
use Rattle.name_book.specs.Book.{first_name_of}
use Rattle.ctx_state.specs.Context.{ContextView, next, turn_of, turned_by, after_turn as context_after, is_closed}
use Rattle.ctx_state.specs.declared.context.Turn.{Turn}
use Rattle.ctx_state.specs.declared.context.Turn.TheVariants.{Went, Due, Done}
use Rattle.script_ast.specs.declared.call_list.Call.{Call}
use Rattle.script_ast.specs.WellFormed.{AreCallsAfter}
use Rattle.transcript.specs.declared.lines.Line.{Line}
use Rattle.transcript.specs.declared.lines.Line.TheVariants as line
use Rattle.transcript.specs.declared.lines.EndWord.TheVariants.{Completed, Stalled, Idle}
use Rattle.transcript.specs.Summary.{is_refusal as is_refused_line}
use Rattle.meaning.specs.declared.world.World.{World}
use Rattle.meaning.specs.declared.scheds.Play.{Play}
use Rattle.control_msgs.specs.Messages.{ends_by, after as world_after}
use Rattle.prune.proofs.Flags.{Flags}
use Rattle.prune.proofs.Without.{IsWithout}
use Rattle.prune.proofs.WithoutQuanta.{after_quantum}
use Rattle.prune_script.specs.Pruned.{renumbered}
use Rattle.control_side.specs.Turns.{ended_lines}
use Rattle.session.specs.Session.{Told, Played, after_calls, after_turn, after_list, lines_after, promise_lines, held_by, quanta_left, quanta_from, is_running, finished, lines_at_end, end_of, by_turn, turns, rendered}
use Rattle.prune_top.proofs.Kept.{IsHolder, place_zero, list_of_holder, list_of_starter}
use Rattle.prune_top.proofs.Contexts.{part_context, part_turn, turn_placed, after_placed}
use Rattle.prune_top.proofs.Alike.{AreAlike}
use Rattle.prune_top.proofs.Accepted.{IsFront, later, flags_of, made, accepted, accepted_split}
use Rattle.prune_top.proofs.Begun.{list_keeps, list_begun, turn_begun, turn_started, turn_spec, turn_time, done_closes}
use Rattle.prune_top.proofs.Once.{values, removed_value, found_value, due_found, done_found}
use Rattle.prune_top.proofs.Calls.{IsClean, clean_more, clean_none, clean_one, front_trans, front_more, calls_front, live, heard, flags, its_kept, its_place, IsReached, same_folder, list_reached}
use Rattle.session.proofs.Keeping.{turn_steady, is_last, not_last}

-- ---- tapes that grow

pub zip_more : {X Y : Type 0} (R : X → Y → Type 0) (xs : List X) (ys : List Y) (x : X) (y : Y) → AllZip R xs ys → R x y → AllZip R (xs ++ x ∷ []) (ys ++ y ∷ [])
zip_more R [] [] x y are is = (is, tt)
zip_more R [] (b ∷ ys) x y are is = absurd are
zip_more R (a ∷ xs) [] x y are is = absurd are
zip_more R (a ∷ xs) (b ∷ ys) x y are is = (are.0, zip_more R xs ys x y are.1 is)

-- ---- the lines of a turn

ended_accepted : (calls : List Call) (names : List (ℕ × List ℕ)) (now : ℕ) (plays : List Play) → accepted calls (ended_lines names now plays) ≡ []
ended_accepted calls names now [] = refl
ended_accepted calls names now (play ∷ plays) = by_end (ends_by now play.sched) (ended_accepted calls names now plays)
  where
    by_end : (b : Bool) → accepted calls (ended_lines names now plays) ≡ []
        → accepted calls (if b then line.Ended play.id (unwrap_or (first_name_of names play.id.0) []) ∷ ended_lines names now plays else ended_lines names now plays) ≡ []
    by_end true e = e
    by_end false e = e

promise_accepted : (calls : List Call) (t : Turn) → accepted calls (promise_lines t) ≡ []
promise_accepted calls Went = refl
promise_accepted calls (Due ordinal) = refl
promise_accepted calls (Done ordinal) = refl

no_more : (cs : List Call) → cs ++ [] ≡ cs
no_more [] = refl
no_more (c ∷ cs) = ap (λ ds. c ∷ ds) (no_more cs)

turn_accepted : (calls : List Call) (told : Told) → accepted calls (after_turn told).lines ≡ accepted calls told.lines
turn_accepted calls told =
    let ended = ended_lines told.machine.first_names (next told.machine.context) told.machine.world.scheds.items in
    let promises = promise_lines (turn_of told.machine.context) in
    accepted_split calls told.lines (lines_after told.machine)
    ∙ ap (λ cs. accepted calls told.lines ++ cs) (accepted_split calls ended promises
    ∙ ap (λ cs. cs ++ accepted calls promises) (ended_accepted calls told.machine.first_names (next told.machine.context) told.machine.world.scheds.items)
    ∙ promise_accepted calls (turn_of told.machine.context))
    ∙ no_more (accepted calls told.lines)

ended_clean : (names : List (ℕ × List ℕ)) (now : ℕ) (plays : List Play) → IsClean (ended_lines names now plays)
unfolding is_refused_line
ended_clean names now [] = clean_none
ended_clean names now (play ∷ plays) = by_end (ends_by now play.sched) (ended_clean names now plays)
  where
    by_end : (b : Bool) → IsClean (ended_lines names now plays) → IsClean (if b then line.Ended play.id (unwrap_or (first_name_of names play.id.0) []) ∷ ended_lines names now plays else ended_lines names now plays)
    by_end true e = All-cons (λ (l : Line). is_refused_line l ≡ false) (line.Ended play.id (unwrap_or (first_name_of names play.id.0) [])) (ended_lines names now plays) refl e
    by_end false e = e

promise_clean : (t : Turn) → IsClean (promise_lines t)
unfolding is_refused_line
promise_clean Went = clean_none
promise_clean (Due ordinal) = clean_one (line.Resolved ordinal) refl
promise_clean (Done ordinal) = clean_one (line.Resolved ordinal) refl

turn_clean : (told : Told) → IsClean told.lines → IsClean (after_turn told).lines
turn_clean told clean =
    clean_more told.lines (lines_after told.machine) clean
    (clean_more (ended_lines told.machine.first_names (next told.machine.context) told.machine.world.scheds.items) (promise_lines (turn_of told.machine.context))
    (ended_clean told.machine.first_names (next told.machine.context) told.machine.world.scheds.items) (promise_clean (turn_of told.machine.context)))

end_clean : (told : Told) → IsClean told.lines → IsClean (lines_at_end told)
unfolding is_refused_line
end_clean told clean = by_state (is_closed told.machine.context.state)
  where
    by_state : (b : Bool) → IsClean (if b then told.lines ++ line.Complete told.machine.world.spec.length ∷ [] else told.lines)
    by_state true = clean_more told.lines (line.Complete told.machine.world.spec.length ∷ []) clean (clean_one (line.Complete told.machine.world.spec.length) refl)
    by_state false = clean

turned_values : (t : Turn) (c : ContextView) (s : ℕ) → IsIn s (values (turned_by t c).suspensions) → IsIn s (values c.suspensions)
turned_values Went c s h = h
turned_values (Due ordinal) c s h = removed_value (is_at (nat_cmp c.time)) c.suspensions s h
turned_values (Done ordinal) c s h = h

turn_values : (c : ContextView) (s : ℕ) → IsIn s (values (context_after c).suspensions) → IsIn s (values c.suspensions)
unfolding context_after
turn_values c s h = turned_values (turn_of c) (record c { time = next c }) s h

-- ---- fronts

finished_front : (told : Told) (tape : List World) → IsFront told.lines (finished told tape).lines
finished_front told tape = by_state (is_closed told.machine.context.state)
  where
    by_state : (b : Bool) → IsFront told.lines (if b then told.lines ++ line.Complete told.machine.world.spec.length ∷ [] else told.lines)
    by_state true = front_more told.lines (line.Complete told.machine.world.spec.length ∷ [])
    by_state false = ([], sym (none told.lines))
      where
        none : (ls : List Line) → ls ++ [] ≡ ls
        none [] = refl
        none (l ∷ ls) = ap (λ ks. l ∷ ks) (none ls)

-- ---- how sessions end

-- The pruned script's session completes where the whole one does, refuses nothing, and has as many worlds, each without the nodes that are not kept.
pub record IsPrunedOf (fs : Flags) (whole part : Played) : Type 0 where
  pub end : whole.end ≡ Completed → part.end ≡ Completed
  pub clean : IsClean part.lines
  pub worlds : AllZip (IsWithout fs) part.tape whole.tape

same_end : (place : ℕ → ℕ) (c : ContextView) → end_of (part_context place c) ≡ end_of c
same_end place c = ap (λ b. if is_closed c.state then Completed else if b then Stalled c.time else Idle) (still c.started)
  where
    still : (o : Option ℕ) → is_some (option_map place o) ≡ is_some o
    still None = refl
    still (Some n) = refl

closed_end : (c : ContextView) → c.state ≡ Closed → end_of c ≡ Completed
closed_end c is = ap (λ (s : State). if is_closed s then Completed else if is_some c.started then Stalled c.time else Idle) is

module _ (held : Paths) (calls : List Call) (after : AreCallsAfter 0 calls) (lines : List Line) (once : AreDistinct (made lines)) where
  abbrev Reached : Told → Told → Type 0
  Reached = IsReached held calls after lines once

  abbrev its_flags : Flags
  its_flags = flags held calls after lines once

  abbrev place : ℕ → ℕ
  place = its_place held calls after lines once

  abbrev its_heard : List ℕ
  its_heard = heard held calls after lines once

  abbrev pub part_calls : List Call
  part_calls = map (renumbered (its_kept held calls after lines once)) (its_kept held calls after lines once)

  abbrev folder : ℕ → Paths
  folder = same_folder held calls after lines once

  calls_of_list : (h : ℕ) → IsHolder its_heard calls after h → (whole part : Told) → Reached whole part → IsFront (after_list folder calls whole h).lines lines
      → Reached (after_list folder calls whole h) (after_list folder part_calls part (place h))
  calls_of_list h holder whole part reached front =
      subst (λ cs. Reached (after_list folder calls whole h) (after_calls folder part cs)) (sym (list_of_holder its_heard calls after h holder))
      (list_reached held calls after lines once h holder whole part reached front)

  finished_pruned : (whole part : Told) (tape other : List World) → Reached whole part → AllZip (IsWithout its_flags) other tape → IsPrunedOf its_flags (finished whole tape) (finished part other)
  finished_pruned whole part tape other reached worlds = record {
    end = λ e. ap end_of reached.alike.context ∙ same_end place whole.machine.context ∙ e;
    clean = end_clean part reached.clean;
    worlds = worlds;
  }

  -- a turn
  turn_reached : (whole part : Told) → Reached whole part → whole.machine.context.time < whole.machine.context.spec.length → Reached (after_turn whole) (after_turn part)
  turn_reached whole part reached early =
      let alike = reached.alike in
      let m = whole.machine in
      let none = place_zero its_heard calls after in
      record {
        alike = subst (λ cs. AreAlike its_flags (live held calls after lines once) place (later [] cs) (after_turn whole).machine (after_turn part).machine) (sym (turn_accepted calls whole)) (record {
          world =
              subst (λ (c : ContextView). IsWithout its_flags (world_after c.time (next c) part.machine.world) (world_after m.context.time (next m.context) m.world)) (sym alike.context)
              (after_quantum its_flags part.machine.world m.world m.context.time (next m.context) alike.world);
          names = alike.names;
          told = alike.told;
          context = ap context_after alike.context ∙ after_placed place none m.context;
          steady = turn_steady m alike.steady (subst (λ (s : ContextSpec). m.context.time < s.length) alike.steady.spec early);
        });
        count = reached.count ∙ ap (λ cs. suc (length (flags_of (live held calls after lines once) cs))) (sym (turn_accepted calls whole));
        clean = turn_clean part reached.clean;
        suspended = λ s h. reached.suspended s (turn_values m.context s h);
        started = λ s e. reached.started s (sym (turn_started m.context) ∙ e);
      }

  turns_front : (left : ℕ) (told : Told) (tape : List World) → IsFront told.lines (turns left folder calls told tape).lines
  turns_front zero told tape = finished_front told tape
  turns_front (suc left) told tape =
      front_trans told.lines (after_turn told).lines _ (front_more told.lines (lines_after told.machine))
      (by_case (turn_of told.machine.context) (turns_front left (after_turn told) (tape ++ told.machine.world ∷ [])) (λ next. turns_front left next (tape ++ told.machine.world ∷ [])))
    where
      by_running : (b : Bool) (next : Told) → ((next : Told) → IsFront next.lines (turns left folder calls next (tape ++ told.machine.world ∷ [])).lines)
          → IsFront next.lines (if b then turns left folder calls next (tape ++ told.machine.world ∷ []) else finished next (tape ++ told.machine.world ∷ [])).lines
      by_running true next each = each next
      by_running false next each = finished_front next (tape ++ told.machine.world ∷ [])

      by_case : (turn : Turn) → IsFront (after_turn told).lines (turns left folder calls (after_turn told) (tape ++ told.machine.world ∷ [])).lines
          → ((next : Told) → IsFront next.lines (turns left folder calls next (tape ++ told.machine.world ∷ [])).lines)
          → IsFront (after_turn told).lines (
          by_turn turn (turns left folder calls (after_turn told) (tape ++ told.machine.world ∷ []))
          (λ ordinal. if is_running (after_list folder calls (after_turn told) ordinal).machine.context.state then turns left folder calls (after_list folder calls (after_turn told) ordinal) (tape ++ told.machine.world ∷ [])
          else finished (after_list folder calls (after_turn told) ordinal) (tape ++ told.machine.world ∷ []))
          (λ ordinal. finished (after_list folder calls (after_turn told) ordinal) (tape ++ told.machine.world ∷ []))
          ).lines
      by_case Went went each = went
      by_case (Due ordinal) went each =
          let next = after_list folder calls (after_turn told) ordinal in
          front_trans (after_turn told).lines next.lines _ (calls_front folder (held_by ordinal calls) (after_turn told)) (by_running (is_running next.machine.context.state) next each)
      by_case (Done ordinal) went each =
          let next = after_list folder calls (after_turn told) ordinal in
          front_trans (after_turn told).lines next.lines _ (calls_front folder (held_by ordinal calls) (after_turn told)) (finished_front next (tape ++ told.machine.world ∷ []))

  -- ---- turn by turn

  abbrev ArePruned : ℕ → Type 0
  ArePruned left =
      (whole part : Told) (tape other : List World) → Reached whole part → AllZip (IsWithout its_flags) other tape → is_some whole.machine.context.started ≡ true
      → (0 < left → whole.machine.context.time < whole.machine.context.spec.length) → IsFront (turns left folder calls whole tape).lines lines
      → IsPrunedOf its_flags (turns left folder calls whole tape) (turns left folder part_calls part other)

  one_turn : (left : ℕ) → ArePruned left → ArePruned (suc left)
  one_turn left more whole part tape other reached worlds begun early front = by_case (turn_of c) refl front
    where
      c : ContextView
      c = whole.machine.context

      now : Told
      now = after_turn whole

      part_now : Told
      part_now = after_turn part

      longer : List World
      longer = tape ++ whole.machine.world ∷ []

      longer_part : List World
      longer_part = other ++ part.machine.world ∷ []

      worlds_now : AllZip (IsWithout its_flags) longer_part longer
      worlds_now = zip_more (IsWithout its_flags) other tape part.machine.world whole.machine.world worlds reached.alike.world

      turned : Reached now part_now
      turned = turn_reached whole part reached (early (omega arith))

      -- before the length
      early_now : (turn : Turn) → turn_of c ≡ turn → is_last turn ≡ false → now.machine.context.time < now.machine.context.spec.length
      early_now turn is last =
          let time = turn_time c in
          let below = not_last c turn is last in
          let frames : now.machine.context.spec.length ≡ c.spec.length = ap (λ (s : ContextSpec). s.length) (turn_spec c) in
          omega (arith, time, below, frames)

      -- what the turn leads to in the part
      part_turns : turn_of part.machine.context ≡ part_turn place (turn_of c)
      part_turns = ap turn_of reached.alike.context ∙ turn_placed place (place_zero its_heard calls after) c

      whole_next : Turn → Played
      whole_next turn =
          by_turn turn (turns left folder calls now longer)
          (λ ordinal. if is_running (after_list folder calls now ordinal).machine.context.state then turns left folder calls (after_list folder calls now ordinal) longer else finished (after_list folder calls now ordinal) longer)
          (λ ordinal. finished (after_list folder calls now ordinal) longer)

      part_next : Turn → Played
      part_next turn =
          by_turn turn (turns left folder part_calls part_now longer_part)
          (λ ordinal. if is_running (after_list folder part_calls part_now ordinal).machine.context.state then turns left folder part_calls (after_list folder part_calls part_now ordinal) longer_part
          else finished (after_list folder part_calls part_now ordinal) longer_part)
          (λ ordinal. finished (after_list folder part_calls part_now ordinal) longer_part)

      -- the lists that run where a suspension is due
      whole_list : ℕ → Told
      whole_list ordinal = after_list folder calls now ordinal

      part_list : ℕ → Told
      part_list ordinal = after_list folder part_calls part_now (place ordinal)

      running_front : (b : Bool) (ordinal : ℕ) → IsFront (whole_list ordinal).lines (if b then turns left folder calls (whole_list ordinal) longer else finished (whole_list ordinal) longer).lines
      running_front true ordinal = turns_front left (whole_list ordinal) longer
      running_front false ordinal = finished_front (whole_list ordinal) longer

      running_pruned : (ordinal : ℕ) → turn_of c ≡ Due ordinal → Reached (whole_list ordinal) (part_list ordinal) → (b : Bool)
          → IsFront (if b then turns left folder calls (whole_list ordinal) longer else finished (whole_list ordinal) longer).lines lines
          → IsPrunedOf its_flags (if b then turns left folder calls (whole_list ordinal) longer else finished (whole_list ordinal) longer)
          (if b then turns left folder part_calls (part_list ordinal) longer_part else finished (part_list ordinal) longer_part)
      running_pruned ordinal is listed true front' =
          let keeps = list_keeps folder (held_by ordinal calls) now in
          more (whole_list ordinal) (part_list ordinal) longer longer_part listed worlds_now (list_begun folder (held_by ordinal calls) now (turn_begun whole begun))
          (λ some. let below = early_now (Due ordinal) is refl in let time = keeps.time in let frames = ap (λ (s : ContextSpec). s.length) keeps.spec in omega (arith, below, time, frames)) front'
      running_pruned ordinal is listed false front' = finished_pruned (whole_list ordinal) (part_list ordinal) longer longer_part listed worlds_now

      due : (ordinal : ℕ) → turn_of c ≡ Due ordinal → IsFront (whole_next (Due ordinal)).lines lines → IsPrunedOf its_flags (whole_next (Due ordinal)) (part_next (Due (place ordinal)))
      due ordinal is front' =
          let holder = reached.suspended ordinal (found_value (is_at (nat_cmp (next c))) c.suspensions ordinal (due_found folder calls after c ordinal is)) in
          let running = is_running (whole_list ordinal).machine.context.state in
          let listed = calls_of_list ordinal holder now part_now turned (front_trans (whole_list ordinal).lines (whole_next (Due ordinal)).lines lines (running_front running ordinal) front') in
          subst (λ b. IsPrunedOf its_flags (whole_next (Due ordinal)) (if b then turns left folder part_calls (part_list ordinal) longer_part else finished (part_list ordinal) longer_part))
          (sym (ap (λ (x : ContextView). is_running x.state) listed.alike.context))
          (running_pruned ordinal is listed running front')

      -- the list of startRendering is left out
      done : (ordinal : ℕ) → turn_of c ≡ Done ordinal → IsPrunedOf its_flags (whole_next (Done ordinal)) (part_next (Done (place ordinal)))
      done ordinal is =
          subst (λ cs. IsPrunedOf its_flags (whole_next (Done ordinal)) (finished (after_calls folder part_now cs) longer_part))
          (sym (list_of_starter its_heard calls after ordinal (reached.started ordinal (done_found folder calls after c ordinal begun is)))) (record {
            end = λ e. closed_end part_now.machine.context (ap (λ (x : ContextView). x.state) turned.alike.context ∙ done_closes c ordinal is);
            clean = end_clean part_now turned.clean;
            worlds = worlds_now;
          })

      by_case : (turn : Turn) → turn_of c ≡ turn → IsFront (whole_next turn).lines lines → IsPrunedOf its_flags (whole_next turn) (part_next (turn_of part.machine.context))
      by_case Went is front' =
          subst (λ t. IsPrunedOf its_flags (whole_next Went) (part_next t)) (sym (part_turns ∙ ap (part_turn place) is))
          (more now part_now longer longer_part turned worlds_now (turn_begun whole begun) (λ some. early_now Went is refl) front')
      by_case (Due ordinal) is front' = subst (λ t. IsPrunedOf its_flags (whole_next (Due ordinal)) (part_next t)) (sym (part_turns ∙ ap (part_turn place) is)) (due ordinal is front')
      by_case (Done ordinal) is front' = subst (λ t. IsPrunedOf its_flags (whole_next (Done ordinal)) (part_next t)) (sym (part_turns ∙ ap (part_turn place) is)) (done ordinal is)

  turns_pruned : (left : ℕ) → ArePruned left
  turns_pruned zero whole part tape other reached worlds begun early front = finished_pruned whole part tape other reached worlds
  turns_pruned (suc left) whole part tape other reached worlds begun early front = one_turn left (turns_pruned left) whole part tape other reached worlds begun early front

  -- ---- a session

  -- as many quanta are left
  same_quanta : (whole part : Told) → Reached whole part → quanta_left part.machine ≡ quanta_left whole.machine
  same_quanta whole part reached =
      ap (λ (c : ContextView). quanta_from c.time part.machine.world.spec) reached.alike.context
      ∙ ap (quanta_from whole.machine.context.time) reached.alike.world.spec

  rendered_pruned : (whole part : Told) → Reached whole part → whole.machine.context.time < whole.machine.context.spec.length → IsFront (rendered folder calls whole).lines lines
      → IsPrunedOf its_flags (rendered folder calls whole) (rendered folder part_calls part)
  rendered_pruned whole part reached early front =
      subst (λ b. IsPrunedOf its_flags (rendered folder calls whole) (if b then turns (quanta_left part.machine) folder part_calls part [] else finished part [])) (sym (ap (λ (c : ContextView). is_some c.started) reached.alike.context ∙ still whole.machine.context.started))
      (subst (λ n. IsPrunedOf its_flags (rendered folder calls whole) (if is_some whole.machine.context.started then turns n folder part_calls part [] else finished part [])) (sym (same_quanta whole part reached))
      (by_start (is_some whole.machine.context.started) refl front))
    where
      still : (o : Option ℕ) → is_some (option_map place o) ≡ is_some o
      still None = refl
      still (Some n) = refl

      by_start : (b : Bool) → is_some whole.machine.context.started ≡ b → IsFront (if b then turns (quanta_left whole.machine) folder calls whole [] else finished whole []).lines lines
          → IsPrunedOf its_flags (if b then turns (quanta_left whole.machine) folder calls whole [] else finished whole []) (if b then turns (quanta_left whole.machine) folder part_calls part [] else finished part [])
      by_start true is front' = turns_pruned (quanta_left whole.machine) whole part [] [] reached tt is (λ some. early) front'
      by_start false is front' = finished_pruned whole part [] [] reached tt

  rendered_front : (told : Told) → IsFront told.lines (rendered folder calls told).lines
  rendered_front told = by_start (is_some told.machine.context.started)
    where
      by_start : (b : Bool) → IsFront told.lines (if b then turns (quanta_left told.machine) folder calls told [] else finished told []).lines
      by_start true = turns_front (quanta_left told.machine) told []
      by_start false = finished_front told []

  -- the session of the calls, from machines that are alike
  pub replayed_pruned : (whole part : Told) → Reached whole part → whole.machine.context.time < whole.machine.context.spec.length → lines ≡ (rendered folder calls (after_list folder calls whole 0)).lines
      → IsPrunedOf its_flags (rendered folder calls (after_list folder calls whole 0)) (rendered folder part_calls (after_list folder part_calls part 0))
  replayed_pruned whole part reached early is =
      let main = after_list folder calls whole 0 in
      let front : IsFront (rendered folder calls main).lines lines = ([], is ∙ sym (none (rendered folder calls main).lines)) in
      let listed = calls_of_list 0 (inl refl) whole part reached (front_trans main.lines (rendered folder calls main).lines lines (rendered_front main) front) in
      let keeps = list_keeps folder (held_by 0 calls) whole in
      rendered_pruned main (after_list folder part_calls part 0)
      (subst (λ n. Reached main (after_list folder part_calls part n)) (place_zero its_heard calls after) listed)
      (let time = keeps.time in let frames = ap (λ (s : ContextSpec). s.length) keeps.spec in omega (arith, early, time, frames)) front
    where
      none : (ls : List Line) → ls ++ [] ≡ ls
      none [] = refl
      none (l ∷ ls) = ap (λ ks. l ∷ ks) (none ls)
