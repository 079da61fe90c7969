-- Each call of a session is made at most once: each list runs once.
use Rattle.std.proofs.Common.{ℕ, zero, suc, ◌≡◌, ◌+◌, length, List, [], ◌∷◌, ◌++◌, map, filter, Bool, true, false, cond, Option, None, Some, Ordering, ◌⊎◌, inl, inr, refl, sym, ◌∙◌, ap, subst, arith, append_assoc}
use Rattle.std.specs.Prelude.{◌==◌, if◌then◌else◌, option_to_list, unwrap_or, is_some, nat_le}
use Rattle.std.specs.Ordering.{nat_cmp, match_ordering}
use Rattle.std.specs.declared.cmp.Ordering.TheVariants.{Less, Equal, Greater}
use Rattle.std.specs.BTreeMap.{insert_entry, is_at}
use Rattle.std.specs.Map.{lookup, remove_entry}
use Rattle.std.proofs.lemmas.Bool.{eqb-true}
use Rattle.wa_base.specs.Contexts.{is_supported}
use Rattle.law_base.specs.Members.{IsIn, AreDistinct}
use Rattle.law_base.proofs.Members.{IsIn-append, IsIn-append_first, IsIn-append_second, IsIn-filter}
use Rattle.ctx_state.specs.Context.{ContextView, next, turn_of, turned_by, after_turn as context_after, due_or_not, ordinal_at, is_closed}
use Rattle.ctx_state.specs.declared.context.Turn.{Turn}
use Rattle.ctx_state.specs.declared.context.Turn.TheVariants.{Went, Due, Done}
use Rattle.script_ast.specs.Operations.{new_name}
use Rattle.name_book.specs.Book.{first_name_of}
use Rattle.wa_base.specs.declared.exceptions.Exc.TheVariants.{NotSupported}
use Rattle.transcript.specs.declared.lines.EndWord.TheVariants.{Refused}
use Rattle.script_ast.specs.declared.call_list.Call.{Call}
use Rattle.script_ast.specs.declared.call_list.Script.{Script}
use Rattle.script_ast.specs.WellFormed.{AreCallsAfter}
use Rattle.transcript.specs.declared.lines.Line.{Line}
use Rattle.transcript.specs.declared.lines.Line.TheVariants as line
use Rattle.meaning.specs.declared.world.World.{World}
use Rattle.meaning.specs.declared.scheds.Play.{Play}
use Rattle.control_msgs.specs.Messages.{ends_by}
use Rattle.control_side.specs.declared.decide.Decided.{Decided}
use Rattle.control_side.specs.declared.decide.Decided.TheVariants as comes_to
use Rattle.control_side.specs.Machine.{Machine}
use Rattle.control_side.specs.Step.{decided_with, settled, step, with_edit}
use Rattle.control_side.specs.Turns.{ended_lines}
use Rattle.session.specs.Folders.{Folder}
use Rattle.session.specs.Session.{Told, after_call, after_calls, after_turn, after_list, lines_after, promise_lines, held_by, main_list, first_told, quanta_left, is_running, finished, lines_at_end, by_turn, turns, rendered, session_of}
use Rattle.prune.proofs.Members.{map-IsIn}
use Rattle.prune_top.proofs.Lists.{AreDistinct-append, append-AreDistinct}
use Rattle.prune_top.proofs.Places.{ordinals, placed, one_call}
use Rattle.prune_top.proofs.Accepted.{made, made_split}
use Rattle.prune_top.proofs.Begun.{list_begun, turn_begun}

-- ---- values of entries

abbrev pub values : List (ℕ × ℕ) → List ℕ
values es = map (λ e. e.1) es

pub inserted_value : (es : List (ℕ × ℕ)) (k v x : ℕ) → IsIn x (values (insert_entry nat_cmp es k v)) → (x ≡ v) ⊎ IsIn x (values es)
inserted_value [] k v x (inl e) = inl e
inserted_value [] k v x (inr h) = absurd h
inserted_value (e ∷ es) k v x h = by_order (nat_cmp k e.0) (inserted_value es k v x) h
  where
    by_order : (o : Ordering) → (IsIn x (values (insert_entry nat_cmp es k v)) → (x ≡ v) ⊎ IsIn x (values es)) → IsIn x (values (match_ordering o ((k, v) ∷ e ∷ es) ((e.0, v) ∷ es) (e ∷ insert_entry nat_cmp es k v)))
        → (x ≡ v) ⊎ IsIn x (values (e ∷ es))
    by_order Less more (inl is) = inl is
    by_order Less more (inr m) = inr m
    by_order Equal more (inl is) = inl is
    by_order Equal more (inr m) = inr (inr m)
    by_order Greater more (inl is) = inr (inl is)
    by_order Greater more (inr m) = elim (more m) [ inl is ↦ inl is | inr k ↦ inr (inr k) ]

inserted_distinct : (es : List (ℕ × ℕ)) (k v : ℕ) → AreDistinct (values es) → (IsIn v (values es) → ⊥) → AreDistinct (values (insert_entry nat_cmp es k v))
inserted_distinct [] k v d none = ((λ h. h), tt)
inserted_distinct (e ∷ es) k v d none = by_order (nat_cmp k e.0) (inserted_distinct es k v d.1 (λ h. none (inr h)))
  where
    by_order : (o : Ordering) → AreDistinct (values (insert_entry nat_cmp es k v)) → AreDistinct (values (match_ordering o ((k, v) ∷ e ∷ es) ((e.0, v) ∷ es) (e ∷ insert_entry nat_cmp es k v)))
    by_order Less more = (none, d)
    by_order Equal more = ((λ h. none (inr h)), d.1)
    by_order Greater more = ((λ h. elim (inserted_value es k v e.1 h) [ inl is ↦ none (inl (sym is)) | inr m ↦ d.0 m ]), more)

pub removed_value : (test : ℕ → Bool) (es : List (ℕ × ℕ)) (x : ℕ) → IsIn x (values (remove_entry test es)) → IsIn x (values es)
removed_value test [] x h = h
removed_value test (e ∷ es) x h = by_test (test e.0) (removed_value test es x) h
  where
    by_test : (b : Bool) → (IsIn x (values (remove_entry test es)) → IsIn x (values es)) → IsIn x (values (cond b es (e ∷ remove_entry test es))) → IsIn x (values (e ∷ es))
    by_test true more k = inr k
    by_test false more (inl is) = inl is
    by_test false more (inr k) = inr (more k)

removed_distinct : (test : ℕ → Bool) (es : List (ℕ × ℕ)) → AreDistinct (values es) → AreDistinct (values (remove_entry test es))
removed_distinct test [] d = d
removed_distinct test (e ∷ es) d = by_test (test e.0) (removed_distinct test es d.1)
  where
    by_test : (b : Bool) → AreDistinct (values (remove_entry test es)) → AreDistinct (values (cond b es (e ∷ remove_entry test es)))
    by_test true more = d.1
    by_test false more = ((λ h. d.0 (removed_value test es e.1 h)), more)

-- what is found is there, and is gone where it is removed
pub found_value : (test : ℕ → Bool) (es : List (ℕ × ℕ)) (v : ℕ) → lookup test es ≡ Some v → IsIn v (values es)
found_value test [] v is = absurd cc
found_value test (e ∷ es) v is = by_test (test e.0) (found_value test es v) is
  where
    by_test : (b : Bool) → (lookup test es ≡ Some v → IsIn v (values es)) → cond b (Some e.1) (lookup test es) ≡ Some v → IsIn v (values (e ∷ es))
    by_test true more found = inl (let same : e.1 ≡ v = cc in sym same)
    by_test false more found = inr (more found)

removed_gone : (test : ℕ → Bool) (es : List (ℕ × ℕ)) (v : ℕ) → AreDistinct (values es) → lookup test es ≡ Some v → IsIn v (values (remove_entry test es)) → ⊥
removed_gone test [] v d is h = h
removed_gone test (e ∷ es) v d is h = by_test (test e.0) (removed_gone test es v d.1) is h
  where
    by_test : (b : Bool) → (lookup test es ≡ Some v → IsIn v (values (remove_entry test es)) → ⊥) → cond b (Some e.1) (lookup test es) ≡ Some v → IsIn v (values (cond b es (e ∷ remove_entry test es))) → ⊥
    by_test true more found k = d.0 (let same : e.1 ≡ v = cc in subst (λ n. IsIn n (values es)) (sym same) k)
    by_test false more found (inl same) = d.0 (subst (λ n. IsIn n (values es)) same (found_value test es v found))
    by_test false more found (inr k) = more found k

-- ---- the calls whose lists are still to run

abbrev pub pending : ContextView → List ℕ
pending c = option_to_list c.started ++ values c.suspensions

record IsPendingAfter (old new : ContextView) (ordinal : ℕ) : Type 0 where
  distinct : AreDistinct (pending new)
  among : (s : ℕ) → IsIn s (pending new) → IsIn s (pending old) ⊎ (s ≡ ordinal)

same_pending : (c : ContextView) (ordinal : ℕ) → AreDistinct (pending c) → IsPendingAfter c c ordinal
same_pending c ordinal d = record { distinct = d; among = λ s h. inl h }

edit_pending : (m : Machine) (call : Call) (d : Decided) → AreDistinct (pending m.context) → (IsIn call.ordinal (pending m.context) → ⊥) → IsPendingAfter m.context (settled m call d).machine.context call.ordinal
edit_pending m call (comes_to.Answer said) d none = same_pending m.context call.ordinal d
edit_pending m call comes_to.Start d none = record {
  distinct = ((λ h. none (IsIn-append_second (option_to_list m.context.started) (values m.context.suspensions) call.ordinal h)), (AreDistinct-append (option_to_list m.context.started) (values m.context.suspensions) d).1);
  among = λ s h. elim h [ inl e ↦ inr e | inr k ↦ inl (IsIn-append_second (option_to_list m.context.started) (values m.context.suspensions) s k) ];
}
edit_pending m call (comes_to.Suspend frame) d none =
    let parts = AreDistinct-append (option_to_list m.context.started) (values m.context.suspensions) d in
    record {
      distinct = append-AreDistinct (option_to_list m.context.started) (values (insert_entry nat_cmp m.context.suspensions frame call.ordinal)) parts.0
          (inserted_distinct m.context.suspensions frame call.ordinal parts.1 (λ h. none (IsIn-append_second (option_to_list m.context.started) (values m.context.suspensions) call.ordinal h)))
          (λ x h k. elim (inserted_value m.context.suspensions frame call.ordinal x k) [
            | inl e ↦ none (IsIn-append_first (option_to_list m.context.started) (values m.context.suspensions) call.ordinal (subst (λ n. IsIn n (option_to_list m.context.started)) e h))
            | inr l ↦ parts.2 x h l
          ]);
      among = λ s h. elim (IsIn-append (option_to_list m.context.started) (values (insert_entry nat_cmp m.context.suspensions frame call.ordinal)) s h) [
        | inl k ↦ inl (IsIn-append_first (option_to_list m.context.started) (values m.context.suspensions) s k)
        | inr k ↦ elim (inserted_value m.context.suspensions frame call.ordinal s k) [
          | inl e ↦ inr e
          | inr l ↦ inl (IsIn-append_second (option_to_list m.context.started) (values m.context.suspensions) s l)
        ]
      ];
    }
edit_pending m call comes_to.Resume d none = record { distinct = d; among = λ s h. inl h }
edit_pending m call (comes_to.Change e) d none = by_name (new_name call.op)
  where
    by_name : (o : Option (List ℕ)) → IsPendingAfter m.context (with_edit m e o).context call.ordinal
    by_name None = same_pending m.context call.ordinal d
    by_name (Some name) = same_pending m.context call.ordinal d

-- ---- lists of calls

-- each call of a list adds its line
pub calls_made : (folder : Folder) (cs : List Call) (told : Told) → made (after_calls folder told cs).lines ≡ made told.lines ++ ordinals cs
calls_made folder [] told = no_more (made told.lines)
  where
    no_more : (ns : List ℕ) → ns ≡ ns ++ []
    no_more [] = refl
    no_more (n ∷ ns) = ap (λ ks. n ∷ ks) (no_more ns)
calls_made folder (c ∷ cs) told =
    calls_made folder cs (after_call told (folder (length told.lines)) c)
    ∙ ap (λ ns. ns ++ ordinals cs) (made_split told.lines (line.Call c.ordinal (step told.machine (folder (length told.lines)) c).answer ∷ []))
    ∙ append_assoc (made told.lines) (c.ordinal ∷ []) (ordinals cs)

record ArePendingAfter (old new : ContextView) (cs : List Call) : Type 0 where
  distinct : AreDistinct (pending new)
  among : (s : ℕ) → IsIn s (pending new) → IsIn s (pending old) ⊎ IsIn s (ordinals cs)

calls_pending : (folder : Folder) (cs : List Call) (told : Told) → AreDistinct (pending told.machine.context) → AreDistinct (ordinals cs) → ((n : ℕ) → IsIn n (pending told.machine.context) → IsIn n (ordinals cs) → ⊥)
    → ArePendingAfter told.machine.context (after_calls folder told cs).machine.context cs
calls_pending folder [] told d e apart = record { distinct = d; among = λ s h. inl h }
calls_pending folder (c ∷ cs) told d e apart =
    let held = folder (length told.lines) in
    let one = edit_pending told.machine c (decided_with told.machine held c.op) d (λ h. apart c.ordinal h (inl refl)) in
    let rest = calls_pending folder cs (after_call told held c) one.distinct e.1 (λ n h k. elim (one.among n h) [ inl l ↦ apart n l (inr k) | inr is ↦ e.0 (subst (λ m. IsIn m (ordinals cs)) is k) ]) in
    record {
      distinct = rest.distinct;
      among = λ s h. elim (rest.among s h) [
        | inl k ↦ elim (one.among s k) [ inl l ↦ inl l | inr is ↦ inr (inl is) ]
        | inr k ↦ inr (inr k)
      ];
    }

-- ---- the lines that add no call

ended_made : (names : List (ℕ × List ℕ)) (now : ℕ) (plays : List Play) → made (ended_lines names now plays) ≡ []
ended_made names now [] = refl
ended_made names now (play ∷ plays) = by_end (ends_by now play.sched) (ended_made names now plays)
  where
    by_end : (b : Bool) → made (ended_lines names now plays) ≡ []
        → made (if b then line.Ended play.id (unwrap_or (first_name_of names play.id.0) []) ∷ ended_lines names now plays else ended_lines names now plays) ≡ []
    by_end true e = e
    by_end false e = e

promise_made : (t : Turn) → made (promise_lines t) ≡ []
promise_made Went = refl
promise_made (Due ordinal) = refl
promise_made (Done ordinal) = refl

no_more_made : (ns : List ℕ) → ns ++ [] ≡ ns
no_more_made [] = refl
no_more_made (n ∷ ns) = ap (λ ks. n ∷ ks) (no_more_made ns)

pub turn_made : (told : Told) → made (after_turn told).lines ≡ made told.lines
turn_made told =
    made_split told.lines (lines_after told.machine)
    ∙ ap (λ ns. made told.lines ++ ns) (made_split (ended_lines told.machine.first_names (next told.machine.context) told.machine.world.scheds.items) (promise_lines (turn_of told.machine.context))
    ∙ ap (λ ns. ns ++ made (promise_lines (turn_of told.machine.context))) (ended_made told.machine.first_names (next told.machine.context) told.machine.world.scheds.items)
    ∙ promise_made (turn_of told.machine.context))
    ∙ no_more_made (made told.lines)

pub finished_made : (told : Told) → made (lines_at_end told) ≡ made told.lines
finished_made told = by_state (is_closed told.machine.context.state)
  where
    by_state : (b : Bool) → made (if b then told.lines ++ line.Complete told.machine.world.spec.length ∷ [] else told.lines) ≡ made told.lines
    by_state true = made_split told.lines (line.Complete told.machine.world.spec.length ∷ []) ∙ no_more_made (made told.lines)
    by_state false = refl

-- ---- a session

module _ (folder : Folder) (calls : List Call) (after : AreCallsAfter 0 calls) where
  -- The lists that have run, and what was made in them: each call once. The lists that are still to run are those of calls that were made.
  record IsOnce (ran : List ℕ) (told : Told) : Type 0 where
    distinct : AreDistinct (made told.lines)
    holders : (n : ℕ) → IsIn n (made told.lines) → (c : Call) × IsIn c calls × (c.ordinal ≡ n) × IsIn c.holder ran
    due : (s : ℕ) → IsIn s (pending told.machine.context) → IsIn s (made told.lines) × (IsIn s ran → ⊥)
    due_once : AreDistinct (pending told.machine.context)
    lists : (h : ℕ) → IsIn h ran → (h ≡ 0) ⊎ IsIn h (made told.lines)

  sublist_distinct : (n : ℕ) (cs : List Call) (p : Call → Bool) → AreCallsAfter n cs → AreDistinct (ordinals (filter p cs))
  sublist_distinct n [] p are = tt
  sublist_distinct n (c ∷ cs) p are = by_test (p c) (sublist_distinct (n + 1) cs p are.1)
    where
      by_test : (b : Bool) → AreDistinct (ordinals (filter p cs)) → AreDistinct (ordinals (cond b (c ∷ filter p cs) (filter p cs)))
      by_test true d = (
        (λ h.
            let found = map-IsIn (λ (x : Call). x.ordinal) (filter p cs) c.ordinal h in
            let low = (placed (n + 1) cs are.1 found.0 (IsIn-filter p cs found.0 found.1).0).later in
            let at = are.0.0 in
            let is = found.2 in
            absurd (omega (arith, low, at, is))),
        d,
      )
      by_test false d = d

  -- a list that has not run
  module _ (ran : List ℕ) (told : Told) (h : ℕ) (fresh : IsIn h ran → ⊥) (once : IsOnce ran told) where
    in_list : (n : ℕ) → IsIn n (ordinals (held_by h calls)) → (c : Call) × IsIn c calls × (n ≡ c.ordinal) × (c.holder ≡ h)
    in_list n k =
        let found = map-IsIn (λ (x : Call). x.ordinal) (held_by h calls) n k in
        let both = IsIn-filter (λ (x : Call). x.holder == h) calls found.0 found.1 in
        (found.0, both.0, found.2, eqb-true found.0.holder h both.1)

    not_made : (n : ℕ) → IsIn n (made told.lines) → IsIn n (ordinals (held_by h calls)) → ⊥
    not_made n m k =
        let there = once.holders n m in
        let here = in_list n k in
        let same : there.0 ≡ here.0 = one_call 0 calls after there.0 here.0 there.1 here.1 (there.2 ∙ here.2) in
        fresh (subst (λ x. IsIn x ran) (ap (λ (x : Call). x.holder) same ∙ here.3) there.3)

    list_distinct : AreDistinct (made (after_list folder calls told h).lines)
    list_distinct =
        subst (λ (ns : List ℕ). AreDistinct ns) (sym (calls_made folder (held_by h calls) told))
        (append-AreDistinct (made told.lines) (ordinals (held_by h calls)) once.distinct (sublist_distinct 0 calls (λ (x : Call). x.holder == h) after) not_made)

  -- a list that is due runs
  list_once : (ran : List ℕ) (told : Told) (h : ℕ) → (IsIn h ran → ⊥) → (h ≡ 0) ⊎ IsIn h (made told.lines) → (IsIn h (pending told.machine.context) → ⊥) → IsOnce ran told
      → IsOnce (h ∷ ran) (after_list folder calls told h)
  list_once ran told h fresh known gone once =
      let list = held_by h calls in
      let is = calls_made folder list told in
      let still : (n : ℕ) → IsIn n (made told.lines) → IsIn n (made (after_list folder calls told h).lines) = λ n m. subst (λ (ns : List ℕ). IsIn n ns) (sym is) (IsIn-append_first (made told.lines) (ordinals list) n m) in
      let after_them = calls_pending folder list told once.due_once (sublist_distinct 0 calls (λ (x : Call). x.holder == h) after) (λ n p k. not_made ran told h fresh once n (once.due n p).0 k) in
      record {
        distinct = list_distinct ran told h fresh once;
        holders = λ n m. elim (IsIn-append (made told.lines) (ordinals list) n (subst (λ (ns : List ℕ). IsIn n ns) is m)) [
          | inl k ↦ let c = once.holders n k in (c.0, c.1, c.2, inr c.3)
          | inr k ↦ let c = in_list ran told h fresh once n k in (c.0, c.1, sym c.2, inl c.3)
        ];
        due = λ s p. elim (after_them.among s p) [
          | inl k ↦ let d = once.due s k in (still s d.0, (λ r. elim r [ inl e ↦ gone (subst (λ x. IsIn x (pending told.machine.context)) e k) | inr l ↦ d.1 l ]))
          | inr k ↦ (
            subst (λ (ns : List ℕ). IsIn s ns) (sym is) (IsIn-append_second (made told.lines) (ordinals list) s k),
            (λ r. by_ran s k r),
          )
        ];
        due_once = after_them.distinct;
        lists = λ x r. elim r [
          | inl e ↦ subst (λ y. (y ≡ 0) ⊎ IsIn y (made (after_list folder calls told h).lines)) (sym e) (elim known [ inl z ↦ inl z | inr m ↦ inr (still h m) ])
          | inr l ↦ elim (once.lists x l) [ inl z ↦ inl z | inr m ↦ inr (still x m) ]
        ];
      }
    where
      -- a call of the list is none whose list has run
      by_ran : (s : ℕ) → IsIn s (ordinals (held_by h calls)) → IsIn s (h ∷ ran) → ⊥
      by_ran s k r =
          let c = in_list ran told h fresh once s k in
          let p = placed 0 calls after c.0 c.1 in
          elim r [
            | inl e ↦ let low = p.held in let is = c.2 in let holder = c.3 in absurd (omega (arith, low, e, is, holder))
            | inr l ↦ elim (once.lists s l) [
              | inl z ↦ let low = p.later in let is = c.2 in absurd (omega (arith, low, z, is))
              | inr m ↦ not_made ran told h fresh once s m k
            ]
          ]

  -- ---- a turn

  record IsPendingTurn (old new : ContextView) (t : Turn) : Type 0 where
    distinct : AreDistinct (pending new)
    among : (s : ℕ) → IsIn s (pending new) → IsIn s (pending old)

  turned_pending : (c : ContextView) (t : Turn) → AreDistinct (pending c) → IsPendingTurn c (turned_by t (record c { time = next c })) t
  turned_pending c Went d = record { distinct = d; among = λ s h. h }
  turned_pending c (Due ordinal) d =
      let parts = AreDistinct-append (option_to_list c.started) (values c.suspensions) d in
      let test = is_at (nat_cmp (next c)) in
      record {
        distinct = append-AreDistinct (option_to_list c.started) (values (remove_entry test c.suspensions)) parts.0 (removed_distinct test c.suspensions parts.1) (λ x h k. parts.2 x h (removed_value test c.suspensions x k));
        among = λ s h. elim (IsIn-append (option_to_list c.started) (values (remove_entry test c.suspensions)) s h) [
          | inl k ↦ IsIn-append_first (option_to_list c.started) (values c.suspensions) s k
          | inr k ↦ IsIn-append_second (option_to_list c.started) (values c.suspensions) s (removed_value test c.suspensions s k)
        ];
      }
  turned_pending c (Done ordinal) d = record { distinct = d; among = λ s h. h }

  turn_once : (ran : List ℕ) (told : Told) → IsOnce ran told → IsOnce ran (after_turn told)
  unfolding context_after
  turn_once ran told once =
      let is = turn_made told in
      let turned = turned_pending told.machine.context (turn_of told.machine.context) once.due_once in
      record {
        distinct = subst (λ (ns : List ℕ). AreDistinct ns) (sym is) once.distinct;
        holders = λ n m. once.holders n (subst (λ (ns : List ℕ). IsIn n ns) is m);
        due = λ s p. let d = once.due s (turned.among s p) in (subst (λ (ns : List ℕ). IsIn s ns) (sym is) d.0, d.1);
        due_once = turned.distinct;
        lists = λ h r. elim (once.lists h r) [ inl z ↦ inl z | inr m ↦ inr (subst (λ (ns : List ℕ). IsIn h ns) (sym is) m) ];
      }

  due_of : (o : Option ℕ) (ordinal : ℕ) → due_or_not o ≡ Due ordinal → o ≡ Some ordinal
  due_of None ordinal is = absurd cc
  due_of (Some n) ordinal is = let same : n ≡ ordinal = cc in ap Some same

  -- the suspension that is due
  pub due_found : (c : ContextView) (ordinal : ℕ) → turn_of c ≡ Due ordinal → ordinal_at (next c) c.suspensions ≡ Some ordinal
  due_found c ordinal is = by_length (nat_le c.spec.length (next c)) is
    where
      by_length : (b : Bool) → (if b then Done (unwrap_or c.started 0) else due_or_not (ordinal_at (next c) c.suspensions)) ≡ Due ordinal → ordinal_at (next c) c.suspensions ≡ Some ordinal
      by_length true e = absurd cc
      by_length false e = due_of (ordinal_at (next c) c.suspensions) ordinal e

  -- the call that started the rendering
  pub done_found : (c : ContextView) (ordinal : ℕ) → is_some c.started ≡ true → turn_of c ≡ Done ordinal → c.started ≡ Some ordinal
  done_found c ordinal begun is = by_length (nat_le c.spec.length (next c)) c.started refl begun is
    where
      by_length : (b : Bool) (o : Option ℕ) → c.started ≡ o → is_some o ≡ true → (if b then Done (unwrap_or o 0) else due_or_not (ordinal_at (next c) c.suspensions)) ≡ Done ordinal → c.started ≡ Some ordinal
      by_length true None same some e = absurd cc
      by_length true (Some n) same some e = same ∙ (let k : n ≡ ordinal = cc in ap Some k)
      by_length false o same some e = absurd (by_due (ordinal_at (next c) c.suspensions) e)
        where
          by_due : (o : Option ℕ) → due_or_not o ≡ Done ordinal → ⊥
          by_due None e = absurd cc
          by_due (Some n) e = absurd cc

  due_gone : (c : ContextView) (ordinal : ℕ) → AreDistinct (pending c) → turn_of c ≡ Due ordinal → IsIn ordinal (pending (context_after c)) → ⊥
  unfolding context_after
  due_gone c ordinal d is h =
      let parts = AreDistinct-append (option_to_list c.started) (values c.suspensions) d in
      let test = is_at (nat_cmp (next c)) in
      let there = found_value test c.suspensions ordinal (due_found c ordinal is) in
      let h' : IsIn ordinal (option_to_list c.started ++ values (remove_entry test c.suspensions)) = subst (λ t. IsIn ordinal (pending (turned_by t (record c { time = next c })))) is h in
      elim (IsIn-append (option_to_list c.started) (values (remove_entry test c.suspensions)) ordinal h') [
        | inl k ↦ parts.2 ordinal k there
        | inr k ↦ removed_gone test c.suspensions ordinal parts.1 (due_found c ordinal is) k
      ]

  -- ---- turn by turn

  abbrev AreOnce : ℕ → Type 0
  AreOnce left = (ran : List ℕ) (told : Told) (tape : List World) → is_some told.machine.context.started ≡ true → IsOnce ran told → AreDistinct (made (turns left folder calls told tape).lines)

  finished_once : (told : Told) (tape : List World) → AreDistinct (made told.lines) → AreDistinct (made (finished told tape).lines)
  finished_once told tape d = subst (λ (ns : List ℕ). AreDistinct ns) (sym (finished_made told)) d

  one_turn : (left : ℕ) → AreOnce left → AreOnce (suc left)
  one_turn left more ran told tape begun once = by_case (turn_of told.machine.context) refl
    where
      now : Told
      now = after_turn told

      longer : List World
      longer = tape ++ told.machine.world ∷ []

      still_begun : is_some now.machine.context.started ≡ true
      still_begun = turn_begun told begun

      turned : IsOnce ran now
      turned = turn_once ran told once

      due_runs : (ordinal : ℕ) → turn_of told.machine.context ≡ Due ordinal → IsOnce (ordinal ∷ ran) (after_list folder calls now ordinal)
      due_runs ordinal is =
          let there : IsIn ordinal (pending told.machine.context) =
          IsIn-append_second (option_to_list told.machine.context.started) (values told.machine.context.suspensions) ordinal
          (found_value (is_at (nat_cmp (next told.machine.context))) told.machine.context.suspensions ordinal (due_found told.machine.context ordinal is))
          in
          let due = once.due ordinal there in
          list_once ran now ordinal due.1 (inr (subst (λ (ns : List ℕ). IsIn ordinal ns) (sym (turn_made told)) due.0)) (due_gone told.machine.context ordinal once.due_once is) turned

      by_running : (b : Bool) (ordinal : ℕ) → IsOnce (ordinal ∷ ran) (after_list folder calls now ordinal)
          → AreDistinct (made (if b then turns left folder calls (after_list folder calls now ordinal) longer else finished (after_list folder calls now ordinal) longer).lines)
      by_running true ordinal listed = more (ordinal ∷ ran) (after_list folder calls now ordinal) longer (list_begun folder (held_by ordinal calls) now still_begun) listed
      by_running false ordinal listed = finished_once (after_list folder calls now ordinal) longer listed.distinct

      by_case : (turn : Turn) → turn_of told.machine.context ≡ turn → AreDistinct (made (
          by_turn turn (turns left folder calls now longer)
          (λ ordinal. if is_running (after_list folder calls now ordinal).machine.context.state then turns left folder calls (after_list folder calls now ordinal) longer else finished (after_list folder calls now ordinal) longer)
          (λ ordinal. finished (after_list folder calls now ordinal) longer)
          ).lines)
      by_case Went is = more ran now longer still_begun turned
      by_case (Due ordinal) is = by_running (is_running (after_list folder calls now ordinal).machine.context.state) ordinal (due_runs ordinal is)
      by_case (Done ordinal) is =
          let there : IsIn ordinal (pending told.machine.context) =
          IsIn-append_first (option_to_list told.machine.context.started) (values told.machine.context.suspensions) ordinal
          (subst (λ (o : Option ℕ). IsIn ordinal (option_to_list o)) (sym (done_found told.machine.context ordinal begun is)) (inl refl))
          in
          finished_once (after_list folder calls now ordinal) longer (list_distinct ran now ordinal (once.due ordinal there).1 turned)

  turns_once : (left : ℕ) → AreOnce left
  turns_once zero ran told tape begun once = finished_once told tape once.distinct
  turns_once (suc left) ran told tape begun once = one_turn left (turns_once left) ran told tape begun once

  rendered_once : (ran : List ℕ) (told : Told) → IsOnce ran told → AreDistinct (made (rendered folder calls told).lines)
  rendered_once ran told once = by_start (is_some told.machine.context.started) refl
    where
      by_start : (b : Bool) → is_some told.machine.context.started ≡ b → AreDistinct (made (if b then turns (quanta_left told.machine) folder calls told [] else finished told []).lines)
      by_start true is = turns_once (quanta_left told.machine) ran told [] is once
      by_start false is = finished_once told [] once.distinct

  first_once : (told : Told) → told.lines ≡ [] → pending told.machine.context ≡ [] → IsOnce [] told
  first_once told none nothing = record {
    distinct = subst (λ (ns : List Line). AreDistinct (made ns)) (sym none) tt;
    holders = λ n m. absurd (subst (λ (ns : List Line). IsIn n (made ns)) none m);
    due = λ s p. absurd (subst (λ (ns : List ℕ). IsIn s ns) nothing p);
    due_once = subst (λ (ns : List ℕ). AreDistinct ns) (sym nothing) tt;
    lists = λ h r. absurd r;
  }

-- no call of a session is made twice
pub made_once : (folder : Folder) (script : Script) → AreCallsAfter 0 script.calls → AreDistinct (made (session_of folder script).lines)
unfolding session_of
made_once folder script after = by_support (is_supported script.context)
  where
    first : Told
    first = first_told script.context

    by_support : (b : Bool) → AreDistinct (made (if b then rendered folder script.calls (main_list folder script.calls first) else record { lines = []; end = Refused (NotSupported None); tape = [] }).lines)
    by_support true =
        rendered_once folder script.calls after (0 ∷ []) (main_list folder script.calls first)
        (list_once folder script.calls after [] first 0 (λ h. h) (inl refl) (λ h. h) (first_once folder script.calls after first refl refl))
    by_support false = tt
