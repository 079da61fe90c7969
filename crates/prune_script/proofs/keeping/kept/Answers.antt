use Rattle.std.proofs.Common.{rules, ℕ, ◌≡◌, ◌+◌, ◌<◌, ◌++◌, ◌∷◌, [], List, Option, Some, None, length, set, Bool, true, false, refl, append_assoc, sym, ◌∙◌, ap, subst, arith}
use Rattle.std.specs.Prelude.{if◌then◌else◌, slice_index_or}
use Rattle.prune_script.specs.Live.{is_marked}
use Rattle.std.specs.Vec.Iter.{into_iter_items}
use Rattle.std.proofs.lemmas.List.{append-nil, length-append, length_push, length-set, length-replicate}
use Rattle.script_ast.specs.declared.call_list.Call.{Call}
use Rattle.script_ast.specs.WellFormed.{IsCallAt, AreCallsAfter}
use Rattle.prune_script.specs.Pruned.{is_start}
use Rattle.prune_script.proofs.Calls.{next_call}
use Rattle.prune_script.proofs.Holding.{kept_of, renumbered_all, none_holding, first_kept, some_step, none_step}
use Rattle.prune_script.proofs.keeping.kept.Goals as goal
use Rattle.prune_script.proofs.keeping.kept.Goals.{then-not-is_start, else-not-is_start}

-- the next call has its place as its ordinal
at_next : (calls yielded left rest : List Call) (call : Call) → AreCallsAfter 0 calls → yielded ++ left ≡ calls → left ≡ call ∷ rest → IsCallAt (0 + length yielded + 1) call × (length yielded < length calls)
at_next calls yielded left rest call are all next =
    let same : yielded ++ call ∷ rest ≡ calls = ap (λ cs. yielded ++ cs) (sym next) ∙ all in
    (next_call 0 yielded rest call (subst (λ cs. AreCallsAfter 0 cs) (sym same) are), (let n = ap length same in let m = length-append yielded (call ∷ rest) in omega arith))

same_length : (b : Bool) (places : List (Option ℕ)) (ordinal : ℕ) (place : Option ℕ) → length (if b then places else set places ordinal place) ≡ length places
same_length true places ordinal place = refl
same_length false places ordinal place = length-set places ordinal place

pub loop-call-init : goal.loop-call-init
loop-call-init c =
    let given = c.into_iter-call-iterator.ensures.into_iter_gives in
    let blank = c.in_ok-places.ensures.items_if_clones_equal (λ y e. search rules) in
    record {
      rest = search rules;
      counted = search rules;
      few = search rules;
      places = length-set c.in_ok-places.places.items 0 (Some 0) ∙ ap length blank ∙ length-replicate {A = Option ℕ} (length c.args.heard.now) None;
      kept = λ ordinals tells. (
        none_holding ordinals,
        first_kept ordinals (length c.args.heard.now) c.new-kept.result.items (set c.in_ok-places.places.items 0 (Some 0)) c.new-kept.ensures.items
            (ap (λ ps. set ps 0 (Some 0)) blank) (let n = c.requires.heard in omega arith),
      );
    }

pub list_place-requires-clause-ordinal : goal.list_place-requires-clause-ordinal
list_place-requires-clause-ordinal c =
    let at = at_next c.args.calls c.loop-call.yielded (into_iter_items c.loop-call.call-iterator) (into_iter_items c.next.new.self) c.in-Some.call c.requires.calls c.loop-call.invariant.rest c.in-Some.ensures.steps.0 in
    let here = at.0.0 in let low = at.1 in let n = c.requires.heard in omega arith

pub list_place-requires-clause-holder : goal.list_place-requires-clause-holder
list_place-requires-clause-holder c =
    let at = at_next c.args.calls c.loop-call.yielded (into_iter_items c.loop-call.call-iterator) (into_iter_items c.next.new.self) c.in-Some.call c.requires.calls c.loop-call.invariant.rest c.in-Some.ensures.steps.0 in
    let holder = at.0.1 in let low = at.1 in let n = c.requires.heard in let p = c.loop-call.invariant.places in let s = ap length c.as_slice.ensures.value in omega arith

pub overflow_cast-ordinal : goal.overflow_cast-ordinal
overflow_cast-ordinal c =
    let at = at_next c.args.calls c.loop-call.yielded (into_iter_items c.loop-call.call-iterator) (into_iter_items c.next.new.self) c.in-Some.call c.requires.calls c.loop-call.invariant.rest c.in-Some.ensures.steps.0 in
    let here = at.0.0 in
    let few = c.loop-call.invariant.few in
    let range : c.in-Some.call.ordinal < 4294967296 = c.in-Some-list_place.ensures.range in
    let number : c.len.result ≡ length c.loop-call.kept.items = search rules in
    let low : c.len.result + 1 < 4294967296 = omega arith in
    search rules

pub overflow_add-ordinal : goal.overflow_add-ordinal
overflow_add-ordinal c =
    let at = at_next c.args.calls c.loop-call.yielded (into_iter_items c.loop-call.call-iterator) (into_iter_items c.next.new.self) c.in-Some.call c.requires.calls c.loop-call.invariant.rest c.in-Some.ensures.steps.0 in
    let here = at.0.0 in
    let few = c.loop-call.invariant.few in
    let range : c.in-Some.call.ordinal < 4294967296 = c.in-Some-list_place.ensures.range in
    let number : c.len.result ≡ length c.loop-call.kept.items = search rules in
    let low : c.len.result + 1 < 4294967296 = omega arith in
    search rules

pub index_mut-requires-then-not-is_start : goal.index_mut-requires-then-not-is_start
index_mut-requires-then-not-is_start c =
    let at = at_next c.args.calls c.loop-call.yielded (into_iter_items c.loop-call.call-iterator) (into_iter_items c.next.new.self) c.in-Some.call c.requires.calls c.loop-call.invariant.rest c.in-Some.ensures.steps.0 in
    let here = at.0.0 in let low = at.1 in let n = c.requires.heard in
    let p = c.loop-call.invariant.places in
    let within : c.in-Some.call.ordinal < length c.loop-call.places.items = omega arith in
    search rules

pub loop-call-preserved-in-Continue-branch-2 : goal.loop-call-preserved-in-Continue-branch-2
loop-call-preserved-in-Continue-branch-2 c =
    let call = c.in-Some.call in
    let yielded = c.loop-call.yielded in
    let kept = c.loop-call.kept.items in
    let places = c.loop-call.places.items in
    let left = into_iter_items c.next.new.self in
    let next : into_iter_items c.loop-call.call-iterator ≡ call ∷ left = c.in-Some.ensures.steps.0 in
    let at = at_next c.args.calls yielded (into_iter_items c.loop-call.call-iterator) left call c.requires.calls c.loop-call.invariant.rest next in
    let here : call.ordinal ≡ length yielded + 1 = let h = at.0.0 in omega arith in
    let later : call.holder < call.ordinal = let h = at.0.1 in omega arith in
    let low : call.ordinal < length places = let l = at.1 in let n = c.requires.heard in let p = c.loop-call.invariant.places in omega arith in
    let number : c.len.result ≡ length kept = search rules in
    let added : c.push.new.self.items ≡ kept ++ record call { ordinal = length kept + 1; holder = c.in-Some-list_place.holder } ∷ [] =
    c.in_ok-push-in-Some-list_place.ensures.items ∙ ap (λ (x : Call). kept ++ x ∷ []) (c.numbered.ensures ∙ ap (λ n. record call { ordinal = n + 1; holder = c.in-Some-list_place.holder }) number) in
    let marked : c.if-not-is_start.places.items ≡ (if is_start call.op then places else set places call.ordinal (Some (length kept + 1))) = elim c.if-not-is_start.branch [
      | then-not-is_start w ↦
          ap (λ v. v.items) w.places-is ∙ ap (λ n. set places call.ordinal (Some (n + 1))) number
          ∙ ap (λ b. if b then places else set places call.ordinal (Some (length kept + 1))) (sym w.if-not-is_start.true ∙ c.is_start.ensures)
      | else-not-is_start w ↦
          ap (λ v. v.items) w.places-is
          ∙ ap (λ b. if b then places else set places call.ordinal (Some (length kept + 1))) (sym w.if-not-is_start.false ∙ c.is_start.ensures)
    ] in
    record {
      rest = append_assoc yielded (call ∷ []) left ∙ ap (λ cs. yielded ++ cs) (sym next) ∙ c.loop-call.invariant.rest;
      counted = let was = c.loop-call.invariant.counted in let gone = c.in-Some.ensures.steps.1 in let short = ap length next in omega arith;
      few = let f = c.loop-call.invariant.few in let n = ap length added in let m = length-append kept (record call { ordinal = length kept + 1; holder = c.in-Some-list_place.holder } ∷ []) in let y = length_push yielded call in omega arith;
      places = ap length marked ∙ same_length (is_start call.op) places call.ordinal (Some (length kept + 1)) ∙ c.loop-call.invariant.places;
      kept = λ ordinals tells.
          let was = c.loop-call.invariant.kept ordinals tells in
          some_step ordinals c.args.heard.now tells yielded call was.0 here later kept places was.1 c.in-Some-list_place.holder c.push.new.self.items c.if-not-is_start.places.items
          (c.in-Some-list_place.ensures.place ∙ ap (λ (ps : List (Option ℕ)). if is_marked c.args.heard.now call.ordinal then slice_index_or ps call.holder None else None) c.as_slice.ensures.value)
          low added marked;
    }

pub loop-call-preserved : goal.loop-call-preserved
loop-call-preserved c =
    let call = c.in-Some.call in
    let yielded = c.loop-call.yielded in
    let left = into_iter_items c.next.new.self in
    let next : into_iter_items c.loop-call.call-iterator ≡ call ∷ left = c.in-Some.ensures.steps.0 in
    let at = at_next c.args.calls yielded (into_iter_items c.loop-call.call-iterator) left call c.requires.calls c.loop-call.invariant.rest next in
    let here : call.ordinal ≡ length yielded + 1 = let h = at.0.0 in omega arith in
    let later : call.holder < call.ordinal = let h = at.0.1 in omega arith in
    record {
      rest = append_assoc yielded (call ∷ []) left ∙ ap (λ cs. yielded ++ cs) (sym next) ∙ c.loop-call.invariant.rest;
      counted = let was = c.loop-call.invariant.counted in let gone = c.in-Some.ensures.steps.1 in let short = ap length next in omega arith;
      few = let f = c.loop-call.invariant.few in let y = length_push yielded call in omega arith;
      places = c.loop-call.invariant.places;
      kept = λ ordinals tells.
          let was = c.loop-call.invariant.kept ordinals tells in
          none_step ordinals c.args.heard.now tells yielded call was.0 here later c.loop-call.kept.items c.loop-call.places.items was.1 (c.in-None-list_place.ensures.place ∙ ap (λ (ps : List (Option ℕ)). if is_marked c.args.heard.now call.ordinal then slice_index_or ps call.holder None else None) c.as_slice.ensures.value);
    }

pub returns : goal.returns
returns c ordinals tells =
    let was = c.loop-call.invariant.kept ordinals tells in
    let none : length (into_iter_items c.loop-call.call-iterator) ≡ 0 = let e = c.in-None.ensures.steps.0 in let n = c.loop-call.invariant.counted in omega arith in
    let all : c.loop-call.yielded ≡ c.args.calls =
    sym (ap (λ cs. c.loop-call.yielded ++ cs) (no_items (into_iter_items c.loop-call.call-iterator) none) ∙ append-nil c.loop-call.yielded) ∙ c.loop-call.invariant.rest in
    c.from.ensures ∙ was.1.kept_are ∙ ap (λ cs. renumbered_all (kept_of ordinals cs)) all
  where
    no_items : (cs : List Call) → length cs ≡ 0 → cs ≡ []
    no_items [] l = refl
    no_items (x ∷ xs) l = absurd (omega arith)
