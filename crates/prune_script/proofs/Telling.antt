-- What the calls do that the lines of a session accept, line by line.
use Rattle.std.proofs.Common.{ℕ, ◌≡◌, ◌+◌, ◌<◌, ◌≤◌, List, [], ◌∷◌, ◌++◌, take, get_or, length, Some, None, sym, ◌∙◌, ap, subst, arith}
use Rattle.std.specs.Prelude.{All}
use Rattle.std.specs.List.{filter_map, cons_option}
use Rattle.std.proofs.lemmas.List.{take_more, take_all, append-nil}
use Rattle.std.proofs.lemmas.List.Elements.{All-nil, All-cons, All-push, filter_map-append}
use Rattle.name_book.specs.declared.book.Object.{Object}
use Rattle.script_ast.specs.declared.call_list.Call.{Call}
use Rattle.transcript.specs.declared.lines.Line.{Line}
use Rattle.prune_script.specs.Pruned.{accepted_by}
use Rattle.prune_script.specs.Deeds.{DeedView, deed, deeds, IsBelow, AreBelow}
use Rattle.prune_script.specs.Names.{TellsNames}
use Rattle.prune_script.proofs.Doing.{after, after_push, deeds_push, deed_below}
use Rattle.prune_script.proofs.Naming.{names_at_first}

-- after these lines: what the calls did, and for what names stand
pub record IsTold (calls : List Call) (lines : List Line) (bindings : List (List ℕ × Object)) (ds : List DeedView) : Type 0 where
  pub deeds_are : ds ≡ deeds [] (filter_map (accepted_by calls) lines)
  pub names : TellsNames bindings (after [] (filter_map (accepted_by calls) lines))
  pub low : All (λ (c : Call). c.ordinal < length calls + 1) (after [] (filter_map (accepted_by calls) lines))
  pub below : AreBelow (length calls + 1) ds

module _ (calls : List Call) where
  abbrev IsLow : Call → Type 0
  IsLow c = c.ordinal < length calls + 1

  abbrev accepted : List Line → List Call
  accepted lines = filter_map (accepted_by calls) lines

  pub told_first : (bindings : List (List ℕ × Object)) (ds : List DeedView) → bindings ≡ [] → ds ≡ [] → IsTold calls [] bindings ds
  told_first bindings ds none empty = record {
    deeds_are = empty;
    names = subst (λ (b : List (List ℕ × Object)). TellsNames b []) (sym none) names_at_first;
    low = All-nil IsLow;
    below = subst (AreBelow (length calls + 1)) (sym empty) (All-nil (IsBelow (length calls + 1)));
  }

  accepted_push : (lines : List Line) (line : Line) → accepted (lines ++ line ∷ []) ≡ accepted lines ++ cons_option (accepted_by calls line) []
  accepted_push lines line = filter_map-append (accepted_by calls) lines (line ∷ [])

  module _ (lines : List Line) (line : Line) (bindings : List (List ℕ × Object)) (ds : List DeedView) (told : IsTold calls lines bindings ds) where
    -- a line that accepts no call
    pub told_other : accepted_by calls line ≡ None → IsTold calls (lines ++ line ∷ []) bindings ds
    told_other none = record {
      deeds_are = told.deeds_are ∙ ap (deeds []) (sym same);
      names = subst (λ cs. TellsNames bindings (after [] cs)) (sym same) told.names;
      low = subst (λ cs. All IsLow (after [] cs)) (sym same) told.low;
      below = told.below;
    }
      where
        same : accepted (lines ++ line ∷ []) ≡ accepted lines
        same = accepted_push lines line ∙ ap (λ o. accepted lines ++ cons_option o []) none ∙ append-nil (accepted lines)

    -- a line that accepts one
    pub told_call : (call : Call) (bindings' : List (List ℕ × Object)) (ds' : List DeedView) → accepted_by calls line ≡ Some call → IsLow call
        → ((earlier : List Call) → TellsNames bindings earlier → TellsNames bindings' (call ∷ earlier))
        → ds' ≡ ds ++ deed (after [] (accepted lines)) call ∷ []
        → IsTold calls (lines ++ line ∷ []) bindings' ds'
    told_call call bindings' ds' is low named done = record {
      deeds_are = done ∙ ap (λ xs. xs ++ deed (after [] (accepted lines)) call ∷ []) told.deeds_are ∙ sym (deeds_push [] (accepted lines) call) ∙ ap (deeds []) (sym same);
      names = subst (λ cs. TellsNames bindings' cs) (sym later) (named (after [] (accepted lines)) told.names);
      low = subst (λ cs. All IsLow cs) (sym later) (All-cons IsLow call (after [] (accepted lines)) low told.low);
      below = subst (AreBelow (length calls + 1)) (sym done)
          (All-push (IsBelow (length calls + 1)) ds (deed (after [] (accepted lines)) call) told.below (deed_below (length calls + 1) (omega arith) (after [] (accepted lines)) call told.low low));
    }
      where
        same : accepted (lines ++ line ∷ []) ≡ accepted lines ++ call ∷ []
        same = accepted_push lines line ∙ ap (λ o. accepted lines ++ cons_option o []) is

        later : after [] (accepted (lines ++ line ∷ [])) ≡ call ∷ after [] (accepted lines)
        later = ap (after []) same ∙ after_push [] (accepted lines) call

  -- by the number of lines
  pub told_more : (lines : List Line) (i : ℕ) (line : Line) (bindings : List (List ℕ × Object)) (ds : List DeedView) → i < length lines → line ≡ get_or lines i line
      → IsTold calls (take i lines ++ line ∷ []) bindings ds → IsTold calls (take (i + 1) lines) bindings ds
  told_more lines i line bindings ds low is told = subst (λ ls. IsTold calls ls bindings ds) (ap (λ l. take i lines ++ l ∷ []) is ∙ sym (take_more lines i line low)) told

  pub told_all : (lines : List Line) (i : ℕ) (bindings : List (List ℕ × Object)) (ds : List DeedView) → length lines ≤ i → IsTold calls (take i lines) bindings ds → IsTold calls lines bindings ds
  told_all lines i bindings ds past told = subst (λ ls. IsTold calls ls bindings ds) (take_all i lines past) told
